-- What a search in the problem of an instance's ground finds is right.
use Rattle.std.proofs.Common.{◌≡◌, ℕ, ◌+◌, ◌*◌, ◌≤◌, Bool, true, false, nat_lt, List, [], ◌∷◌, ◌++◌, length, map, take, refl, sym, ap, subst, ◌∙◌, arith, if◌then◌else◌, int_lt}
use Rattle.std.specs.Prelude.{All, sum_by}
use Rattle.std.proofs.lemmas.Bool.{false≢true}
use Rattle.std.proofs.lemmas.Bool.Decides.{nat_tests}
use Rattle.std.proofs.lemmas.List.{take_all}
use Rattle.std.proofs.lemmas.List.Elements.{All-head, All-tail}
use Rattle.ep_base.specs.Reads.{MOST_NUMBER}
use Rattle.cnf_core.specs.Clauses.{Satisfies}
use Rattle.cnf_core.specs.Events.{LogEvent, LogState, clauses_of, given, givens, is_given, step}
use Rattle.cnf_core.specs.Formula.{Cnf}
use Rattle.cnf_core.specs.Steps.{IsConsistent}
use Rattle.enc_var.specs.Layouts.{decoded_cells}
use Rattle.ep_answer.proofs.Posing.{map_meant}
use Rattle.ep_answer.specs.Answered.{FoundCells, IsRightAnswer}
use Rattle.ep_answer.specs.Problems.{CanSearch, ProblemState, base_clauses}
use Rattle.ep_flat.specs.Flats.{MapsCells}
use Rattle.ep_tree.specs.Binding.{Instance, Refusal, over_limit}
use Rattle.ep_tree.specs.Closed.{IsClosed}
use Rattle.ep_tree.specs.Limits.{MOST_SIZE, MOST_WEIGHT}
use Rattle.ep_tree.specs.Measures.{Met, farthest_reach, size_of}
use Rattle.ep_tree.specs.Solutions.{cell_count, goal_value, instance_limits, instance_size, instance_weight, limits_passed, met_instance, or_weight}
use Rattle.ep_tree.specs.declared.values.Mode.{Mode}
use Rattle.ep_base.specs.declared.operators.Limit.{Limit}
use Rattle.ep_print.specs.Answers.{AnswerTree, HasTypedValues}
use Rattle.ep_unroll.specs.Cells.{instance_cells}
use Rattle.ep_solve.specs.Formulas.{IsFormulaFor, Poses, Solves}
use Rattle.ep_solve.specs.Reading.{answer_from}
use Rattle.ep_solve.specs.Right.{IsRight}
use Rattle.ep_solve.proofs.Answering.{Allows, answered-right, answered-typed, read-solution}
use Rattle.ep_solve.proofs.Cells.{numbers-same}

-- ---- limits

cut-refusals : (test : Bool) (r : Refusal) (rest : List Refusal) → (if test then r ∷ [] else []) ++ rest ≡ [] → (test ≡ false) × (rest ≡ [])
cut-refusals true r rest h = absurd cc
cut-refusals false r rest h = (refl, h)

within : (most n : ℕ) → nat_lt most n ≡ false → n ≤ most
within most n h = grind (arith, nat_tests)

cut-weight : (rs : List Refusal) (weight : ℕ) → or_weight rs weight ≡ [] → (rs ≡ []) × (weight ≤ MOST_WEIGHT)
unfolding or_weight
cut-weight (r ∷ rs) weight h = absurd cc
cut-weight [] weight h = (refl, within MOST_WEIGHT weight (untrue (nat_lt MOST_WEIGHT weight) h))
  where
    untrue : (test : Bool) → (if test then over_limit Limit.Weight ∷ [] else []) ≡ [] → test ≡ false
    untrue true e = absurd cc
    untrue false e = refl

-- an instance within the limits has at most so many nodes for the size and weight that it has
pub few-nodes : (mode : Mode) (i : Instance) (nodes : ℕ) → instance_limits mode i ≡ [] → nodes ≤ 4 * (instance_size mode i + instance_weight mode i) → nodes ≤ 100000000
unfolding instance_limits limits_passed instance_size
few-nodes mode i nodes h few =
    let ms : List Met = met_instance mode i in
    let cells : ℕ = sum_by (λ f. cell_count f.indices) i.finds in
    let weight = cut-weight (limits_passed mode cells ms) (instance_weight mode i) h in
    let size = cut-refusals (nat_lt MOST_SIZE (cells + size_of ms)) (over_limit Limit.Size) (if int_lt MOST_NUMBER (farthest_reach mode ms) then over_limit Limit.Reach ∷ [] else []) weight.0 in
    let small : cells + size_of ms ≤ MOST_SIZE = within MOST_SIZE (cells + size_of ms) size.0 in
    omega (arith, few, small, weight.1)

-- ---- what is allowed after a search

take-own : {A : Type 0} (xs : List A) → take (length xs) xs ≡ xs
take-own xs = take_all (length xs) xs (omega arith)

-- a log that goes on from one has the same base
pub same-base : (old new : LogState) → old.base ≡ length old.events → take (length old.events) new.events ≡ old.events → new.base ≡ old.base → base_clauses new ≡ base_clauses old
same-base old new whole front base =
    ap (λ n. givens (take n new.events)) (base ∙ whole)
    ∙ ap givens front
    ∙ sym (ap (λ n. givens (take n old.events)) whole ∙ ap givens (take-own old.events))

-- the clauses of givens are the givens
all-given : (events : List LogEvent) → All (λ e. is_given e ≡ true) events → clauses_of events ≡ givens events
all-given [] h = refl
all-given (given clause ∷ events) h = ap (λ cs. clause ∷ cs) (all-given events (All-tail (λ e. is_given e ≡ true) (given clause) events h))
all-given (step clause hints ∷ events) h = absurd (false≢true (All-head (λ e. is_given e ≡ true) (step clause hints) events h))

-- a search may begin in a problem that poses an instance
pub posed-can-search : (mode : Mode) (i : Instance) (p : ProblemState) (log : LogState) → Poses mode i p log → CanSearch p log
posed-can-search mode i p log h = record {
  is_whole = h.is_whole;
  are_givens = h.are_givens;
  is_base = h.is_base;
  notes = h.notes;
  consistent = subst (All IsConsistent) (sym (all-given log.events h.are_givens ∙ h.givens_are)) h.stands.consistent;
  clauses = h.clauses;
  maps = subst (λ cs. MapsCells (map (λ one. one.values) cs) (map (λ e. e.domain) p.layout) p.variables) (sym h.cells) h.stands.maps;
  meaning = λ s met.
      map_meant s p.layout p.variables (map (λ one. one.values) (instance_cells i)) h.stands.maps (h.stands.is_layout.meaning s (subst (Satisfies s) h.givens_are met));
}

-- the problem's own clauses are the formula's
pub own-base : (old : LogState) → old.base ≡ length old.events → base_clauses old ≡ givens old.events
own-base old whole = ap (λ n. givens (take n old.events)) whole ∙ ap givens (take-own old.events)

pub own-clauses : (mode : Mode) (i : Instance) (p : ProblemState) (old : LogState) → (h : Poses mode i p old) → base_clauses old ≡ h.formula.clauses
own-clauses mode i p old h = own-base old h.is_base ∙ h.givens_are

-- clauses that are a formula's allow exactly the solutions of the instance for which it stands
clauses-allow : (mode : Mode) (i : Instance) (p : ProblemState) (log : LogState) (f : Cnf) → IsClosed i → IsFormulaFor mode i p.layout p.variables f → base_clauses log ≡ f.clauses → Allows mode i p log
clauses-allow mode i p log f closed stands own = record {
  solves = λ cells goal h.
      let s : ℕ → Bool = h.are_given.assignment in
      let found = stands.sound s (subst (Satisfies s) own h.are_given.satisfies) in
      read-solution mode i cells goal closed (subst (λ ns. Solves mode i ns goal) h.are_given.gives (subst (Solves mode i (decoded_cells p.layout p.variables s)) h.drives found));
  allowed = λ a solves.
      let given = stands.complete a solves in
      let s : ℕ → Bool = given.assignment in
      let found = stands.sound s given.satisfies in
      let same : found.solves.found ≡ solves.found = numbers-same i found.assigned a found.solves.found solves.found found.solves.fits solves.fits (found.numbers_are ∙ given.gives) in
      record {
        are_given = record { assignment = s; satisfies = subst (Satisfies s) (sym own) given.satisfies; gives = given.gives };
        drives = sym found.valued ∙ ap (goal_value mode i) same;
      };
}

pub allows-after : (mode : Mode) (i : Instance) (p : ProblemState) (old new : LogState) → IsClosed i → Poses mode i p old → take (length old.events) new.events ≡ old.events → new.base ≡ old.base → Allows mode i p new
allows-after mode i p old new closed h front base =
    clauses-allow mode i p new h.formula closed h.stands (same-base old new h.is_base front base ∙ own-clauses mode i p old h)

-- ---- answers

-- a search went on in the problem of an instance
pub record SearchedFor (mode : Mode) (i : Instance) : Type 0 where
  pub closed : IsClosed i
  pub p : ProblemState
  pub old : LogState
  pub new : LogState
  pub poses : Poses mode i p old
  pub front : take (length old.events) new.events ≡ old.events
  pub base : new.base ≡ old.base

-- what was found in a search is right and of its types
pub found-right : (mode : Mode) (i : Instance) (budget : ℕ) (found : FoundCells) (answer : AnswerTree) → (h : SearchedFor mode i) → IsRightAnswer h.p budget h.new found
    → answer ≡ answer_from i.finds budget found → IsRight mode i budget answer
found-right mode i budget found answer h right same =
    subst (IsRight mode i budget) (sym same)
    (answered-right mode i h.p h.new (allows-after mode i h.p h.old h.new h.closed h.poses h.front h.base) h.poses.stands.senses budget found right)

pub found-typed : (mode : Mode) (i : Instance) (budget : ℕ) (found : FoundCells) (answer : AnswerTree) → (h : SearchedFor mode i) → IsRightAnswer h.p budget h.new found
    → answer ≡ answer_from i.finds budget found → HasTypedValues answer
found-typed mode i budget found answer h right same =
    subst HasTypedValues (sym same)
    (answered-typed mode i h.p h.new (allows-after mode i h.p h.old h.new h.closed h.poses h.front h.base) budget found right)
