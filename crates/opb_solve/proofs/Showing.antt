-- The log of a search stands for the problem, and shows the answer.
use Rattle.std.proofs.Common.{IfSome, ◌≡◌, ◌↔◌, ℕ, ◌<◌, ℤ, ◌<ℤ◌, Bool, true, IsSome, IsTrue, List, [], ◌∷◌, ◌++◌, Option, Some, None, int_lt, length, map, take, drop, refl, sym, ap, subst, ◌∙◌, arith, option_map}
use Rattle.std.specs.Prelude.{slice_index_or}
use Rattle.std.specs.List.{All, AllZip}
use Rattle.std.proofs.lemmas.Int.{ints}
use Rattle.std.proofs.lemmas.List.{length-map, length-take, take-append-drop}
use Rattle.std.proofs.lemmas.List.Elements.{All-weaker}
use Rattle.std.proofs.lemmas.List.FromFn.{length-range_with_len}
use Rattle.cnf_core.specs.Clauses.{Satisfies}
use Rattle.cnf_core.specs.Events.{HasBase, LogEvent, LogState, Note, givens, is_given}
use Rattle.cnf_core.specs.Literal.{Literal}
use Rattle.enc_var.specs.Layouts.{GivesCells, decoded_cells, decoded_values}
use Rattle.ep_answer.proofs.Listing.{all_told}
use Rattle.ep_answer.proofs.Searching.{first_part, givens_append}
use Rattle.ep_answer.specs.Answered.{AllTell, AnswersCells, FoundCells, Improves, IsBetterThan, IsBudgetSpent, IsNumberWanted, IsReachedGoal, IsRightAnswer, LiteralsTell, SaysBetter, added_givens, best_number}
use Rattle.ep_answer.specs.Answered as cells
use Rattle.ep_answer.specs.Problems.{IsAllowed, MapMeans, ProblemState, base_clauses}
use Rattle.ep_base.specs.Senses.{better_number}
use Rattle.ep_base.specs.declared.operators.Sense.{Sense}
use Rattle.ep_flat.specs.Flats.{objective_number}
use Rattle.opb_answer.specs.Answers.{truths_in}
use Rattle.opb_solve.proofs.Adding.{none_reached}
use Rattle.opb_solve.proofs.Agreeing.{numbers_again, same_objective, values_truths}
use Rattle.opb_solve.proofs.Answering.{HasSenseOf, answered_right, goal_stated, smaller_is_better, stated_goal}
use Rattle.opb_solve.proofs.Notes.{domains_are, notes_are, two_each, two_named, two_tell}
use Rattle.opb_solve.proofs.Allowing.{AllowsOpb, allows, meant_posed}
use Rattle.opb_solve.specs.Logged.{AddsForOpb, AddsNoGiven, IsOpbDrivenTo, IsOpbLogged, IsReachedOpb, IsStillSmaller, SaysSmaller, ShowsOpb, StandsForOpb, TellOpbSolutions, TellTruths, noted_pair}
use Rattle.opb_solve.specs.Meant.{AreSolved, PosesOpb, found_from, goal_number, numbers_in, values_from}
use Rattle.opb_answer.specs.Right.{IsRightOpb}
use Rattle.opb_text.specs.Contents.{OpbContent}
use Rattle.opb_text.specs.Flats.{truths_of}
use Rattle.opb_text.specs.Solutions.{objective_value}
use Rattle.opb_text.specs.Weights.{AreVariablesOf}
use Rattle.opb_text.specs.declared.content.OpbTerm.{OpbTerm}

-- ---- a search that is done

-- a problem was posed, and its log went on
pub record SearchedOpb (content : OpbContent) (vars : List ℕ) : Type 0 where
  pub are : AreVariablesOf content vars
  pub p : ProblemState
  pub old : LogState
  pub new : LogState
  pub poses : PosesOpb content vars p old
  pub front : take (length old.events) new.events ≡ old.events
  pub base : new.base ≡ old.base
  pub notes : new.notes ≡ old.notes

module _ (content : OpbContent) (vars : List ℕ) (h : SearchedOpb content vars) where
  counted : h.new.base ≡ length h.old.events
  counted = h.base ∙ h.poses.is_base

  same_base : base_clauses h.new ≡ givens h.old.events
  same_base = ap (λ (n : ℕ). givens (take n h.new.events)) counted ∙ ap givens h.front

  pub allowed_now : AllowsOpb content vars h.p h.new
  allowed_now = allows content vars h.p h.old h.new h.are h.poses same_base

  pub sense_of : HasSenseOf h.p content
  sense_of = h.poses.stands.senses

  long_places : length h.p.variables.cells ≡ length vars
  long_places = ap length h.poses.stands.places ∙ length-range_with_len 0 (length vars)

  notes_now : h.new.notes ≡ two_each h.p.layout vars h.p.variables.cells
  notes_now = h.notes ∙ h.poses.notes ∙ notes_are h.p.layout vars h.p.cells h.p.variables.cells h.poses.cells long_places

  cells_below : All (λ x. x < length h.p.layout) h.p.variables.cells
  cells_below = subst (λ (n : ℕ). All (λ x. x < n) h.p.variables.cells) (length-map h.p.layout (λ e. e.domain)) h.poses.stands.maps.cells.there

  meant_now : (s : ℕ → Bool) → Satisfies s (base_clauses h.new) → MapMeans s h.p.layout h.p.variables
  meant_now s met = meant_posed content vars h.p h.old s h.poses (subst (Satisfies s) same_base met)

  tell_now : (s : ℕ → Bool) (truths : ℕ → Bool) → Satisfies s (base_clauses h.new) → decoded_cells h.p.layout h.p.variables s ≡ numbers_in vars truths → TellTruths s h.new.notes vars truths
  tell_now s truths met same =
      let told : AllTell s h.p.layout h.p.variables.cells (decoded_cells h.p.layout h.p.variables s) = all_told h.p.layout s h.p.variables.cells cells_below (meant_now s met).cells in
      subst (λ (notes : List Note). TellTruths s notes vars truths) (sym notes_now)
      (two_tell s h.p.layout vars h.p.variables.cells truths (domains_are h.p.layout vars h.p.variables.cells cells_below h.poses.stands.maps.cells.domains)
      (subst (AllTell s h.p.layout h.p.variables.cells) same told))

  tell_solutions : (clauses : List (List Literal)) → ((s : ℕ → Bool) → Satisfies s clauses → Satisfies s (base_clauses h.new)) → (W : Option ℤ → Type 0) (wanted : (ℕ → Bool) → Type 0)
      → ((numbers : List ℤ) (goal : Option ℤ) → GivesCells h.p.layout h.p.variables clauses numbers goal ↔ (IsAllowed h.p h.new numbers goal × W goal))
      → ((truths : ℕ → Bool) → W (goal_number content truths) ↔ wanted truths) → TellOpbSolutions content vars h.new.notes clauses wanted
  tell_solutions clauses narrow W wanted gives agree = record {
    sound = λ s met.
        let numbers : List ℤ = decoded_cells h.p.layout h.p.variables s in
        let goal : Option ℤ = objective_number h.p.variables (decoded_values h.p.layout s) in
        let kept = (gives numbers goal).0 (record { are_given = record { assignment = s; satisfies = met; gives = refl }; drives = refl }) in
        let solved = allowed_now.solves numbers goal kept.0 in
        let truths : ℕ → Bool = truths_of vars numbers in (
          truths,
          tell_now s truths (narrow s met) (numbers_again vars numbers h.are.ascending solved.fit),
          solved.solution,
          (agree truths).0 (subst W solved.valued kept.1),
        );
    complete = λ truths solution want.
        let given = (gives (numbers_in vars truths) (goal_number content truths)).1 (allowed_now.allowed truths solution, (agree truths).1 want) in
        let s : ℕ → Bool = given.are_given.assignment in
        record { assignment = s; satisfies = given.are_given.satisfies; tell = tell_now s truths (narrow s given.are_given.satisfies) given.are_given.gives };
  }

  log_base : HasBase h.new.events h.new.base
  log_base =
      let P : List LogEvent → Type 0 = λ es. All (λ e. is_given e ≡ true) es in
      record {
        there = omega (arith, counted, ap length h.front, length-take (length h.old.events) h.new.events);
        givens = subst P (sym (ap (λ (k : ℕ). take k h.new.events) counted ∙ h.front)) h.poses.are_givens;
      }

  pub stands_now : StandsForOpb content vars h.new
  stands_now = record {
    base = log_base;
    notes = ap (map noted_pair) notes_now ∙ two_named h.p.layout vars h.p.variables.cells long_places;
    told = tell_solutions (base_clauses h.new) (λ s met. met) (λ goal. Unit {0}) (λ truths. Unit {0}) (λ numbers goal. (λ gives. (gives, tt), λ both. both.0)) (λ truths. (λ x. tt, λ x. tt));
  }

  narrower : (s : ℕ → Bool) → Satisfies s (givens h.new.events) → Satisfies s (base_clauses h.new)
  narrower s met =
      let n : ℕ = h.new.base in
      let cut : givens h.new.events ≡ base_clauses h.new ++ givens (drop n h.new.events) =
      ap givens (sym (take-append-drop n h.new.events)) ∙ givens_append (take n h.new.events) (drop n h.new.events) in
      first_part s (base_clauses h.new) (givens (drop n h.new.events)) (subst (Satisfies s) cut met)

  none_added : (found : FoundCells) → Improves h.p h.old h.new found → best_number found ≡ None → AddsNoGiven h.new
  none_added found improves none = ap (λ (n : ℕ). givens (drop n h.new.events)) counted ∙ none_reached h.p found h.old h.new improves none

-- ---- what is still smaller

is_sense : {A : Type 0} (o : Option (Sense × A)) (goal : Option (List OpbTerm)) (sense : Sense) (x : A) → option_map (λ one. one.0) o ≡ option_map (λ terms. Sense.Minimising) goal → o ≡ Some (sense, x) → sense ≡ Sense.Minimising
is_sense o None sense x same is = absurd (let h : option_map (λ one. one.0) o ≡ Some sense = ap (option_map (λ one. one.0)) is in let g : Some sense ≡ None = sym h ∙ same in cc)
is_sense o (Some terms) sense x same is =
    let h : Some sense ≡ Some Sense.Minimising = sym (ap (option_map (λ one. one.0)) is) ∙ same in some_sense sense Sense.Minimising h
  where
    some_sense : (a b : Sense) → Some a ≡ Some b → a ≡ b
    some_sense a b e = cc

-- what is better is smaller
smaller_number : (p : ProblemState) (content : OpbContent) (best number : ℤ) (goal : Option ℤ) → HasSenseOf p content → goal ≡ Some number → IsBetterThan p best goal → number <ℤ best
unfolding better_number
smaller_number p content best number goal sense is better =
    let same : better.sense ≡ Sense.Minimising = is_sense p.variables.objective content.objective better.sense better.variable sense better.stated in
    let e : better.number ≡ number = some_number better.number number (sym better.drives ∙ is) in
    let less : int_lt number best ≡ true = subst (λ (n : ℤ). IsTrue (better_number Sense.Minimising n best)) e (subst (λ (s : Sense). IsTrue (better_number s better.number best)) same better.better) in
    omega (arith, ints, less)
  where
    some_number : (a b : ℤ) → Some a ≡ Some b → a ≡ b
    some_number a b h = cc

-- the objective of numbers of the variables is that of the values that are made of them
own_value : (content : OpbContent) (vars : List ℕ) (numbers : List ℤ) (number : ℤ) → AreVariablesOf content vars → Some number ≡ goal_number content (truths_of vars numbers)
    → objective_value content (truths_in (values_from vars numbers)) ≡ number
own_value content vars numbers number are valued =
    sym (same_objective content vars (truths_of vars numbers) (truths_in (values_from vars numbers)) are (λ var there. values_truths vars numbers var))
    ∙ sym (stated_goal content (truths_of vars numbers) number valued).1

still_smaller : (content : OpbContent) (vars : List ℕ) (h : SearchedOpb content vars) (best : Option (ℤ × List ℤ)) → IfSome best (λ one. IsAllowed h.p h.new one.1 (Some one.0)) → (truths : ℕ → Bool)
    → IsNumberWanted h.p best (goal_number content truths) ↔ IsStillSmaller content (option_map (λ one. values_from vars one.1) best) truths
unfolding IsNumberWanted IsStillSmaller
still_smaller content vars h None allowed truths = (λ x. tt, λ x. tt)
still_smaller content vars h (Some best) allowed truths =
    let solved = (allowed_now content vars h).solves best.1 (Some best.0) allowed in
    let stated = stated_goal content (truths_of vars best.1) best.0 solved.valued in
    let own : objective_value content (truths_in (values_from vars best.1)) ≡ best.0 = own_value content vars best.1 best.0 h.are solved.valued in
    let value : goal_number content truths ≡ Some (objective_value content truths) = goal_stated content truths stated.0 in (
      λ better. subst (λ (n : ℤ). objective_value content truths <ℤ n) (sym own) (smaller_number h.p content best.0 (objective_value content truths) (goal_number content truths) (sense_of content vars h) value better),
      λ less. subst (IsBetterThan h.p best.0) (sym value) (smaller_is_better h.p content best.0 (objective_value content truths) (sense_of content vars h) stated.0 (subst (λ (n : ℤ). objective_value content truths <ℤ n) own less)),
    )

-- ---- how the best solution was found

zip_weaker : {A B : Type 0} (R S : A → B → Type 0) → ((x : A) (y : B) → R x y → S x y) → (xs : List A) (ys : List B) → AllZip R xs ys → AllZip S xs ys
zip_weaker R S more [] [] all = tt
zip_weaker R S more [] (y ∷ ys) all = absurd all
zip_weaker R S more (x ∷ xs) [] all = absurd all
zip_weaker R S more (x ∷ xs) (y ∷ ys) all = (more x y all.0, zip_weaker R S more xs ys all.1)

reached_opb : (content : OpbContent) (vars : List ℕ) (h : SearchedOpb content vars) (number : ℤ) → IsReachedGoal h.p h.new number → IsReachedOpb content number
reached_opb content vars h number one =
    let solved = (allowed_now content vars h).solves one.cells (Some number) one.allowed in
    let truths : ℕ → Bool = truths_of vars one.cells in (truths, solved.solution, sym (stated_goal content truths number solved.valued).1)

-- a clause that says that the objective's number is better says that the objective is smaller
says_smaller : (content : OpbContent) (vars : List ℕ) (h : SearchedOpb content vars) → IsSome content.objective → (number : ℤ) (clause : List Literal) → SaysBetter h.p number clause → SaysSmaller content vars h.new number clause
says_smaller content vars h stated number clause better = record {
  says = λ s met.
      let numbers : List ℤ = decoded_cells h.p.layout h.p.variables s in
      let goal : Option ℤ = objective_number h.p.variables (decoded_values h.p.layout s) in
      let solved : AreSolved content vars numbers goal =
      (allowed_now content vars h).solves numbers goal (record { are_given = record { assignment = s; satisfies = met; gives = refl }; drives = refl }) in
      let truths : ℕ → Bool = truths_of vars numbers in
      let value : goal ≡ Some (objective_value content truths) = solved.valued ∙ goal_stated content truths stated in
      let said = better.says s (meant_now content vars h s met).objective in (
        truths,
        tell_now content vars h s truths met (numbers_again vars numbers h.are.ascending solved.fit),
        (
          λ holds. smaller_number h.p content number (objective_value content truths) goal (sense_of content vars h) value (said.0 holds),
          λ less. said.1 (subst (IsBetterThan h.p number) (sym value) (smaller_is_better h.p content number (objective_value content truths) (sense_of content vars h) stated less)),
        ),
      );
}

driven_to : (content : OpbContent) (vars : List ℕ) (h : SearchedOpb content vars) (found : FoundCells) (best : ℤ) (numbers : List ℤ) → best_number found ≡ Some best → IsAllowed h.p h.new numbers (Some best) → Improves h.p h.old h.new found
    → IsOpbDrivenTo content vars h.new (values_from vars numbers)
driven_to content vars h found best numbers is allowed improves =
    let solved = (allowed_now content vars h).solves numbers (Some best) allowed in
    let stated = stated_goal content (truths_of vars numbers) best solved.valued in
    let bests : List ℤ = improves.bests in
    let behind : added_givens h.old h.new ≡ givens (drop h.new.base h.new.events) = ap (λ (n : ℕ). givens (drop n h.new.events)) (sym (counted content vars h)) in
    record {
      numbers = bests;
      reached = All-weaker (IsReachedGoal h.p h.new) (IsReachedOpb content) (λ number one. reached_opb content vars h number one) bests improves.reached;
      smaller = λ m n d low high.
          smaller_number h.p content (slice_index_or bests m d) (slice_index_or bests n d) (Some (slice_index_or bests n d)) (sense_of content vars h) refl (improves.better m n d low high);
      last = improves.last ∙ is ∙ ap (λ (n : ℤ). Some n) (sym (own_value content vars numbers best h.are solved.valued));
      said = subst (AllZip (SaysSmaller content vars h.new) bests) behind
          (zip_weaker (SaysBetter h.p) (SaysSmaller content vars h.new) (λ number clause better. says_smaller content vars h stated.0 number clause better) bests (added_givens h.old h.new) improves.said);
    }

adds_for : (content : OpbContent) (vars : List ℕ) (h : SearchedOpb content vars) (best : Option (ℤ × List ℤ)) → Improves h.p h.old h.new (cells.unknown best) → IfSome best (λ one. IsAllowed h.p h.new one.1 (Some one.0))
    → AddsForOpb content vars h.new (option_map (λ one. values_from vars one.1) best)
unfolding AddsForOpb best_number
adds_for content vars h None improves allowed = none_added content vars h (cells.unknown None) improves refl
adds_for content vars h (Some best) improves allowed = driven_to content vars h (cells.unknown (Some best)) best.0 best.1 refl allowed improves

-- ---- answers

shows : (content : OpbContent) (vars : List ℕ) (h : SearchedOpb content vars) (budget : ℕ) (found : FoundCells) → Improves h.p h.old h.new found → IsRightAnswer h.p budget h.new found
    → ShowsOpb content vars budget h.new (found_from vars found)
unfolding ShowsOpb IsRightAnswer best_number found_from
shows content vars h budget (cells.solution numbers) improves right = none_added content vars h (cells.solution numbers) improves refl
shows content vars h budget (cells.optimum number numbers) improves right = (right.ends, driven_to content vars h (cells.optimum number numbers) number numbers refl right.allowed improves)
shows content vars h budget cells.no_solution improves right = (right.ends, none_added content vars h cells.no_solution improves refl)
shows content vars h budget (cells.unknown best) improves right = (
  right.steps,
  right.none_is_empty,
  tell_solutions content vars h (givens h.new.events) (narrower content vars h) (IsNumberWanted h.p best) (IsStillSmaller content (option_map (λ one. values_from vars one.1) best))
      right.left (still_smaller content vars h best right.incumbent),
  adds_for content vars h best improves right.incumbent,
)

pub found_logged : (content : OpbContent) (vars : List ℕ) (h : SearchedOpb content vars) (budget : ℕ) (found : FoundCells) → Improves h.p h.old h.new found → AnswersCells h.p budget h.new found
    → IsOpbLogged content budget h.new (found_from vars found)
found_logged content vars h budget found improves answers = record {
  vars = vars;
  variables = h.are;
  stands = stands_now content vars h;
  sound = answers.sound;
  within = answers.within;
  shows = shows content vars h budget found improves answers.right;
}

pub found_right : (content : OpbContent) (vars : List ℕ) (h : SearchedOpb content vars) (budget : ℕ) (found : FoundCells) → AnswersCells h.p budget h.new found → IsRightOpb content (found_from vars found)
found_right content vars h budget found answers =
    answered_right content vars h.p budget h.new found h.are (sense_of content vars h) (allowed_now content vars h) answers.right
