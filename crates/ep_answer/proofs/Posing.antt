-- A problem that poses a ground.
use Rattle.std.proofs.Common.{◌≡◌, ◌↔◌, ◌<◌, suc, ℕ, ℤ, Bool, true, List, [], ◌∷◌, Option, None, Some, refl, sym, ap, subst, ◌∙◌}
use Rattle.std.specs.Prelude.{IfSome, MatchOption, length, map, take}
use Rattle.std.specs.List.{All}
use Rattle.std.proofs.lemmas.Bool.{false≢true}
use Rattle.std.proofs.lemmas.List.Elements.{All-get_or, All-head, All-tail, All-weaker}
use Rattle.cnf_core.specs.Clauses.{Satisfies}
use Rattle.cnf_core.specs.Events.{LogEvent, LogState, clauses_of, given, givens, is_given, step}
use Rattle.cnf_core.specs.Formula.{Cnf}
use Rattle.cnf_core.specs.Steps.{IsConsistent}
use Rattle.ep_base.specs.declared.operators.Sense.{Sense}
use Rattle.enc_var.specs.Decoding.{Means, VariableLiterals}
use Rattle.enc_var.specs.Layouts.{literals_at}
use Rattle.ep_flat.specs.Flats.{MapState, MapsCells}
use Rattle.ep_answer.specs.Posed.{PosesGround}
use Rattle.ep_answer.specs.Problems.{CanSearch, IsAllowed, MapMeans, ProblemState, base_clauses}
use Rattle.ep_ground.specs.Grounds.{GroundState, IsGroundSolution, ground_objective}

-- the clauses of givens are the givens
all_given : (events : List LogEvent) → All (λ e. is_given e ≡ true) events → clauses_of events ≡ givens events
all_given [] h = refl
all_given (given clause ∷ events) h = ap (λ cs. clause ∷ cs) (all_given events (All-tail (λ e. is_given e ≡ true) (given clause) events h))
all_given (step clause hints ∷ events) h = absurd (false≢true (All-head (λ e. is_given e ≡ true) (step clause hints) events h))

take_all : {X : Type 0} (n : ℕ) (xs : List X) → n ≡ length xs → take n xs ≡ xs
take_all n xs is = ap (λ k. take k xs) is ∙ whole xs
  where
    whole : {Y : Type 0} (ys : List Y) → take (length ys) ys ≡ ys
    whole [] = refl
    whole (y ∷ ys) = ap (λ zs. y ∷ zs) (whole ys)

-- ---- the variables of a map

long_domains : (layout : List VariableLiterals) → length (map (λ e. e.domain) layout) ≡ length layout
long_domains [] = refl
long_domains (e ∷ layout) = ap suc (long_domains layout)

meant_at : (s : ℕ → Bool) (layout : List VariableLiterals) (x : ℕ) → x < length layout → All (Means s) layout → Means s (literals_at layout x)
meant_at s layout x low means = All-get_or (Means s) layout x (record { domain = []; first = 0 }) low means

-- where all literals mean what they say, those of the variables that a map names do
pub map_meant : (s : ℕ → Bool) (layout : List VariableLiterals) (m : MapState) (cells : List (List ℤ)) → MapsCells cells (map (λ e. e.domain) layout) m → All (Means s) layout → MapMeans s layout m
map_meant s layout m cells maps means = record {
  cells = All-weaker (λ x. x < length (map (λ e. e.domain) layout)) (λ x. Means s (literals_at layout x))
      (λ x low. meant_at s layout x (subst (λ n. x < n) (long_domains layout) low) means) m.cells maps.cells.there;
  objective = by m.objective maps.objective;
}
  where
    by : (o : Option (Sense × ℕ)) → MatchOption o (Unit {0}) (λ goal. goal.1 < length (map (λ e. e.domain) layout)) → IfSome o (λ goal. Means s (literals_at layout goal.1))
    by None low = tt
    by (Some goal) low = meant_at s layout goal.1 (subst (λ n. goal.1 < n) (long_domains layout) low) means

-- ---- a ground's problem

pub posed_can_search : (g : GroundState) (f : Cnf) (p : ProblemState) (log : LogState) → PosesGround g f p log → CanSearch p log
posed_can_search g f p log h = record {
  is_whole = h.is_whole;
  are_givens = h.are_givens;
  is_base = h.is_base;
  notes = h.notes;
  consistent = subst (All IsConsistent) (sym (all_given log.events h.are_givens ∙ h.givens_are)) h.formula.consistent;
  clauses = h.clauses;
  maps = subst (λ cs. MapsCells (map (λ one. one.values) cs) (map (λ e. e.domain) p.layout) p.variables) (sym h.cells) h.formula.is_map.maps;
  meaning = λ s met.
      map_meant s p.layout p.variables (map (λ one. one.values) g.cells) h.formula.is_map.maps (h.formula.is_layout.meaning s (subst (Satisfies s) h.givens_are met));
}

-- the problem's own clauses are the formula's
base_is : (g : GroundState) (f : Cnf) (p : ProblemState) (log : LogState) → PosesGround g f p log → base_clauses log ≡ f.clauses
base_is g f p log h = ap givens (take_all log.base log.events h.is_base) ∙ h.givens_are

pub posed_allows : (g : GroundState) (f : Cnf) (p : ProblemState) (log : LogState) → PosesGround g f p log → (cells : List ℤ) (goal : Option ℤ) → IsAllowed p log cells goal ↔ (IsGroundSolution g cells × (goal ≡ ground_objective g cells))
posed_allows g f p log h cells goal = (
  λ allowed.
      let s = allowed.are_given.assignment in
      let met = subst (Satisfies s) (base_is g f p log h) allowed.are_given.satisfies in (
        subst (IsGroundSolution g) allowed.are_given.gives (h.formula.sound s met),
        sym allowed.drives ∙ h.formula.objective s met ∙ ap (ground_objective g) allowed.are_given.gives,
      ),
  λ kept.
      let found = h.formula.complete cells kept.0 in
      record {
        are_given = record {
          assignment = found.assignment;
          satisfies = subst (Satisfies found.assignment) (sym (base_is g f p log h)) found.satisfies;
          gives = found.gives;
        };
        drives = h.formula.objective found.assignment found.satisfies ∙ ap (ground_objective g) found.gives ∙ sym kept.1;
      },
)
