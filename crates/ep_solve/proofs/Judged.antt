-- What a ground keeps are the solutions of the instance that it speaks for.
use Rattle.std.proofs.Common.{◌≡◌, ℕ, ◌+◌, Bool, true, false, ◌||◌, ℤ, pos, List, [], ◌∷◌, Option, Some, None, refl, sym, ap, subst, ◌∙◌, if◌then◌else◌, IsTrue, option_map}
use Rattle.std.specs.Prelude.{IsSome, MatchOption, is_none, is_some, option_and_then}
use Rattle.std.specs.List.{All, AllZip, Contains}
use Rattle.ep_ground.specs.declared.cells.Cell.{Cell}
use Rattle.std.proofs.lemmas.List.Elements.{All-cons, All-head, All-nil, All-tail}
use Rattle.ep_base.specs.Numbers.{of_bool}
use Rattle.ep_base.specs.declared.operators.Sense.{Sense}
use Rattle.ep_ground.specs.Grounds.{GroundState, HasObjective, IsGroundSolution, ground_objective}
use Rattle.ep_ground.specs.Terms.{term_value}
use Rattle.ep_tree.specs.Binding.{Instance}
use Rattle.ep_tree.specs.Environments.{Env}
use Rattle.ep_tree.specs.Evaluation.{first_untrue, is_true_in}
use Rattle.ep_tree.specs.Solutions.{Assigned, Fits, Found, has_goal_value, under, violated}
use Rattle.ep_tree.specs.Trees.{ExprTree}
use Rattle.ep_tree.specs.declared.values.Mode.{Mode}
use Rattle.ep_unroll.specs.Cells.{found_numbers, instance_cells}
use Rattle.ep_unroll.specs.Unrolling.{SaysClauses, SaysObjective}
use Rattle.ep_solve.proofs.Cells.{fits-gives}

-- ---- clauses

-- a term says of an expression whether it is true
abbrev Says : Mode → Env → (ℕ → Option ℤ) → ℕ → ExprTree → Type 0
Says mode env value t e = value t ≡ Some (of_bool (is_true_in mode env e))

one-is-true : (b : Bool) → Some (of_bool b) ≡ Some (pos 1) → b ≡ true
unfolding of_bool
one-is-true true h = refl
one-is-true false h = absurd cc

true-is-one : (b : Bool) → b ≡ true → Some (of_bool b) ≡ Some (pos 1)
unfolding of_bool
true-is-one true h = refl
true-is-one false h = absurd cc

none-untrue : (mode : Mode) (env : Env) (value : ℕ → Option ℤ) (ts : List ℕ) (es : List ExprTree) (n : ℕ) → AllZip (Says mode env value) ts es
    → All (λ t. value t ≡ Some (pos 1)) ts → first_untrue mode env n es ≡ None
unfolding first_untrue
none-untrue mode env value [] [] n says h = refl
none-untrue mode env value [] (e ∷ es) n says h = absurd says
none-untrue mode env value (t ∷ ts) [] n says h = absurd says
none-untrue mode env value (t ∷ ts) (e ∷ es) n says h =
    ap (λ b. if b then first_untrue mode env (n + 1) es else Some n) (one-is-true (is_true_in mode env e) (sym says.0 ∙ All-head (λ t. value t ≡ Some (pos 1)) t ts h))
    ∙ none-untrue mode env value ts es (n + 1) says.1 (All-tail (λ t. value t ≡ Some (pos 1)) t ts h)

cut-untrue : (b : Bool) (rest : Option ℕ) (n : ℕ) → (if b then rest else Some n) ≡ None → (b ≡ true) × (rest ≡ None)
cut-untrue true rest n h = (refl, h)
cut-untrue false rest n h = absurd cc

all-ones : (mode : Mode) (env : Env) (value : ℕ → Option ℤ) (ts : List ℕ) (es : List ExprTree) (n : ℕ) → AllZip (Says mode env value) ts es
    → first_untrue mode env n es ≡ None → All (λ t. value t ≡ Some (pos 1)) ts
unfolding first_untrue
all-ones mode env value [] [] n says h = All-nil (λ t. value t ≡ Some (pos 1))
all-ones mode env value [] (e ∷ es) n says h = absurd says
all-ones mode env value (t ∷ ts) [] n says h = absurd says
all-ones mode env value (t ∷ ts) (e ∷ es) n says h =
    let q = cut-untrue (is_true_in mode env e) (first_untrue mode env (n + 1) es) n h in
    All-cons (λ t. value t ≡ Some (pos 1)) t ts (says.0 ∙ true-is-one (is_true_in mode env e) q.0) (all-ones mode env value ts es (n + 1) says.1 q.1)

-- ---- the objective

has-number : (goal : Option (Sense × ℕ)) (stated : Option (Sense × ExprTree)) (value : ℕ → Option ℤ)
    → option_map (λ g. g.0) goal ≡ option_map (λ g. g.0) stated
    → MatchOption goal (Unit {0}) (λ g. IsSome (value g.1))
    → (is_none stated || is_some (option_and_then (λ g. value g.1) goal)) ≡ true
has-number None None value same h = refl
has-number None (Some s) value same h = absurd cc
has-number (Some g) None value same h = absurd cc
has-number (Some g) (Some s) value same h = h

number-had : (goal : Option (Sense × ℕ)) (stated : Option (Sense × ExprTree)) (value : ℕ → Option ℤ)
    → option_map (λ g. g.0) goal ≡ option_map (λ g. g.0) stated
    → (is_none stated || is_some (option_and_then (λ g. value g.1) goal)) ≡ true
    → MatchOption goal (Unit {0}) (λ g. IsSome (value g.1))
number-had None None value same h = tt
number-had None (Some s) value same h = absurd cc
number-had (Some g) None value same h = absurd cc
number-had (Some g) (Some s) value same h = h

-- ---- solutions

-- a ground speaks for an instance
pub record SpeaksFor (mode : Mode) (i : Instance) (g : GroundState) : Type 0 where
  pub cells : g.cells ≡ instance_cells i
  pub clauses : SaysClauses mode i g
  pub objective : SaysObjective mode i g

pub ground-solves : (mode : Mode) (i : Instance) (g : GroundState) → SpeaksFor mode i g → (a : Assigned) (found : Found) → Fits i a found
    → IsGroundSolution g (found_numbers found) → (violated mode i found ≡ None) × IsTrue (has_goal_value mode i found)
unfolding HasObjective has_goal_value ground_objective
ground-solves mode i g speaks a found fits h =
    let value : ℕ → Option ℤ = term_value g.nodes (found_numbers found) in (
      none-untrue mode (under i found) value g.clauses i.clauses 1 (speaks.clauses a found fits) h.clauses,
      ap (λ x. is_none i.goal || is_some x) (sym (speaks.objective.numbers a found fits)) ∙ has-number g.objective i.goal value speaks.objective.senses h.objective,
    )

pub solution-grounded : (mode : Mode) (i : Instance) (g : GroundState) → SpeaksFor mode i g → (a : Assigned) (found : Found) → Fits i a found
    → violated mode i found ≡ None → IsTrue (has_goal_value mode i found) → IsGroundSolution g (found_numbers found)
unfolding HasObjective has_goal_value ground_objective
solution-grounded mode i g speaks a found fits none measured =
    let value : ℕ → Option ℤ = term_value g.nodes (found_numbers found) in
    let P : List Cell → Type 0 = λ cells. AllZip (λ one value. Contains one.values value) cells (found_numbers found) in
    record {
      cells = subst P (sym speaks.cells) (fits-gives i a found fits);
      clauses = all-ones mode (under i found) value g.clauses i.clauses 1 (speaks.clauses a found fits) none;
      objective = number-had g.objective i.goal value speaks.objective.senses (ap (λ x. is_none i.goal || is_some x) (speaks.objective.numbers a found fits) ∙ measured);
    }
