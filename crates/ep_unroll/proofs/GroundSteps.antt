-- A ground made of its clauses and its objective, and what it says of an instance.
use Rattle.ep_unroll.proofs.Words.{◌≡◌, ℕ, List, Some, None, refl, ap, subst, ◌∙◌, Option, option_and_then, option_map, AllZip, of_bool, Sense, GroundState, ground_objective, GroundNode, term_value, Cell, Instance, IsClosed, clause_env, Env, evaluate, is_true_in, number_in, goal_value, ExprTree, Mode, AreClauses, IsGoal, numbering, IsGroundOf, Grows, Numbering, Reading, SaysClauses, SaysObjective}
use Rattle.ep_unroll.proofs.ClauseSteps.{zip_kept}
use Rattle.ep_unroll.proofs.FoundReadings.{found_reading}

goal_grows : (n : Numbering) (env : Env) (old new : List GroundNode) (goal : Option (Sense × ExprTree)) (t : Option (Sense × ℕ)) → IsGoal n env old new goal t → Grows old new
unfolding IsGoal
goal_grows n env old new None None h = h
goal_grows n env old new None (Some t) h = absurd h
goal_grows n env old new (Some goal) None h = absurd h
goal_grows n env old new (Some goal) (Some t) h = h.1.grows

goal_senses : (n : Numbering) (env : Env) (old new : List GroundNode) (goal : Option (Sense × ExprTree)) (t : Option (Sense × ℕ)) → IsGoal n env old new goal t
    → option_map (λ x. x.0) t ≡ option_map (λ x. x.0) goal
unfolding IsGoal
goal_senses n env old new None None h = refl
goal_senses n env old new None (Some t) h = absurd h
goal_senses n env old new (Some goal) None h = absurd h
goal_senses n env old new (Some goal) (Some t) h = ap Some h.0

goal_numbers : (n : Numbering) (env : Env) (old new : List GroundNode) (goal : Option (Sense × ExprTree)) (t : Option (Sense × ℕ)) → IsGoal n env old new goal t
    → (r : Reading n env) → option_and_then (λ x. term_value new r.numbers x.1) t ≡ option_and_then (λ x. number_in (evaluate n.mode r.values x.1)) goal
unfolding IsGoal
goal_numbers n env old new None None h r = refl
goal_numbers n env old new None (Some t) h r = absurd h
goal_numbers n env old new (Some goal) None h r = absurd h
goal_numbers n env old new (Some goal) (Some t) h r = h.1.number r

abbrev GroundOver : Numbering → Env → List ExprTree → Option (Sense × ExprTree) → GroundState → Type 0
GroundOver n env es goal g =
    ((r : Reading n env) → AllZip (λ t e. term_value g.nodes r.numbers t ≡ Some (of_bool (is_true_in n.mode r.values e))) g.clauses es)
    × ((r : Reading n env) → ground_objective g r.numbers ≡ option_and_then (λ x. number_in (evaluate n.mode r.values x.1)) goal)

pub ground_is : (mode : Mode) (i : Instance) (n : Numbering) (env : Env) (old mid new : List GroundNode) (es : List ExprTree) (goal : Option (Sense × ExprTree)) (cells : List Cell) (ts : List ℕ) (t : Option (Sense × ℕ))
    → n ≡ numbering mode i.finds → env ≡ clause_env i → es ≡ i.clauses → goal ≡ i.goal
    → AreClauses n env old mid es ts → IsGoal n env mid new goal t
    → IsGroundOf mode i (record { nodes = new; cells = cells; clauses = ts; objective = t })
unfolding ground_objective
ground_is mode i n env old mid new es goal cells ts t same_n same_env same_es same_goal clauses one =
    let g : GroundState = record { nodes = new; cells = cells; clauses = ts; objective = t } in
    let own : GroundOver n env es goal g = (
      λ r. zip_kept mid new r.numbers (λ e. Some (of_bool (is_true_in n.mode r.values e))) ts es (goal_grows n env mid new goal t one) clauses.known (clauses.values r),
      goal_numbers n env mid new goal t one,
    ) in
    let there : GroundOver (numbering mode i.finds) (clause_env i) i.clauses i.goal g =
    subst (λ x. GroundOver (numbering mode i.finds) (clause_env i) i.clauses x g) same_goal
    (subst (λ x. GroundOver (numbering mode i.finds) (clause_env i) x goal g) same_es
    (subst (λ x. GroundOver (numbering mode i.finds) x es goal g) same_env
    (subst (λ x. GroundOver x env es goal g) same_n own))) in
    record { clauses = there.0; senses = goal_senses n env mid new goal t one ∙ ap (option_map (λ x. x.0)) same_goal; objective = there.1 }

-- what a ground says of all values that fit
pub says_clauses : (mode : Mode) (i : Instance) (g : GroundState) → IsClosed i → IsGroundOf mode i g → SaysClauses mode i g
unfolding found_reading
says_clauses mode i g closed h a found fits = h.clauses (found_reading mode i a found closed fits)

pub says_objective : (mode : Mode) (i : Instance) (g : GroundState) → IsClosed i → IsGroundOf mode i g → SaysObjective mode i g
unfolding goal_value found_reading
says_objective mode i g closed h = record { senses = h.senses; numbers = λ a found fits. h.objective (found_reading mode i a found closed fits) }
