-- What a ground has to say of an instance.
use Rattle.std.specs.Prelude.{◌≡◌, Some, option_map}
use Rattle.std.specs.List.{AllZip}
use Rattle.ep_base.specs.Numbers.{of_bool}
use Rattle.ep_ground.specs.Grounds.{GroundState, ground_objective}
use Rattle.ep_ground.specs.Terms.{term_value}
use Rattle.ep_tree.specs.Binding.{Instance}
use Rattle.ep_tree.specs.Evaluation.{is_true_in}
use Rattle.ep_tree.specs.Solutions.{Assigned, Fits, Found, goal_value, under}
use Rattle.ep_tree.specs.declared.values.Mode.{Mode}
use Rattle.ep_unroll.specs.Cells.{found_numbers}

-- Each clause has a term, in order, which is 1 where the clause is true and 0 where it isn't, whatever values that fit the
-- decision variables have.
abbrev pub SaysClauses : Mode → Instance → GroundState → Type 0
SaysClauses mode i g =
    (a : Assigned) (found : Found) → Fits i a found →
    AllZip (λ t e. term_value g.nodes (found_numbers found) t ≡ Some (of_bool (is_true_in mode (under i found) e)))
    g.clauses i.clauses

-- The objective has a term of the same sense, which has the objective's number, and none where the objective has none.
pub record SaysObjective (mode : Mode) (i : Instance) (g : GroundState) : Type 0 where
  pub senses : option_map (λ goal. goal.0) g.objective ≡ option_map (λ goal. goal.0) i.goal
  pub numbers : (a : Assigned) (found : Found) → Fits i a found →
      ground_objective g (found_numbers found) ≡ goal_value mode i found
