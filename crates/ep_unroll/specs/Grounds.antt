-- What a ground says of an instance, by the numbers that its cells have.
use Rattle.std.specs.Prelude.{◌≡◌, Some, option_and_then, option_map}
use Rattle.std.specs.List.{AllZip}
use Rattle.ep_base.specs.Numbers.{of_bool}
use Rattle.ep_ground.specs.Grounds.{GroundState, ground_objective}
use Rattle.ep_ground.specs.Terms.{term_value}
use Rattle.ep_tree.specs.Binding.{Instance}
use Rattle.ep_tree.specs.Closed.{clause_env}
use Rattle.ep_tree.specs.Evaluation.{evaluate, is_true_in, number_in}
use Rattle.ep_tree.specs.declared.values.Mode.{Mode}
use Rattle.ep_unroll.specs.Firsts.{numbering}
use Rattle.ep_unroll.specs.Readings.{Reading}

-- Whatever the numbers of the cells make of the decision variables, each clause and the objective have their terms, in a mode.
pub record IsGroundOf (mode : Mode) (i : Instance) (g : GroundState) : Type 0 where
  pub clauses : (r : Reading (numbering mode i.finds) (clause_env i))
      → AllZip (λ t e. term_value g.nodes r.numbers t ≡ Some (of_bool (is_true_in mode r.values e))) g.clauses i.clauses
  pub senses : option_map (λ goal. goal.0) g.objective ≡ option_map (λ goal. goal.0) i.goal
  pub objective : (r : Reading (numbering mode i.finds) (clause_env i))
      → ground_objective g r.numbers ≡ option_and_then (λ goal. number_in (evaluate mode r.values goal.1)) i.goal
