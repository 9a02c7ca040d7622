-- What it means that a flat problem stands for a ground.
use Rattle.std.specs.Prelude.{◌≡◌, ℤ, List, map, option_map}
use Rattle.ep_flat.specs.Flats.{FlatState, IsMapOf, IsSoundFlat, MapState, Meets, cell_numbers, objective_number}
use Rattle.ep_ground.specs.Grounds.{GroundState, IsGroundSolution, ground_objective}

-- numbers of the variables that meet a flat problem and give the cells these values
pub record IsMetBy (flat : FlatState) (m : MapState) (cells : List ℤ) : Type 0 where
  pub values : List ℤ
  pub meets : Meets flat values
  pub gives : cell_numbers m values ≡ cells

-- Values of the cells extend to numbers that meet the flat problem exactly where the ground keeps them, and the variable
-- of the objective then has its number.
pub record StandsFor (g : GroundState) (flat : FlatState) (m : MapState) : Type 0 where
  pub is_sound : IsSoundFlat flat
  pub is_map : IsMapOf (map (λ one. one.values) g.cells) (option_map (λ goal. goal.0) g.objective) flat.vars m
  pub extends : (cells : List ℤ) → IsGroundSolution g cells → IsMetBy flat m cells
  pub restricts : (values : List ℤ) → Meets flat values → IsGroundSolution g (cell_numbers m values)
  pub objective : (values : List ℤ) → Meets flat values → objective_number m values ≡ ground_objective g (cell_numbers m values)
