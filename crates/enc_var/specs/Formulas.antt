-- What it means that a formula stands for a ground.
use Rattle.std.specs.Prelude.{◌≡◌, ℕ, Bool, ℤ, IsTrue, List, map, option_map}
use Rattle.std.specs.List.{All}
use Rattle.cnf_core.specs.Clauses.{Satisfies}
use Rattle.cnf_core.specs.Formula.{Cnf}
use Rattle.cnf_core.specs.Steps.{IsConsistent}
use Rattle.ep_flat.specs.Flats.{IsMapOf, MapState, objective_number}
use Rattle.ep_ground.specs.Grounds.{GroundState, IsGroundSolution, ground_objective}
use Rattle.enc_var.specs.Decoding.{VariableLiterals}
use Rattle.enc_var.specs.Layouts.{AreGiven, IsLayoutOf, decoded_cells, decoded_values}

-- The assignments that satisfy a formula decode to exactly the values of the cells that a ground keeps, and the variable
-- of the objective then to its number.
pub record IsFormulaOf (g : GroundState) (layout : List VariableLiterals) (m : MapState) (f : Cnf) : Type 0 where
  pub from_new : IsTrue f.from_new
  pub is_layout : IsLayoutOf layout f
  pub is_map : IsMapOf (map (λ one. one.values) g.cells) (option_map (λ goal. goal.0) g.objective) (map (λ e. e.domain) layout) m
  pub consistent : All IsConsistent f.clauses
  pub sound : (s : ℕ → Bool) → Satisfies s f.clauses → IsGroundSolution g (decoded_cells layout m s)
  pub complete : (cells : List ℤ) → IsGroundSolution g cells → AreGiven layout m f.clauses cells
  pub objective : (s : ℕ → Bool) → Satisfies s f.clauses
      → objective_number m (decoded_values layout s) ≡ ground_objective g (decoded_cells layout m s)
