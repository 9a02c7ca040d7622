-- Terms of numbers.
use Rattle.std.specs.Prelude.{◌≡◌, ℕ, ◌<◌, List, ℤ, Option, length}
use Rattle.ep_ground.specs.Nodes.{GroundNode}
use Rattle.ep_ground.specs.Terms.{term_value}
use Rattle.ep_unroll.specs.Growing.{Grows}

-- A term has the number that a function gives of the numbers of the cells.
pub record HasNumber (old new : List GroundNode) (number : List ℤ → Option ℤ) (t : ℕ) : Type 0 where
  pub grows : Grows old new
  pub known : t < length new
  pub value : (numbers : List ℤ) → term_value new numbers t ≡ number numbers
