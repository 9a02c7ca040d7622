-- Powers of terms.
use Rattle.std.specs.Prelude.{◌≡◌, ℕ, ◌<◌, List, ℤ, option_and_then, length}
use Rattle.ep_base.specs.Numbers.{power}
use Rattle.ep_ground.specs.Nodes.{GroundNode}
use Rattle.ep_ground.specs.Terms.{term_value}
use Rattle.ep_unroll.specs.Growing.{Grows}

-- A term has another one's number to the power of an exponent.
pub record IsPower (old new : List GroundNode) (a : ℕ) (exponent : ℤ) (t : ℕ) : Type 0 where
  pub grows : Grows old new
  pub known : t < length new
  pub value : (numbers : List ℤ) → term_value new numbers t ≡ option_and_then (λ x. power x exponent) (term_value old numbers a)
