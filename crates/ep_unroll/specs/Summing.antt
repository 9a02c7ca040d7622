-- Sums that are gathered: a number, and terms beside it.
use Rattle.std.specs.Prelude.{◌≡◌, ℕ, ◌<◌, List, ◌+ℤ◌, map, ℤ, Option, length, option_and_then, option_map}
use Rattle.std.specs.List.{All}
use Rattle.ep_base.specs.Numbers.{sum_of}
use Rattle.ep_base.specs.Reads.{all_there}
use Rattle.ep_ground.specs.Nodes.{GroundNode}
use Rattle.ep_ground.specs.Terms.{term_value}
use Rattle.ep_unroll.specs.Growing.{Grows}

-- a number and those of terms, added
unfoldable pub total_worth : List GroundNode → List ℤ → ℤ → List ℕ → Option ℤ
total_worth nodes numbers constant ts = option_map (λ xs. constant +ℤ sum_of xs) (all_there (map (term_value nodes numbers) ts))

-- two numbers added, where both are there
unfoldable pub plus : Option ℤ → Option ℤ → Option ℤ
plus a b = option_and_then (λ x. option_map (λ y. x +ℤ y) b) a

-- A number and terms become others, with one number more in all, whatever numbers the cells have.
pub record AddsNumber (old new : List GroundNode) (before after : List ℕ) (constant sum : ℤ) (number : List ℤ → Option ℤ) : Type 0 where
  pub grows : Grows old new
  pub known : All (λ t. t < length old) before → All (λ t. t < length new) after
  pub values : All (λ t. t < length old) before → (numbers : List ℤ)
      → total_worth new numbers sum after ≡ plus (total_worth old numbers constant before) (number numbers)
