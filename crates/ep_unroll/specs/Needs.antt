-- What has to have a value so that a matrix has one.
use Rattle.std.specs.Prelude.{◌≡◌, ℕ, ◌<◌, ◌≤◌, List, map, ℤ, Option, is_some, length}
use Rattle.std.specs.List.{All}
use Rattle.ep_base.specs.Reads.{all_there}
use Rattle.ep_ground.specs.Nodes.{GroundNode}
use Rattle.ep_ground.specs.Terms.{term_value}
use Rattle.ep_tree.specs.Evaluation.{number_in}
use Rattle.ep_tree.specs.Values.{ValueTree}
use Rattle.ep_unroll.specs.Growing.{Grows}
use Rattle.ep_unroll.specs.Meanings.{worth}
use Rattle.ep_unroll.specs.declared.unrolled.Unrolled.{Unrolled}

-- Terms have numbers exactly where a value is there, wherever so many cells have numbers.
pub record AreNeeded (old new : List GroundNode) (count : ℕ) (value : List ℤ → Option ValueTree) (us : List ℕ) : Type 0 where
  pub grows : Grows old new
  pub known : All (λ t. t < length new) us
  pub values : (numbers : List ℤ) → count ≤ length numbers → is_some (all_there (map (term_value new numbers) us)) ≡ is_some (value numbers)

-- Some terms have numbers exactly where all of these have, wherever so many cells have numbers.
pub record ArePartial (nodes : List GroundNode) (count : ℕ) (ts us : List ℕ) : Type 0 where
  pub known : All (λ t. t < length nodes) us
  pub values : (numbers : List ℤ) → count ≤ length numbers
      → is_some (all_there (map (term_value nodes numbers) us)) ≡ is_some (all_there (map (term_value nodes numbers) ts))

-- Terms have numbers exactly where all of these scalars have, wherever so many cells have numbers.
pub record ArePartialScalars (old new : List GroundNode) (count : ℕ) (xs : List Unrolled) (us : List ℕ) : Type 0 where
  pub grows : Grows old new
  pub known : All (λ t. t < length new) us
  pub values : (numbers : List ℤ) → count ≤ length numbers
      → is_some (all_there (map (term_value new numbers) us)) ≡ is_some (all_there (map (λ x. number_in (worth old numbers x)) xs))
