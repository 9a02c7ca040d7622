-- Matrices as lists of their scalars, each unrolled by itself.
use Rattle.std.specs.Prelude.{◌≡◌, ℕ, List, ◌++◌, map, ℤ, Option, option_map}
use Rattle.ep_base.specs.Reads.{all_there}
use Rattle.ep_ground.specs.Nodes.{GroundNode}
use Rattle.ep_tree.specs.Values.{single}
use Rattle.ep_unroll.specs.PartLists.{HaveTerms, worths}
use Rattle.ep_unroll.specs.declared.unrolled.Unrolled.{Unrolled}

-- Parts are put behind others, each a number where it has a value. They have scalars, whatever numbers the cells have, and
-- where there are none one of them has no value. Each of their terms has a node where those of others have.
pub record AddsParts (before after : List Unrolled) (from : List Unrolled) (scalars : List GroundNode → List ℤ → Option (List ℤ)) : Type 0 where
  pub more : List Unrolled
  pub whole : after ≡ before ++ more
  pub terms : (count : ℕ) → HaveTerms count from → HaveTerms count more
  pub own : List GroundNode → List ℤ → List (Option ℤ)
  pub each : (nodes : List GroundNode) (numbers : List ℤ) → worths nodes numbers more ≡ map (λ o. option_map single o) (own nodes numbers)
  pub values : (nodes : List GroundNode) (numbers : List ℤ) → all_there (own nodes numbers) ≡ scalars nodes numbers
