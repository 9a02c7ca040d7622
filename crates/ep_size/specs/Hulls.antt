-- What is kept of the numbers of which a read takes one.
use Rattle.std.specs.Prelude.{◌≡◌, List, [], ◌∷◌, length, pos}
use Rattle.ep_base.specs.Intervals.{hull, only}
use Rattle.ep_tree.specs.Reach.{Span, reaches}
use Rattle.ep_size.specs.Extents.{plain_span}
use Rattle.ep_numbers.specs.Spans.{interval_of}
use Rattle.ep_size.specs.Totals.{capped}
use Rattle.ep_size.specs.declared.hulls.Hulled.{Hulled}

-- from the least to the greatest of some numbers, how many they are as far as a weight is told, and the first of them
pub record HullOf (t : Hulled) (s : Span) (spans : List Span) : Type 0 where
  pub count : t.count ≡ capped (length (s ∷ spans))
  pub reach : interval_of t.reach ≡ hull (reaches (s ∷ spans))
  pub first : plain_span t.first ≡ s

-- no number is left
pub record HullOfNone (t : Hulled) : Type 0 where
  pub count : t.count ≡ 0
  pub reach : interval_of t.reach ≡ only (pos 0)

-- some numbers are left by a read
unfoldable pub Hulls : Hulled → List Span → Type 0
Hulls t [] = HullOfNone t
Hulls t (s ∷ spans) = HullOf t s spans
