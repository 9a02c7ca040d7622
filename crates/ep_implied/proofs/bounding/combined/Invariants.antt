use Rattle.std.proofs.Common.{ℤ, List, IsTrue, map}
use Rattle.std.specs.List.{All}
use Rattle.ep_flat.specs.Cons.{con_holds}
use Rattle.ep_flat.specs.FlatViews.{plain_con}
use Rattle.ep_implied.specs.Sums.{HoldsWithin}
use Rattle.ep_implied.proofs.bounding.combined.Given as goal

abbrev pub invariant-loop-place : goal.invariant-loop-place
invariant-loop-place l = (values : List ℤ) → All (λ con. IsTrue (con_holds values con)) (map plain_con l.flat.cons.items) → HoldsWithin l.sum values
