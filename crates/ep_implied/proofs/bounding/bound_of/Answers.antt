use Rattle.std.proofs.Common.{ℤ, List, IsTrue, map}
use Rattle.std.specs.List.{All}
use Rattle.ep_flat.specs.Cons.{con_holds}
use Rattle.ep_flat.specs.FlatViews.{plain_con}
use Rattle.ep_implied.specs.Sums.{HoldsWithin}
use Rattle.ep_implied.specs.declared.sums.Within.{Within}
use Rattle.ep_implied.proofs.Following.{if_some}
use Rattle.ep_implied.proofs.bounding.bound_of.Goals as goal

pub divided-requires : goal.divided-requires
divided-requires c = λ values meets.
    if_some (λ (sum : Within). (vs : List ℤ) → All (λ con. IsTrue (con_holds vs con)) (map plain_con c.args.flat.now.cons.items) → HoldsWithin sum vs)
    c.in_ok-sum.field-0 c.in-Some.sum c.in-Some.is c.in_ok-sum.ensures values meets.cons
