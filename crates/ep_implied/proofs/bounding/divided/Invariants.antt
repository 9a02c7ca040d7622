use Rattle.std.proofs.Common.{pos}
use Rattle.ep_flat.specs.FlatViews.{plain_flat}
use Rattle.ep_implied.proofs.Following.{StandForFirst}
use Rattle.ep_implied.proofs.bounding.divided.Given as goal

abbrev pub invariant-loop-place : goal.invariant-loop-place
invariant-loop-place l = StandForFirst (plain_flat l.flat).vars l.sum.coefficients.items (pos 2048) l.place l.parts.items
