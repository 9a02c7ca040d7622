use Rattle.std.proofs.Common.{ℕ, ◌<◌, length}
use Rattle.ep_defined.proofs.Listing.{guarded_part, second_holds}
use Rattle.ep_defined.proofs.images.add_weighted_guards.Goals as goal

pub add_guard-requires : goal.add_guard-requires
add_guard-requires c = second_holds (λ (t : ℕ). t < length c.args.images.now) c.args.parts.now c.loop-part.part-index _ c.requires c.loop-part-test.true c.part-item.is

pub loop-part-preserved : goal.loop-part-preserved
loop-part-preserved c =
    guarded_part c.args.images.now c.args.parts.now c.loop-part.part-index _ c.args.guards.now.items c.loop-part.guards.items c.add_guard.new.guards.items
    c.in_ok-add_guard.ensures c.loop-part.invariant c.loop-part-test.true c.part-item.is
