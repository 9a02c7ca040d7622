use Rattle.std.proofs.Common.{length}
use Rattle.ep_defined.proofs.Listing.{parts_below, whole_below}
use Rattle.ep_ground.specs.Nodes.{parts_of}
use Rattle.ep_defined.proofs.nodes.add_guards_of.Goals as goal

pub add_whole_guards-requires : goal.add_whole_guards-requires
unfolding parts_of
add_whole_guards-requires c =
    let n = length c.args.images.now in
    whole_below n c.in-Whole.a c.in-Whole.parts.items c.deref-in-Whole.result.now c.deref-in-Whole.ensures.value (parts_below n c.args.node.now _ c.in-Whole.is c.requires)
