use Rattle.std.proofs.Common.{length}
use Rattle.ep_defined.proofs.Listing.{left_below, parts_below, read_below, rest_below, right_below}
use Rattle.ep_ground.specs.Nodes.{parts_of}
use Rattle.ep_defined.proofs.SafeKinds.{truth_left}
use Rattle.ep_defined.proofs.nodes.safe_node.Goals as goal

pub safe_pick-requires-clause-parts : goal.safe_pick-requires-clause-parts
unfolding parts_of
safe_pick-requires-clause-parts c =
    let n = length c.args.images.now in
    read_below n c.in-Pick.parts.items c.deref-in-Pick.result.now c.deref-in-Pick.ensures.value (left_below n c.in-Pick.parts.items c.in-Pick.indices.items (parts_below n c.args.node.now _ c.in-Pick.is c.requires))

pub safe_pick-requires-clause-indices : goal.safe_pick-requires-clause-indices
unfolding parts_of
safe_pick-requires-clause-indices c =
    let n = length c.args.images.now in
    read_below n c.in-Pick.indices.items c.deref-in-Pick-3.result.now c.deref-in-Pick-3.ensures.value (right_below n c.in-Pick.parts.items c.in-Pick.indices.items (parts_below n c.args.node.now _ c.in-Pick.is c.requires))

pub safe_pick-requires-in-SafePick-clause-parts : goal.safe_pick-requires-in-SafePick-clause-parts
unfolding parts_of
safe_pick-requires-in-SafePick-clause-parts c =
    let n = length c.args.images.now in
    read_below n c.in-SafePick.parts.items c.deref-in-SafePick.result.now c.deref-in-SafePick.ensures.value (left_below n c.in-SafePick.parts.items c.in-SafePick.indices.items (parts_below n c.args.node.now _ c.in-SafePick.is c.requires))

pub safe_pick-requires-in-SafePick-clause-indices : goal.safe_pick-requires-in-SafePick-clause-indices
unfolding parts_of
safe_pick-requires-in-SafePick-clause-indices c =
    let n = length c.args.images.now in
    read_below n c.in-SafePick.indices.items c.deref-in-SafePick-3.result.now c.deref-in-SafePick-3.ensures.value (right_below n c.in-SafePick.parts.items c.in-SafePick.indices.items (parts_below n c.args.node.now _ c.in-SafePick.is c.requires))

pub totals-requires-in-Whole : goal.totals-requires-in-Whole
unfolding parts_of
totals-requires-in-Whole c =
    let n = length c.args.images.now in
    read_below n c.in-Whole.parts.items c.deref-in-Whole.result.now c.deref-in-Whole.ensures.value (rest_below n c.in-Whole.a c.in-Whole.parts.items (parts_below n c.args.node.now _ c.in-Whole.is c.requires))

pub safe_truth-requires-clause-kind : goal.safe_truth-requires-clause-kind
safe_truth-requires-clause-kind c = truth_left c.args.node.now c.in_default.not-Const c.in_default.not-Undefined c.in_default.not-Cell c.in_default.not-Add c.in_default.not-Mul c.in_default.not-Div c.in_default.not-Mod c.in_default.not-Pow c.in_default.not-Abs c.in_default.not-Min c.in_default.not-Max c.in_default.not-Pick c.in_default.not-Whole c.in_default.not-SafeDiv c.in_default.not-SafeMod c.in_default.not-SafePick
