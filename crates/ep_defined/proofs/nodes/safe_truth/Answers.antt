use Rattle.std.proofs.Common.{length}
use Rattle.ep_defined.proofs.Listing.{left_below, parts_below, read_below, right_below}
use Rattle.ep_ground.specs.Nodes.{parts_of}
use Rattle.ep_defined.proofs.SafeKinds.{no_truth_left}
use Rattle.ep_defined.proofs.nodes.safe_truth.Goals as goal

pub totals-requires-in-Lex : goal.totals-requires-in-Lex
unfolding parts_of
totals-requires-in-Lex c =
    let n = length c.args.images.now in
    read_below n c.in-Lex.back.items c.deref-in-Lex.result.now c.deref-in-Lex.ensures.value (right_below n c.in-Lex.front.items c.in-Lex.back.items (parts_below n c.args.node.now _ c.in-Lex.is c.requires.parts))

pub totals-requires-in-Gcc : goal.totals-requires-in-Gcc
unfolding parts_of
totals-requires-in-Gcc c =
    let n = length c.args.images.now in
    read_below n c.in-Gcc.parts.items c.deref-in-Gcc.result.now c.deref-in-Gcc.ensures.value (left_below n c.in-Gcc.parts.items c.in-Gcc.counts.items (parts_below n c.args.node.now _ c.in-Gcc.is c.requires.parts))

pub totals-requires-in-Gcc-2 : goal.totals-requires-in-Gcc-2
unfolding parts_of
totals-requires-in-Gcc-2 c =
    let n = length c.args.images.now in
    read_below n c.in-Gcc.counts.items c.deref-in-Gcc-2.result.now c.deref-in-Gcc-2.ensures.value (right_below n c.in-Gcc.parts.items c.in-Gcc.counts.items (parts_below n c.args.node.now _ c.in-Gcc.is c.requires.parts))

pub unreachable-requires : goal.unreachable-requires
unreachable-requires c = no_truth_left c.args.node.now c.requires.kind c.in_default.not-Compare c.in_default.not-Lex c.in_default.not-Member c.in_default.not-Not c.in_default.not-And c.in_default.not-Or c.in_default.not-Iff c.in_default.not-AllDiff c.in_default.not-Gcc c.in_default.not-AtLeast c.in_default.not-AtMost c.in_default.not-Table
