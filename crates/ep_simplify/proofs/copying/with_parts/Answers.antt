use Rattle.std.proofs.Common.{length}
use Rattle.ep_defined.proofs.Listing.{left_below, parts_below, read_below, rest_below, right_below}
use Rattle.ep_ground.specs.Nodes.{parts_of}
use Rattle.ep_simplify.proofs.copying.with_parts.Goals as goal

pub all-requires-in-Pick : goal.all-requires-in-Pick
unfolding parts_of
all-requires-in-Pick c =
    let n = length c.args.images.now in
    read_below n c.in-Pick.parts.items c.deref-in-Pick.result.now c.deref-in-Pick.ensures.value (left_below n c.in-Pick.parts.items c.in-Pick.indices.items (parts_below n c.args.node.now _ c.in-Pick.is c.requires))

pub all-requires-in-Pick-2 : goal.all-requires-in-Pick-2
unfolding parts_of
all-requires-in-Pick-2 c =
    let n = length c.args.images.now in
    read_below n c.in-Pick.indices.items c.deref-in-Pick-3.result.now c.deref-in-Pick-3.ensures.value (right_below n c.in-Pick.parts.items c.in-Pick.indices.items (parts_below n c.args.node.now _ c.in-Pick.is c.requires))

pub all-requires-in-SafePick : goal.all-requires-in-SafePick
unfolding parts_of
all-requires-in-SafePick c =
    let n = length c.args.images.now in
    read_below n c.in-SafePick.parts.items c.deref-in-SafePick.result.now c.deref-in-SafePick.ensures.value (left_below n c.in-SafePick.parts.items c.in-SafePick.indices.items (parts_below n c.args.node.now _ c.in-SafePick.is c.requires))

pub all-requires-in-SafePick-2 : goal.all-requires-in-SafePick-2
unfolding parts_of
all-requires-in-SafePick-2 c =
    let n = length c.args.images.now in
    read_below n c.in-SafePick.indices.items c.deref-in-SafePick-3.result.now c.deref-in-SafePick-3.ensures.value (right_below n c.in-SafePick.parts.items c.in-SafePick.indices.items (parts_below n c.args.node.now _ c.in-SafePick.is c.requires))

pub all-requires-in-Whole : goal.all-requires-in-Whole
unfolding parts_of
all-requires-in-Whole c =
    let n = length c.args.images.now in
    read_below n c.in-Whole.parts.items c.deref-in-Whole.result.now c.deref-in-Whole.ensures.value (rest_below n c.in-Whole.a c.in-Whole.parts.items (parts_below n c.args.node.now _ c.in-Whole.is c.requires))

pub all-requires-in-Lex-2 : goal.all-requires-in-Lex-2
unfolding parts_of
all-requires-in-Lex-2 c =
    let n = length c.args.images.now in
    read_below n c.in-Lex.back.items c.deref-in-Lex-2.result.now c.deref-in-Lex-2.ensures.value (right_below n c.in-Lex.front.items c.in-Lex.back.items (parts_below n c.args.node.now _ c.in-Lex.is c.requires))

pub all-requires-in-Gcc : goal.all-requires-in-Gcc
unfolding parts_of
all-requires-in-Gcc c =
    let n = length c.args.images.now in
    read_below n c.in-Gcc.parts.items c.deref-in-Gcc.result.now c.deref-in-Gcc.ensures.value (left_below n c.in-Gcc.parts.items c.in-Gcc.counts.items (parts_below n c.args.node.now _ c.in-Gcc.is c.requires))

pub all-requires-in-Gcc-2 : goal.all-requires-in-Gcc-2
unfolding parts_of
all-requires-in-Gcc-2 c =
    let n = length c.args.images.now in
    read_below n c.in-Gcc.counts.items c.deref-in-Gcc-2.result.now c.deref-in-Gcc-2.ensures.value (right_below n c.in-Gcc.parts.items c.in-Gcc.counts.items (parts_below n c.args.node.now _ c.in-Gcc.is c.requires))
