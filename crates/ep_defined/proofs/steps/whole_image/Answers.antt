use Rattle.std.proofs.Common.{arith, length, subst, sym}
use Rattle.ep_defined.specs.Images.{IsConjunction, IsImageBy, IsWholeImage, guards_in}
use Rattle.ep_defined.specs.declared.kinds.Kind.{Kind}
use Rattle.ep_ground.specs.Nodes.{parts_of}
use Rattle.ep_ground.specs.NodeViews.{plain_node}
use Rattle.ep_defined.proofs.Growth.{grows_at_most, image_by, room_less}
use Rattle.ep_defined.proofs.Listing.{first_below, parts_below}
use Rattle.ep_defined.proofs.SafeKinds.{no_whole_left}
use Rattle.ep_defined.proofs.steps.whole_image.Goals as goal

pub total-total-requires : goal.total-total-requires
unfolding parts_of
total-total-requires c =
    first_below (length c.args.images.now) c.in-Whole.first _ (parts_below (length c.args.images.now) c.args.node.now _ c.in-Whole.is c.requires.parts)

pub returns-clause-is : goal.returns-clause-is
unfolding IsImageBy IsWholeImage parts_of
returns-clause-is c =
    image_by Kind.Whole c.guard_of.new.arena c.args.nought c.args.images.now (plain_node c.args.node.now) _ c.requires.kind
    (subst (λ n. IsWholeImage c.guard_of.new.arena c.args.images.now (plain_node n) (record { total = c.total-total.result; guard = c.in_ok-guard.guard })) (sym c.in-Whole.is) (c.total-total.ensures, subst (λ n. IsConjunction c.guard_of.new.arena (guards_in c.args.images.now (parts_of (plain_node n))) c.in_ok-guard.guard) c.in-Whole.is c.in_ok-guard.ensures.is))

pub returns-clause-grows : goal.returns-clause-grows
returns-clause-grows c =
    grows_at_most (plain_node c.args.node.now) 1 3 c.args.arena.now c.guard_of.new.arena (omega arith) (c.in_ok-guard.ensures.grows (plain_node c.args.node.now))

pub guard_of-requires-clause-room : goal.guard_of-requires-clause-room
guard_of-requires-clause-room c = room_less 1 3 c.args.arena.now (omega arith) c.requires.room

pub unreachable-requires : goal.unreachable-requires
unreachable-requires c = no_whole_left c.args.node.now c.requires.kind c.in_default.not-Whole
