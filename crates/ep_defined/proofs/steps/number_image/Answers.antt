use Rattle.std.proofs.Common.{arith}
use Rattle.ep_defined.specs.Images.{over_totals}
use Rattle.ep_ground.specs.NodeViews.{plain_node}
use Rattle.ep_defined.proofs.Growth.{all_later, grows_then, is_later, own_later, room_after, room_less}
use Rattle.ep_defined.proofs.steps.number_image.Goals as goal

pub guard_of-requires-clause-stand : goal.guard_of-requires-clause-stand
guard_of-requires-clause-stand c =
    all_later (plain_node c.args.node.now) 1 c.args.arena.now c.total_of.new.arena c.args.images.now c.in_ok-total.ensures.grows c.requires.stand

pub guard_of-requires-clause-own : goal.guard_of-requires-clause-own
guard_of-requires-clause-own c =
    own_later (plain_node c.args.node.now) 1 c.args.arena.now c.total_of.new.arena c.args.own c.in_ok-total.ensures.grows c.requires.own

pub returns-clause-total : goal.returns-clause-total
returns-clause-total c =
    is_later (plain_node c.args.node.now) 1 c.total_of.new.arena c.guard_of.new.arena c.in_ok-total.total (over_totals c.args.images.now (plain_node c.args.node.now)) (c.in_ok-guard.ensures.grows (plain_node c.args.node.now)) c.in_ok-total.ensures.is

pub returns-clause-grows : goal.returns-clause-grows
returns-clause-grows c =
    grows_then (plain_node c.args.node.now) 1 1 2 c.args.arena.now c.total_of.new.arena c.guard_of.new.arena (omega arith) c.in_ok-total.ensures.grows (c.in_ok-guard.ensures.grows (plain_node c.args.node.now))

pub total_of-requires-clause-room : goal.total_of-requires-clause-room
total_of-requires-clause-room c = room_less 1 2 c.args.arena.now (omega arith) c.requires.room

pub guard_of-requires-clause-room : goal.guard_of-requires-clause-room
guard_of-requires-clause-room c =
    room_after (plain_node c.args.node.now) 1 1 2 c.args.arena.now c.total_of.new.arena (omega arith) c.in_ok-total.ensures.grows c.requires.room
