use Rattle.std.proofs.Common.{arith}
use Rattle.ep_defined.specs.Images.{IsImageBy}
use Rattle.ep_defined.specs.declared.kinds.Kind.{Kind}
use Rattle.ep_ground.specs.NodeViews.{plain_node}
use Rattle.ep_defined.proofs.Growth.{all_later, division_safe, divisor_later, divisor_there, grows_then, image_by, room_after, room_less}
use Rattle.ep_defined.proofs.steps.division_image.Goals as goal

pub number_image-requires-clause-whole : goal.number_image-requires-clause-whole
number_image-requires-clause-whole c =
    division_safe (plain_node c.args.node.now) c.requires.kind

pub number_image-requires-clause-stand : goal.number_image-requires-clause-stand
number_image-requires-clause-stand c =
    all_later (plain_node c.args.node.now) 1 c.args.arena.now c.divisor_test.new.arena c.args.images.now (c.in_ok-own.ensures.grows (plain_node c.args.node.now)) c.requires.stand

pub number_image-requires-clause-own : goal.number_image-requires-clause-own
number_image-requires-clause-own c =
    divisor_there c.divisor_test.new.arena c.args.nought c.args.images.now (plain_node c.args.node.now) c.in_ok-own.own c.in_ok-own.ensures.is

pub returns-clause-is : goal.returns-clause-is
unfolding IsImageBy
returns-clause-is c =
    image_by Kind.Division c.number_image.new.arena c.args.nought c.args.images.now (plain_node c.args.node.now) c.in_ok-image.image c.requires.kind (record { own = c.in_ok-own.own; test = divisor_later (plain_node c.args.node.now) 2 c.divisor_test.new.arena c.number_image.new.arena c.args.nought c.args.images.now (plain_node c.args.node.now) c.in_ok-own.own c.in_ok-image.ensures.grows c.in_ok-own.ensures.is; total = c.in_ok-image.ensures.total; guard = c.in_ok-image.ensures.guard })

pub returns-clause-grows : goal.returns-clause-grows
returns-clause-grows c =
    grows_then (plain_node c.args.node.now) 1 2 3 c.args.arena.now c.divisor_test.new.arena c.number_image.new.arena (omega arith) (c.in_ok-own.ensures.grows (plain_node c.args.node.now)) c.in_ok-image.ensures.grows

pub divisor_test-requires-clause-room : goal.divisor_test-requires-clause-room
divisor_test-requires-clause-room c = room_less 1 3 c.args.arena.now (omega arith) c.requires.room

pub number_image-requires-clause-room : goal.number_image-requires-clause-room
number_image-requires-clause-room c =
    room_after (plain_node c.args.node.now) 1 2 3 c.args.arena.now c.divisor_test.new.arena (omega arith) (c.in_ok-own.ensures.grows (plain_node c.args.node.now)) c.requires.room
