use Rattle.std.proofs.Common.{arith}
use Rattle.ep_defined.specs.Images.{IsImageBy}
use Rattle.ep_defined.specs.declared.kinds.Kind.{Kind}
use Rattle.ep_ground.specs.NodeViews.{plain_node}
use Rattle.ep_defined.proofs.Growth.{grows_at_most, image_by, number_safe, room_less}
use Rattle.ep_defined.proofs.steps.plain_image.Goals as goal

pub number_image-requires-clause-whole : goal.number_image-requires-clause-whole
number_image-requires-clause-whole c =
    number_safe (plain_node c.args.node.now) c.requires.kind

pub returns-clause-is : goal.returns-clause-is
unfolding IsImageBy
returns-clause-is c =
    image_by Kind.Number c.number_image.new.arena c.args.nought c.args.images.now (plain_node c.args.node.now) c.in_ok-image.image c.requires.kind (record { total = c.in_ok-image.ensures.total; guard = c.in_ok-image.ensures.guard })

pub returns-clause-grows : goal.returns-clause-grows
returns-clause-grows c =
    grows_at_most (plain_node c.args.node.now) 2 3 c.args.arena.now c.number_image.new.arena (omega arith) c.in_ok-image.ensures.grows

pub number_image-requires-clause-room : goal.number_image-requires-clause-room
number_image-requires-clause-room c = room_less 2 3 c.args.arena.now (omega arith) c.requires.room
