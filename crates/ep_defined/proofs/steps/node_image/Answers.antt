use Rattle.std.proofs.Common.{sym, ◌∙◌}
use Rattle.ep_defined.specs.Images.{IsImageBy}
use Rattle.ep_defined.specs.declared.kinds.Kind.{Kind}
use Rattle.ep_ground.specs.NodeViews.{plain_node}
use Rattle.ep_defined.proofs.Growth.{grows_not, image_by}
use Rattle.ep_defined.proofs.steps.node_image.Goals as goal

pub returns-in-Nothing-clause-is : goal.returns-in-Nothing-clause-is
unfolding IsImageBy
returns-in-Nothing-clause-is c =
    image_by Kind.Nothing c.args.arena.now c.args.nought c.args.images.now (plain_node c.args.node.now) c.nothing_image.result (sym c.node_kind.ensures ∙ c.in-Nothing.is) c.nothing_image.ensures

pub returns-in-Nothing-clause-grows : goal.returns-in-Nothing-clause-grows
returns-in-Nothing-clause-grows c =
    grows_not (plain_node c.args.node.now) 3 c.args.arena.now
