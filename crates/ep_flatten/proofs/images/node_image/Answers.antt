use Rattle.ep_ground.specs.NodeViews.{plain_node}
use Rattle.ep_numbers.specs.Spans.{interval_of}
use Rattle.ep_flatten.specs.Forms.{own}
use Rattle.ep_flatten.proofs.Adding.{if_ok_then}
use Rattle.ep_flatten.proofs.ImageSteps.{hull_holds}
use Rattle.ep_flatten.proofs.images.node_image.Goals as goal

pub returns-in_default : goal.returns-in_default
returns-in_default c =
    if_ok_then c.domain_of.result c.domain_of.ensures
    (λ set h. hull_holds c.args.vars.now c.args.places.now (plain_node c.args.node.now) own (interval_of c.args.span) set c.requires h)
