use Rattle.ep_numbers.specs.Spans.{interval_of}
use Rattle.ep_flatten.proofs.Adding.{if_ok_then}
use Rattle.ep_flatten.proofs.ImageSteps.{absolute_holds}
use Rattle.ep_flatten.proofs.images.absolute_image.Goals as goal

pub returns : goal.returns
returns c = if_ok_then c.one_image.result c.one_image.ensures (λ set image. absolute_holds c.args.vars.now c.args.places.now c.args.part (interval_of c.args.span) set c.requires image)
