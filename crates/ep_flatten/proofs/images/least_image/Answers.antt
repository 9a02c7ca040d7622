use Rattle.ep_numbers.specs.Spans.{interval_of}
use Rattle.ep_flatten.proofs.Adding.{if_ok_then}
use Rattle.ep_flatten.proofs.ImageSteps.{least_holds}
use Rattle.ep_flatten.proofs.images.least_image.Goals as goal

pub returns : goal.returns
returns c = if_ok_then c.joined_image.result c.joined_image.ensures (λ set image. least_holds c.args.vars.now c.args.places.now c.args.parts.now (interval_of c.args.span) set c.requires image)
