use Rattle.ep_numbers.specs.Spans.{interval_of}
use Rattle.ep_flatten.proofs.Adding.{if_ok_then}
use Rattle.ep_flatten.proofs.ImageSteps.{product_holds}
use Rattle.ep_flatten.proofs.images.product_image.Goals as goal

pub returns : goal.returns
returns c = if_ok_then c.two_image.result c.two_image.ensures (λ set image. product_holds c.args.vars.now c.args.places.now c.args.one c.args.other (interval_of c.args.span) set c.requires image)
