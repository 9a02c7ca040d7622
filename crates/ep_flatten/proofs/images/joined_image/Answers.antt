use Rattle.ep_numbers.specs.Spans.{interval_of}
use Rattle.ep_flatten.specs.Images.{HasNumbers}
use Rattle.ep_flatten.proofs.Adding.{if_ok_then}
use Rattle.ep_flatten.proofs.ImageSteps.{full_numbers, hull_image, image_of, numbers_stay}
use Rattle.ep_flatten.proofs.images.joined_image.Goals as goal

pub returns : goal.returns
returns c =
    let span = interval_of c.args.span in
    let vars = c.args.vars.now in
    let places = c.args.places.now in
    if_ok_then c.new.result c.new.ensures.numbers (λ set h.
    image_of span (HasNumbers span vars places) c.args.parts.now c.new-results.result.items c.push_parts.new.results.items set (numbers_stay span vars places) c.new-results.ensures.items c.in_ok-push_parts.ensures h)
