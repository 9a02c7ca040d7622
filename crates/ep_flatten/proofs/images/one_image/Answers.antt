use Rattle.std.proofs.Common.{◌∙◌, subst}
use Rattle.ep_numbers.specs.Spans.{interval_of}
use Rattle.ep_flatten.specs.Images.{Collects, HasResult, domain_at, operation_result}
use Rattle.ep_flatten.proofs.Adding.{if_ok_then}
use Rattle.ep_flatten.proofs.ImageSteps.{image_of, result_stays}
use Rattle.ep_flatten.proofs.images.one_image.Goals as goal

pub returns : goal.returns
returns c =
    let span = interval_of c.args.span in
    let runs = c.push_results.new.results.items in
    if_ok_then c.new.result c.new.ensures.numbers (λ set h.
    image_of span (HasResult span (operation_result c.args.op)) (domain_at c.args.vars.now c.args.places.now c.args.part) c.new-results.result.items runs set (result_stays span (operation_result c.args.op)) c.new-results.ensures.items
    (subst (λ xs. Collects span (HasResult span (operation_result c.args.op)) xs c.new-results.result.items runs) (c.deref.ensures.value ∙ c.in_ok-numbers.ensures) c.in_ok-push_results.ensures) h)
