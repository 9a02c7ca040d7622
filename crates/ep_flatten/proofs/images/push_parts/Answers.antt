use Rattle.std.proofs.Common.{◌++◌, ◌+◌, ◌∷◌, ◌∙◌, [], ap, subst, sym, take}
use Rattle.std.specs.List.{All, Any}
use Rattle.std.proofs.lemmas.List.{take_more}
use Rattle.ep_base.specs.Runs.{IsIn}
use Rattle.ep_numbers.specs.Spans.{interval_of}
use Rattle.ep_flatten.specs.Images.{HasNumbers, HasResult, domain_at, operation_result}
use Rattle.ep_flatten.specs.declared.images.Operation.TheVariants as one
use Rattle.ep_flatten.proofs.ImageSteps.{collect_more, numbers_stay, same_results}
use Rattle.ep_flatten.proofs.images.push_parts.Goals as goal

pub loop-part-preserved : goal.loop-part-preserved
loop-part-preserved c =
    let parts = c.args.parts.now in
    let vars = c.args.vars.now in
    let places = c.args.places.now in
    let span = interval_of c.args.span in
    let k = c.loop-part.part-index in
    let x = c.part-item.result in
    let new = c.push_results.new.results.items in
    let step = c.in_ok-push_results.ensures in
    collect_more span (HasNumbers span vars places) (take k parts) x (take (k + 1) parts) c.args.results.now.items c.loop-part.results.items new (numbers_stay span vars places)
    (take_more parts k x c.loop-part-test.true ∙ ap (λ r. take k parts ++ r ∷ []) (sym c.part-item.is)) c.loop-part.invariant step.small step.stays
    (same_results span (λ n. Any (IsIn n) new) (domain_at vars places x)
    (subst (All (HasResult span (operation_result one.Same) (λ n. Any (IsIn n) new))) (c.deref.ensures.value ∙ c.in_ok-numbers.ensures) step.has))
