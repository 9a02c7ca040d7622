use Rattle.std.proofs.Common.{◌∙◌, ℤ, List, subst}
use Rattle.ep_numbers.specs.Spans.{interval_of}
use Rattle.ep_flatten.specs.Images.{Collects, HasPairs, domain_at, paired}
use Rattle.ep_flatten.proofs.Adding.{if_ok_then}
use Rattle.ep_flatten.proofs.ImageSteps.{full_pairs, hull_image, image_of, pairs_stay}
use Rattle.ep_flatten.proofs.images.two_image.Goals as goal

pub returns-then-not-are_listed : goal.returns-then-not-are_listed
returns-then-not-are_listed c =
    let span = interval_of c.args.span in
    let ys = domain_at c.args.vars.now c.args.places.now c.args.other in
    if_ok_then c.domain_of.result c.domain_of.ensures (λ set h.
    hull_image span (HasPairs span (paired c.args.op) ys) (domain_at c.args.vars.now c.args.places.now c.args.one) set (pairs_stay span (paired c.args.op) ys) (full_pairs span (paired c.args.op) ys) h)

pub returns : goal.returns
returns c =
    let span = interval_of c.args.span in
    let f = paired c.args.op in
    let old = c.new-results.result.items in
    let runs = c.push_pairs.new.results.items in
    let xs = domain_at c.args.vars.now c.args.places.now c.args.one in
    let ys = domain_at c.args.vars.now c.args.places.now c.args.other in
    if_ok_then c.new.result c.new.ensures.numbers (λ set h.
    image_of span (HasPairs span f ys) xs old runs set (pairs_stay span f ys) c.new-results.ensures.items
    (subst (λ (l : List ℤ). Collects span (HasPairs span f l) xs old runs) (c.deref-2.ensures.value ∙ c.in_ok-others.ensures)
    (subst (λ (l : List ℤ). Collects span (HasPairs span f c.deref-2.result.now) l old runs) (c.deref.ensures.value ∙ c.in_ok-numbers.ensures) c.in_ok-push_pairs.ensures)) h)
