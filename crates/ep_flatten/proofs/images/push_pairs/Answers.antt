use Rattle.std.proofs.Common.{◌≡◌, ◌+◌, ℤ, pos, get_or, of_z, rules, subst, take, to_z, w64}
use Rattle.std.specs.List.{Any}
use Rattle.std.proofs.lemmas.Int.{to_z-of_z}
use Rattle.std.proofs.lemmas.List.{take_more}
use Rattle.ep_base.specs.Runs.{IsIn}
use Rattle.ep_numbers.specs.Spans.{interval_of}
use Rattle.ep_flatten.specs.Images.{HasPairs, operation_result, paired}
use Rattle.ep_flatten.proofs.ImageSteps.{collect_more, first_results, pairs_stay}
use Rattle.ep_flatten.proofs.images.push_pairs.Goals as goal

pub loop-number-preserved : goal.loop-number-preserved
loop-number-preserved c =
    let numbers = c.args.numbers.now in
    let others = c.args.others.now in
    let span = interval_of c.args.span in
    let k = c.loop-number.number-index in
    let x : ℤ = get_or numbers k (pos 0) in
    let new = c.push_results.new.results.items in
    let word : to_z w64 (of_z w64 x) ≡ x = to_z-of_z w64 x (search rules) in
    let step = c.in_ok-push_results.ensures in
    collect_more span (HasPairs span (paired c.args.op) others) (take k numbers) x (take (k + 1) numbers) c.args.results.now.items c.loop-number.results.items new (pairs_stay span (paired c.args.op) others)
    (take_more numbers k (pos 0) c.loop-number-test.true) c.loop-number.invariant step.small step.stays
    (first_results span c.with_first.result c.args.op x (λ n. Any (IsIn n) new) others (subst (λ (f : ℤ). (y : ℤ) → operation_result c.with_first.result y ≡ paired c.args.op f y) word c.with_first.ensures) step.has)
