use Rattle.std.proofs.Common.{◌≡◌, ◌+◌, ◌∙◌, ℤ, pos, None, Some, ap, get_or, of_z, rules, subst, sym, take, to_z, w64}
use Rattle.std.proofs.lemmas.Int.{to_z-of_z}
use Rattle.std.proofs.lemmas.List.{take_more}
use Rattle.ep_base.specs.Intervals.{LiesIn}
use Rattle.ep_numbers.specs.Spans.{interval_of}
use Rattle.ep_flatten.specs.Images.{operation_result}
use Rattle.ep_flatten.proofs.ImageSteps.{result_added, result_skipped}
use Rattle.ep_flatten.proofs.images.push_results.Goals as goal

pub loop-number-preserved-in_default : goal.loop-number-preserved-in_default
loop-number-preserved-in_default c =
    let numbers = c.args.numbers.now in
    let k = c.loop-number.number-index in
    let x : ℤ = get_or numbers k (pos 0) in
    let word : to_z w64 (of_z w64 x) ≡ x = to_z-of_z w64 x (search rules) in
    result_skipped (interval_of c.args.span) (operation_result c.args.op) (take k numbers) x (take (k + 1) numbers) c.args.results.now.items c.loop-number.results.items
    (take_more numbers k (pos 0) c.loop-number-test.true) c.loop-number.invariant
    (subst (λ (y : ℤ). LiesIn (operation_result c.args.op y) (interval_of c.args.span) → None ≡ Some (operation_result c.args.op y)) word c.in_default.ensures.told)

pub loop-number-preserved : goal.loop-number-preserved
loop-number-preserved c =
    let numbers = c.args.numbers.now in
    let k = c.loop-number.number-index in
    let x : ℤ = get_or numbers k (pos 0) in
    let word : to_z w64 (of_z w64 x) ≡ x = to_z-of_z w64 x (search rules) in
    let n = c.in-Some.result in
    let same : to_z w64 (of_z w64 n) ≡ n = to_z-of_z w64 n (search rules) in
    let told = subst (λ (y : ℤ). LiesIn (operation_result c.args.op y) (interval_of c.args.span) → Some n ≡ Some (operation_result c.args.op y)) word c.in-Some.ensures.told in
    result_added (interval_of c.args.span) (operation_result c.args.op) (take k numbers) x (take (k + 1) numbers) c.args.results.now.items c.loop-number.results.items c.push.new.self.items (to_z w64 (of_z w64 n))
    (take_more numbers k (pos 0) c.loop-number-test.true) c.loop-number.invariant c.in_ok-push.ensures.items
    (subst (λ m. LiesIn m (interval_of c.args.span)) (sym same) c.in-Some.ensures.within) (λ l. ap (λ m. Some m) same ∙ told l)
