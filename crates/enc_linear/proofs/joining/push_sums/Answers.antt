use Rattle.std.proofs.Common.{◌≡◌, ◌∙◌, ℤ, ◌+ℤ◌, ◌<◌, List, ap, length, get_or, pos, arith, subst}
use Rattle.std.specs.List.{All, Any}
use Rattle.std.proofs.lemmas.Int.{ints}
use Rattle.std.proofs.lemmas.List.{take_all}
use Rattle.ep_base.specs.Runs.{IsIn}
use Rattle.enc_linear.specs.Bounds.{clipped}
use Rattle.enc_linear.specs.declared.terms.Step.{Step}
use Rattle.enc_linear.proofs.Summing.{any_before, any_last, sums_none, sums_step}
use Rattle.enc_linear.proofs.joining.push_sums.Goals as goal

pub loop-other-init : goal.loop-other-init
loop-other-init c = record { kept = λ number h. h; sums = sums_none (λ a b. clipped c.args.clip.low c.args.clip.high (a +ℤ b)) c.args.step.worth c.args.second.now.steps.items c.args.runs.now.items }

pub loop-other-preserved : goal.loop-other-preserved
loop-other-preserved c =
    let d : Step = record { value = pos 0; worth = pos 0 } in
    let xs = c.args.second.now.steps.items in
    let i = c.loop-other.other-index in
    let items = c.deref-other-items.result.now in
    let long : length items ≡ length xs = ap length c.deref-other-items.ensures.value in
    let low : i < length xs = omega (arith, long, c.loop-other-test.true) in
    let same : (get_or items i d).worth ≡ (get_or xs i d).worth = ap (λ (ys : List Step). (get_or ys i d).worth) c.deref-other-items.ensures.value in
    let sum = c.in_ok-sum.ensures in
    let is : c.in_ok-sum.sum ≡ clipped c.args.clip.low c.args.clip.high (c.args.step.worth +ℤ (get_or xs i d).worth) = sum ∙ ap (λ w. clipped c.args.clip.low c.args.clip.high (c.args.step.worth +ℤ w)) same in
    let kept : (number : ℤ) → Any (IsIn number) c.loop-other.runs.items → Any (IsIn number) c.push.new.self.items = λ number h. any_before number _ _ _ c.in_ok-push.ensures.items h in
    record {
      kept = λ number h. kept number (c.loop-other.invariant.kept number h);
      sums = sums_step (λ a b. clipped c.args.clip.low c.args.clip.high (a +ℤ b)) c.args.step.worth xs i d c.loop-other.runs.items c.push.new.self.items low kept c.loop-other.invariant.sums
          (any_last (clipped c.args.clip.low c.args.clip.high (c.args.step.worth +ℤ (get_or xs i d).worth)) _ _ _ _ c.in_ok-push.ensures.items (omega (arith, ints, is)) (omega (arith, ints, is)));
    }

pub returns-clause-sums : goal.returns-clause-sums
returns-clause-sums c =
    let xs = c.args.second.now.steps.items in
    let long : length c.deref-other-items.result.now ≡ length xs = ap length c.deref-other-items.ensures.value in
    subst (All (λ (other : Step). Any (IsIn (clipped c.args.clip.low c.args.clip.high (c.args.step.worth +ℤ other.worth))) c.loop-other.runs.items)) (take_all c.loop-other.other-index xs (omega (arith, long, c.loop-other-test.false))) c.loop-other.invariant.sums
