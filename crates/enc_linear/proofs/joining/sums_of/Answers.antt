use Rattle.std.proofs.Common.{◌≡◌, ◌+ℤ◌, List, ap, length, get_or, pos, arith, subst}
use Rattle.std.proofs.lemmas.List.{take_all}
use Rattle.enc_linear.specs.Bounds.{clipped}
use Rattle.enc_linear.specs.declared.terms.Step.{Step}
use Rattle.enc_linear.proofs.Summing.{Rows, rows_none, rows_said, rows_turn}
use Rattle.enc_linear.proofs.joining.sums_of.Goals as goal

pub loop-step-init : goal.loop-step-init
loop-step-init c = rows_none (λ a b. clipped c.args.clip.low c.args.clip.high (a +ℤ b)) c.args.second.now.steps.items c.args.first.now.steps.items c.new-runs.result.items

pub loop-step-preserved : goal.loop-step-preserved
loop-step-preserved c =
    let d : Step = record { value = pos 0; worth = pos 0 } in
    let xs = c.args.first.now.steps.items in
    let i = c.loop-step.step-index in
    let long : length c.deref-step-items.result.now ≡ length xs = ap length c.deref-step-items.ensures.value in
    rows_turn (λ a b. clipped c.args.clip.low c.args.clip.high (a +ℤ b)) c.args.second.now.steps.items xs i d c.loop-step.runs.items c.push_sums.new.runs.items _ (omega (arith, long, c.loop-step-test.true)) c.in_ok-push_sums.ensures.kept c.loop-step.invariant c.in_ok-push_sums.ensures.sums
    (ap (λ (ys : List Step). (get_or ys i d).worth) c.deref-step-items.ensures.value)

pub returns : goal.returns
returns c =
    let xs = c.args.first.now.steps.items in
    let long : length c.deref-step-items.result.now ≡ length xs = ap length c.deref-step-items.ensures.value in
    rows_said (λ a b. clipped c.args.clip.low c.args.clip.high (a +ℤ b)) c.new.result c.args.second.now.steps.items xs c.loop-step.runs.items c.new.ensures.numbers
    (subst (Rows (λ a b. clipped c.args.clip.low c.args.clip.high (a +ℤ b)) c.args.second.now.steps.items c.loop-step.runs.items) (take_all c.loop-step.step-index xs (omega (arith, long, c.loop-step-test.false))) c.loop-step.invariant)
