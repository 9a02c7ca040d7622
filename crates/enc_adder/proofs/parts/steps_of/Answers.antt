use Rattle.std.proofs.Common.{◌≡◌, ◌∙◌, ◌≤ℤ◌, ℤ, pos, get_or, w64, to_z, of_z, arith, rules}
use Rattle.std.proofs.lemmas.Int.{ints, to_z-of_z}
use Rattle.std.proofs.lemmas.List.{take_all}
use Rattle.enc_adder.proofs.Halves.{no_step, one_step_more, worths_as}
use Rattle.enc_adder.proofs.Least.{at_place}
use Rattle.enc_adder.proofs.parts.steps_of.Goals as goal

pub loop-value-init : goal.loop-value-init
loop-value-init c = no_step _ _ _ _ c.new-steps.ensures.items

pub loop-value-preserved : goal.loop-value-preserved
loop-value-preserved c =
    let xs = c.deref-value-items.result.now in
    let i = c.loop-value.value-index in
    let n : ℤ = get_or xs i (pos 0) in
    let whole : to_z w64 (of_z w64 n) ≡ n = to_z-of_z w64 n (search rules) in
    one_step_more xs i (pos 0) _ _ c.loop-value.steps.items c.push.new.self.items c.step_from-step.result _ _ _ c.loop-value-test.true c.loop-value.invariant c.in_ok-push.ensures.items c.step_from-step.ensures.value c.step_from-step.ensures.worth whole
    (omega (arith, ints)) (omega (arith, ints))

pub returns-clause-steps : goal.returns-clause-steps
returns-clause-steps c =
    c.loop-value.invariant.values ∙ take_all c.loop-value.value-index c.deref-value-items.result.now c.loop-value-test.false ∙ c.deref-value-items.ensures.value ∙ c.in_ok-values.ensures ∙ c.domain.ensures

pub returns-clause-worths : goal.returns-clause-worths
returns-clause-worths c = worths_as c.loop-value.steps.items _ _ c.args.size c.args.least c.loop-value.invariant.worths (omega (arith, ints)) (omega (arith, ints))

pub step_from-step-requires-clause-above : goal.step_from-step-requires-clause-above
step_from-step-requires-clause-above c =
    let xs = c.deref-value-items.result.now in
    let i = c.loop-value.value-index in
    let n : ℤ = get_or xs i (pos 0) in
    let whole : to_z w64 (of_z w64 n) ≡ n = to_z-of_z w64 n (search rules) in
    let above : c.args.least ≤ℤ n = at_place xs _ i (pos 0) c.args.least c.requires.least (c.deref-value-items.ensures.value ∙ c.in_ok-values.ensures ∙ c.domain.ensures) c.loop-value-test.true in
    omega (arith, ints, whole, above)
