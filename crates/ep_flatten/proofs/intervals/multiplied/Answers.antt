use Rattle.std.proofs.Common.{rules, sym, ap, subst, ◌∙◌, ◌≡◌, arith, SFits, w64, to_z, of_z}
use Rattle.std.specs.Prelude.{◌*ℤ◌}
use Rattle.std.specs.Int.{w128}
use Rattle.std.proofs.lemmas.Int.{to_z-of_z}
use Rattle.ep_base.specs.Numbers.{nth_power}
use Rattle.ep_numbers.proofs.PowerLaws.{power_more, power_none}
use Rattle.ep_flatten.proofs.intervals.multiplied.Goals as goal

pub loop-step-init : goal.loop-step-init
loop-step-init c = power_none (to_z w64 (of_z w64 c.args.base))

pub loop-step-preserved : goal.loop-step-preserved
loop-step-preserved c =
    let base = to_z w64 (of_z w64 c.args.base) in
    let more = c.in_ok-power.ensures in
    let fits = to_z-of_z w128 c.in_ok-power.power (subst (SFits w128) (sym more.1) more.0) in
    let factor : to_z w128 (of_z w128 c.from.result) ≡ base = to_z-of_z w128 c.from.result (search rules) ∙ c.from.ensures in
    fits ∙ more.1 ∙ (λ i. c.loop-step.invariant i *ℤ factor i) ∙ power_more base c.loop-step._step

pub returns : goal.returns
returns c =
    let base = to_z w64 (of_z w64 c.args.base) in
    c.loop-step.invariant ∙ ap (nth_power base) (omega (arith, c.loop-step-test.false, c.loop-step.auto._step-end)) ∙ ap (λ x. nth_power x c.args.exponent) (to_z-of_z w64 c.args.base c.ranges.base)
