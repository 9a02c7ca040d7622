use Rattle.std.proofs.Common.{◌≡◌, ◌+◌, rules, sym, ap, subst, ◌∙◌, arith, w64, to_z, of_z}
use Rattle.std.specs.Prelude.{◌*ℤ◌}
use Rattle.std.specs.Int.{w128}
use Rattle.std.proofs.lemmas.Int.{ints, to_z-of_z}
use Rattle.ep_base.specs.Numbers.{nth_power}
use Rattle.ep_base.specs.Reads.{IsWithinNumbers}
use Rattle.ep_numbers.proofs.PowerLaws.{power_more, power_none, power_within}
use Rattle.ep_numbers.proofs.powers.multiplied.Goals as goal

pub loop-step-init : goal.loop-step-init
loop-step-init c = record { value = power_none (to_z w64 (of_z w64 c.args.base)); near = (omega (arith, ints), omega (arith, ints)) }

pub loop-step-preserved : goal.loop-step-preserved
loop-step-preserved c =
    let base = to_z w64 (of_z w64 c.args.base) in
    let word : to_z w64 (of_z w64 c.in-Some.more) ≡ c.in-Some.more = to_z-of_z w64 c.in-Some.more (search rules) in
    record {
      value =
          word ∙ c.in-Some.ensures.same ∙ to_z-of_z w128 c.times.result (search rules) ∙ c.times.ensures
          ∙ ap (λ p. p *ℤ base) c.loop-step.invariant.value ∙ power_more base c.loop-step._step;
      near = subst IsWithinNumbers (sym word) c.in-Some.ensures.near;
    }

pub returns-clause-same : goal.returns-clause-same
returns-clause-same c =
    let base = to_z w64 (of_z w64 c.args.base) in
    c.loop-step.invariant.value ∙ ap (nth_power base) (omega (arith, c.loop-step-test.false, c.loop-step.auto._step-end)) ∙ ap (λ x. nth_power x c.args.exponent) (to_z-of_z w64 c.args.base c.ranges.base)

pub returns-clause-near : goal.returns-clause-near
returns-clause-near c = c.loop-step.invariant.near

pub returns-in_default-clause-told : goal.returns-in_default-clause-told
returns-in_default-clause-told c h =
    let base = to_z w64 (of_z w64 c.args.base) in
    let number : to_z w128 (of_z w128 c.times.result) ≡ nth_power base (c.loop-step._step + 1) =
    to_z-of_z w128 c.times.result (search rules) ∙ c.times.ensures ∙ ap (λ p. p *ℤ base) c.loop-step.invariant.value ∙ power_more base c.loop-step._step in
    let near : IsWithinNumbers (nth_power base c.args.exponent) = subst (λ x. IsWithinNumbers (nth_power x c.args.exponent)) (sym (to_z-of_z w64 c.args.base c.ranges.base)) h in
    c.in_default.ensures.told (subst IsWithinNumbers (sym number) (power_within base c.loop-step._step c.args.exponent c.loop-step-test.true near))
