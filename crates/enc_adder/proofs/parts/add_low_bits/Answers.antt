use Rattle.std.proofs.Common.{arith, ◌≡◌, ◌∙◌, ℤ, List, pos, get_or, w64, rules}
use Rattle.std.proofs.lemmas.Int.{ints, to_z-of_z}
use Rattle.ep_flat.specs.Cons.{number_at}
use Rattle.enc_atoms.proofs.Adding.{adds_all, adds_none, adds_one_more}
use Rattle.enc_adder.proofs.Halves.{low_bit_says}
use Rattle.enc_adder.specs.Parts.{low_bit}
use Rattle.enc_adder.specs.declared.parts.Step.{Step}
use Rattle.enc_adder.proofs.parts.add_low_bits.Goals as goal

pub loop-step-init : goal.loop-step-init
loop-step-init c =
    adds_none c.args.layout.now c.args.f.now (λ (values : List ℤ) (step : Step). number_at values c.args.var ≡ step.value → number_at values c.args.bit ≡ low_bit step.worth) c.args.steps.now c.requires.ready.is_layout c.requires.ready.from_new

pub loop-step-preserved : goal.loop-step-preserved
loop-step-preserved c =
    let d : Step = record { value = pos 0; worth = 0 } in
    let s : Step = get_or c.args.steps.now c.loop-step.step-index d in
    adds_one_more c.args.layout.now c.args.f.now c.loop-step.f c.args.layout.now c.add_implied.new.f (λ (values : List ℤ) (step : Step). number_at values c.args.var ≡ step.value → number_at values c.args.bit ≡ low_bit step.worth)
    c.args.steps.now c.loop-step.step-index d c.requires.ready.is_layout c.loop-step-test.true c.loop-step.invariant
    (low_bit_says c.args.layout.now c.loop-step.f c.add_implied.new.f c.args.var _ c.args.bit _ s.value (low_bit s.worth) c.loop-step.invariant.goes_on.is_layout c.in_ok-add_implied.ensures (to_z-of_z w64 s.value (search rules)) (to_z-of_z w64 c.low_bit-low.result (omega (arith, ints)) ∙ c.low_bit-low.ensures))

pub returns : goal.returns
returns c =
    adds_all c.args.layout.now c.args.f.now c.args.layout.now c.loop-step.f (λ (values : List ℤ) (step : Step). number_at values c.args.var ≡ step.value → number_at values c.args.bit ≡ low_bit step.worth) c.args.steps.now c.loop-step.step-index c.loop-step-test.false c.loop-step.invariant
