use Rattle.std.proofs.Common.{◌∙◌, arith, subst, sym, ap, map}
use Rattle.std.proofs.lemmas.Bool.{false≢true}
use Rattle.std.proofs.lemmas.Int.{ints}
use Rattle.enc_adder.specs.Parts.{AreStepsOf, HaveWorths, half_step}
use Rattle.enc_adder.proofs.Halves.{all_bits_as, begun, one_bit_more, worth_falls}
use Rattle.enc_adder.proofs.Widening.{constant_later, no_longer, ready_later}
use Rattle.enc_adder.proofs.parts.part.Goals as goal

pub halving-init : goal.halving-init
halving-init c =
    begun c.args.layout.now c.args.f.now c.args.var c.new-bits.result.items c.in_ok-steps.steps.items _ _ _ _ c.requires.ready c.requires.var c.in_ok-steps.ensures.steps c.in_ok-steps.ensures.worths c.new-bits.ensures.items (omega (arith, ints)) (omega (arith, ints))

pub low_bit_of-requires-clause-ready : goal.low_bit_of-requires-clause-ready
low_bit_of-requires-clause-ready c = ready_later _ _ _ _ _ c.halving.invariant.widens

pub low_bit_of-requires-clause-zero : goal.low_bit_of-requires-clause-zero
low_bit_of-requires-clause-zero c = constant_later c.args.layout.now c.halving.layout c.args.zero _ c.halving.invariant.widens.goes_on.earlier c.requires.zero

pub low_bit_of-requires-clause-var : goal.low_bit_of-requires-clause-var
low_bit_of-requires-clause-var c = let h = no_longer c.args.layout.now c.halving.layout c.halving.invariant.widens.goes_on.earlier in let low = c.requires.var in omega (arith, h, low)

pub low_bit_of-requires-clause-steps : goal.low_bit_of-requires-clause-steps
low_bit_of-requires-clause-steps c = subst (AreStepsOf c.halving.layout c.args.var) (sym c.deref-in-halving.ensures.value) c.halving.invariant.are_steps

pub halving-preserved : goal.halving-preserved
halving-preserved c =
    one_bit_more c.args.layout.now c.args.f.now c.halving.layout c.halving.f c.low_bit_of.new.layout c.low_bit_of.new.f c.args.var _ c.halving.bits.items c.push.new.self.items c.halving.steps.items c.in_ok-steps-2.steps.items c.in_ok-bit.bit c.requires.var c.halving.invariant
    (c.in_ok-bit.ensures c.halving.invariant.left (subst (HaveWorths c.halving.invariant.left) (sym c.deref-in-halving.ensures.value) c.halving.invariant.worths))
    c.in_ok-push.ensures.items (c.in_ok-steps-2.ensures ∙ ap (map half_step) c.deref-in-halving-2.ensures.value)

pub returns : goal.returns
returns c =
    all_bits_as c.args.layout.now c.args.f.now c.halving.layout c.halving.f c.args.var c.halving.bits.items c.halving.steps.items c.deref.result.now _ _ c.args.size c.args.least c.requires.var c.halving.invariant
    (c.are_worthless.ensures.0 c.halving-test.false) c.deref.ensures.value (omega (arith, ints)) (omega (arith, ints))

pub halving-smaller : goal.halving-smaller
halving-smaller c =
    worth_falls c.halving.steps.items c.deref.result.now c.in_ok-steps-2.steps.items c.deref.ensures.value (c.in_ok-steps-2.ensures ∙ ap (map half_step) c.deref-in-halving-2.ensures.value) (λ all. false≢true (sym c.halving-test.true ∙ c.are_worthless.ensures.1 all))
