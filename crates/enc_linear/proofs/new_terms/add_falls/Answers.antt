use Rattle.std.proofs.Common.{◌-◌, refl, arith}
use Rattle.std.proofs.lemmas.Int.{ints}
use Rattle.enc_linear.proofs.NewTerms.{falls_all, falls_more, falls_none}
use Rattle.enc_linear.proofs.new_terms.add_falls.Goals as goal

pub loop-place-init : goal.loop-place-init
loop-place-init c = record {
  first = omega arith;
  falls = falls_none c.args.layout.now c.args.f.now c.args.rungs.now c.requires.ready.is_layout c.requires.ready.from_new;
}

pub loop-place-preserved : goal.loop-place-preserved
loop-place-preserved c = record {
  first = omega (arith, c.loop-place.invariant.first);
  falls = falls_more c.args.layout.now c.args.f.now c.loop-place.f c.add_implied.new.f c.args.rungs.now c.loop-place.place (c.loop-place.place - 1) _ _ _ _ c.requires.ready.is_layout (omega (arith, c.loop-place.invariant.first))
      c.loop-place-test.true c.loop-place.invariant.falls c.in_ok-add_implied.ensures refl refl (omega (arith, ints)) (omega (arith, ints));
}

pub returns : goal.returns
returns c = falls_all c.args.layout.now c.args.f.now c.loop-place.f c.args.rungs.now c.loop-place.place c.requires.ready.is_layout (omega (arith, c.loop-place-test.false)) c.loop-place.invariant.falls
