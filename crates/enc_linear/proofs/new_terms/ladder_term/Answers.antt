use Rattle.std.proofs.Common.{◌≡◌, ℤ, pos, refl, get_or, rules, subst, to_z, of_z, w64, arith}
use Rattle.std.proofs.lemmas.Int.{ints, to_z-of_z}
use Rattle.enc_linear.specs.Terms.{HoldsSteps}
use Rattle.enc_linear.proofs.NewTerms.{steps_all, steps_more, steps_none}
use Rattle.enc_linear.proofs.new_terms.ladder_term.Goals as goal

pub loop-place-init : goal.loop-place-init
loop-place-init c = steps_none c.args.numbers.now c.new-steps.result.items c.new-steps.ensures.items

pub loop-place-preserved : goal.loop-place-preserved
loop-place-preserved c =
    let n : ℤ = get_or c.args.numbers.now c.loop-place.place (pos 0) in
    let e : to_z w64 (of_z w64 n) ≡ n = to_z-of_z w64 n (search rules) in
    steps_more c.args.numbers.now c.loop-place.place c.loop-place.steps.items c.push.new.self.items _ c.loop-place-test.true c.loop-place.invariant c.in_ok-push.ensures.items
    (omega (arith, ints)) (omega (arith, ints, e, c.from-worth.ensures))

pub returns : goal.returns
returns c = record {
  is_ladder = refl;
  rising = refl;
  steps = steps_all c.args.numbers.now c.loop-place.place c.loop-place.steps.items (omega (arith, c.loop-place-test.false)) c.loop-place.invariant;
  bounds = subst (HoldsSteps c.bounds_of-bounds.result) c.deref.ensures.value c.bounds_of-bounds.ensures;
}
