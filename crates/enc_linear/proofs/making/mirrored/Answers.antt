use Rattle.std.proofs.Common.{◌∙◌, refl, pos, map, ap, subst}
use Rattle.enc_linear.specs.declared.terms.Step.{Step}
use Rattle.enc_linear.specs.Terms.{HoldsSteps, mirrored_step}
use Rattle.enc_linear.proofs.Multiples.{map_all, map_more}
use Rattle.enc_linear.proofs.making.mirrored.Goals as goal

pub loop-step-init : goal.loop-step-init
loop-step-init c = c.new-steps.ensures.items

pub loop-step-preserved : goal.loop-step-preserved
loop-step-preserved c =
    let d : Step = record { value = pos 0; worth = pos 0 } in
    let xs = c.deref-step-items.result.now in
    let i = c.loop-step.step-index in
    map_more mirrored_step xs i d c.loop-step.steps.items c.push.new.self.items c.in_ok-twin.twin c.loop-step-test.true c.loop-step.invariant c.in_ok-push.ensures.items c.in_ok-twin.ensures

pub returns : goal.returns
returns c = record {
  source = refl;
  rising = refl;
  steps = map_all mirrored_step c.deref-step-items.result.now c.loop-step.step-index c.loop-step.steps.items c.loop-step-test.false c.loop-step.invariant ∙ ap (map mirrored_step) c.deref-step-items.ensures.value;
  bounds = subst (HoldsSteps c.bounds_of-bounds.result) c.deref.ensures.value c.bounds_of-bounds.ensures;
}
