use Rattle.std.proofs.Common.{◌∙◌, pos, map, ap}
use Rattle.std.proofs.lemmas.List.{take_all}
use Rattle.enc_adder.specs.Parts.{half_step}
use Rattle.enc_adder.proofs.Halves.{half_pushed}
use Rattle.enc_adder.proofs.parts.halved.Goals as goal

pub loop-step-init : goal.loop-step-init
loop-step-init c = c.new-halves.ensures.items

pub loop-step-preserved : goal.loop-step-preserved
loop-step-preserved c =
    half_pushed c.args.steps.now c.loop-step.step-index (record { value = pos 0; worth = 0 }) c.loop-step.halves.items c.push.new.self.items c.half-one.result c.loop-step-test.true c.loop-step.invariant c.in_ok-push.ensures.items c.half-one.ensures

pub returns : goal.returns
returns c = c.loop-step.invariant ∙ ap (map half_step) (take_all c.loop-step.step-index c.args.steps.now c.loop-step-test.false)
