use Rattle.std.proofs.Common.{◌≡◌, map, take}
use Rattle.enc_linear.specs.Terms.{step_of}
use Rattle.enc_linear.proofs.making.multiple.Given as goal

abbrev pub invariant-loop-value : goal.invariant-loop-value
invariant-loop-value l = l.steps.items ≡ map (step_of l.coefficient) (take l.value-index l.value-items)
