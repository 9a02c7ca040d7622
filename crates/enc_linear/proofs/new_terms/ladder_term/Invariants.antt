use Rattle.std.proofs.Common.{◌≡◌, take}
use Rattle.enc_linear.specs.Ladders.{steps_from}
use Rattle.enc_linear.proofs.new_terms.ladder_term.Given as goal

abbrev pub invariant-loop-place : goal.invariant-loop-place
invariant-loop-place l = l.steps.items ≡ steps_from 0 (take l.place l.numbers)
