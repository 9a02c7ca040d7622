use Rattle.log_check.proofs.Found.{PartGoesOn}
use Rattle.log_check.proofs.parts.first_bad.Given as goal

abbrev pub invariant-loop-offset : goal.invariant-loop-offset
invariant-loop-offset l = PartGoesOn l.work.proof.now l.work.calendar l.start l.part l.offset
