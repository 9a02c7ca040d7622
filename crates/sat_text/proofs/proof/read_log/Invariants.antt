use Rattle.std.proofs.Common.{length}
use Rattle.sat_proof.specs.Lines.{proof_lines}
use Rattle.sat_text.proofs.LogLoop.{Reading}
use Rattle.sat_text.proofs.proof.read_log.Given as goal

abbrev pub invariant-loop-rest : goal.invariant-loop-rest
invariant-loop-rest l = Reading (proof_lines l.reading.proof) l.number l.rest l.text

abbrev pub decreases-loop-rest : goal.decreases-loop-rest
decreases-loop-rest l = length l.rest
