use Rattle.std.proofs.Common.{◌≤◌, length}
use Rattle.ep_base.proofs.PutSteps.{HasTaken}
use Rattle.ep_base.proofs.outside.put_all.Given as goal

abbrev pub invariant-loop-rest : goal.invariant-loop-rest
invariant-loop-rest g l = record {
  part : HasTaken l.bytes l.rest (g.K.Sink.taken l.fn.sink) (g.K.Sink.taken l.sink);
  never_falls : g.K.Sink.faults l.fn.sink ≤ g.K.Sink.faults l.sink;
}

abbrev pub decreases-loop-rest : goal.decreases-loop-rest
decreases-loop-rest g l = length l.rest
