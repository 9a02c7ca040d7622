use Rattle.ep_unroll.proofs.Words.{env_in, mode_in, Numbering, Reading}
use Rattle.ep_unroll.proofs.PartSteps.{IndicesSoFar}
use Rattle.ep_unroll.proofs.reads.fixed_indices.Given as goal

abbrev pub invariant-loop-index : goal.invariant-loop-index
invariant-loop-index l = (n : Numbering) (r : Reading n (env_in l.scope)) → IndicesSoFar (mode_in l.scope) r.values l.indices l.index-index l.numbers.items
