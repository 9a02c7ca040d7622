use Rattle.ep_unroll.proofs.Words.{take, All, env_in, decisions_in, IsFreeIndex}
use Rattle.ep_unroll.proofs.slots.are_decided.Given as goal

abbrev pub invariant-loop-index : goal.invariant-loop-index
invariant-loop-index l = All (IsFreeIndex (decisions_in (env_in l.scope))) (take l.index-index l.indices)
