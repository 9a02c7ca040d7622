use Rattle.ep_unroll.proofs.Words.{[], Some, drop}
use Rattle.ep_unroll.proofs.FlatSteps.{FlatSoFar}
use Rattle.ep_unroll.proofs.flattening.push_numbers.Given as goal

abbrev pub invariant-loop-number : goal.invariant-loop-number
invariant-loop-number l = FlatSoFar l.fn.parts.items l.parts.items [] (λ nodes numbers. Some l.list) (λ nodes numbers. Some (drop l.number-index l.list))
