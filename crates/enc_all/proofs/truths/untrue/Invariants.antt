use Rattle.std.proofs.Common.{◌≡◌, map, take, false}
use Rattle.enc_all.proofs.truths.untrue.Given as goal

abbrev pub invariant-loop-x : goal.invariant-loop-x
invariant-loop-x l = l.parts.items ≡ map (λ x. (false, x)) (take l.x-index l.fn.xs)
