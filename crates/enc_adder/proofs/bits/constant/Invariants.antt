use Rattle.enc_adder.proofs.ConstantBits.{SpellsSoFar}
use Rattle.enc_adder.proofs.bits.constant.Given as goal

abbrev pub invariant-halving : goal.invariant-halving
invariant-halving l = SpellsSoFar l.c l.number l.rest l.bits.items

abbrev pub decreases-halving : goal.decreases-halving
decreases-halving l = l.rest
