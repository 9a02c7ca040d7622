use Rattle.ep_eval.proofs.Words.{◌≡◌, false, pos, product_to, is_too_far}
use Rattle.ep_eval.proofs.powers.product_to.Given as goal

abbrev pub invariant-loop-i : goal.invariant-loop-i
invariant-loop-i l = record {
  value : l.product ≡ pos (product_to l.i);
  near : is_too_far l.product ≡ false;
}
