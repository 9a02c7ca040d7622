use Rattle.ep_eval.proofs.Words.{◌≡◌, ◌≤◌, length, drop, lex_less}
use Rattle.ep_eval.proofs.orders.is_less.Given as goal

abbrev pub invariant-loop-i : goal.invariant-loop-i
invariant-loop-i l = record {
  within : l.i ≤ length l.right;
  same : lex_less l.left l.right ≡ lex_less (drop l.i l.left) (drop l.i l.right);
}
