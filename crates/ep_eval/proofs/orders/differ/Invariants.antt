use Rattle.ep_eval.proofs.Words.{◌≡◌, ℤ, true, take, are_different, has_number}
use Rattle.ep_eval.proofs.orders.differ.Given as goal

abbrev pub invariant-loop-part : goal.invariant-loop-part
invariant-loop-part l = record {
  distinct : are_different (take l.part-index l.parts) ≡ true;
  has : (q : ℤ) → has_number l.before.keys q ≡ has_number (take l.part-index l.parts) q;
}
