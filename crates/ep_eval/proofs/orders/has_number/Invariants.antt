use Rattle.ep_eval.proofs.Words.{◌≡◌, drop, has_number}
use Rattle.ep_eval.proofs.orders.has_number.Given as goal

abbrev pub invariant-loop-part : goal.invariant-loop-part
invariant-loop-part l = has_number l.parts l.number ≡ has_number (drop l.part-index l.parts) l.fn.number
