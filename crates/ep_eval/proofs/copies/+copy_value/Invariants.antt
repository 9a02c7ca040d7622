use Rattle.ep_eval.proofs.Words.{◌≡◌, take, map, value_tree}
use Rattle.ep_eval.proofs.copies.+copy_value.Given as goal

abbrev pub invariant-loop-part : goal.invariant-loop-part
invariant-loop-part l = map value_tree l.copies.items ≡ map value_tree (take l.part-index l.part-items)
