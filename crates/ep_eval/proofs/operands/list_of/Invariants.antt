use Rattle.ep_eval.proofs.Words.{◌≡◌, pos, take, map, counting, single, value_tree}
use Rattle.ep_eval.proofs.operands.list_of.Given as goal

abbrev pub invariant-loop-i : goal.invariant-loop-i
invariant-loop-i l = record {
  indices : l.indices.items ≡ counting (pos 1) l.i;
  parts : map value_tree l.numbers.items ≡ map single (take l.i l.parts);
}
