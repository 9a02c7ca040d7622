use Rattle.ep_size.proofs.Words.{◌≡◌, pos, take, map, counting, single, grid_of, plain_span}
use Rattle.ep_size.proofs.lists.list_of.Given as goal

abbrev pub invariant-loop-i : goal.invariant-loop-i
invariant-loop-i l = record {
  indices : l.indices.items ≡ counting (pos 1) l.i;
  parts : map grid_of l.parts.items ≡ map single (map plain_span (take l.i l.spans));
}
