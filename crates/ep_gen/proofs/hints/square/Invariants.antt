use Rattle.std.proofs.Common.{◌≡◌, ◌<◌, ◌≤◌, ◌-◌, ◌*◌}
use Rattle.std.specs.List.{range_with_len}
use Rattle.std.specs.Prelude.{map}
use Rattle.ep_tree.specs.Values.{list_value}
use Rattle.ep_tree.specs.Views.{value_tree}
use Rattle.ep_gen.specs.Hints.{nth_number, row_of}
use Rattle.ep_gen.proofs.hints.square.Given as goal

abbrev pub invariant-loop-i : goal.invariant-loop-i
invariant-loop-i l = record {
  within : l.i ≤ l.order;
  small : l.last < 2147483648;
  at : l.last ≡ nth_number l.number ((l.i - 1) * l.order);
  made : map value_tree l.rows.items ≡ map (λ i. list_value (row_of l.number l.order ((i - 1) * l.order) i)) (range_with_len 1 (l.i - 1));
}
