use Rattle.std.proofs.Common.{◌≡◌, ◌<◌, ◌≤◌, ◌+◌, ◌-◌, ℕ}
use Rattle.std.specs.List.{range_with_len}
use Rattle.std.specs.Prelude.{map}
use Rattle.ep_tree.specs.Values.{single}
use Rattle.ep_tree.specs.Views.{value_tree}
use Rattle.ep_gen.specs.Hints.{hint_of, nth_number}
use Rattle.ep_gen.proofs.hints.row.Given as goal

abbrev pub invariant-loop-column : goal.invariant-loop-column
invariant-loop-column l = record {
  within : l.column ≤ l.order;
  small : l.last < 2147483648;
  at : (number before : ℕ) → l.fn.last ≡ nth_number number before → l.last ≡ nth_number number (before + (l.column - 1));
  made : (number before : ℕ) → l.fn.last ≡ nth_number number before
      → map value_tree l.hints.items ≡ map (λ j. single (hint_of l.order l.row j (nth_number number (before + j)))) (range_with_len 1 (l.column - 1));
}
