use Rattle.std.proofs.Common.{◌≡◌}
use Rattle.std.specs.List.{All}
use Rattle.ep_explain.specs.Narrowing.{AreLeft, IsNarrowed, IsSeen, left_numbers}
use Rattle.ep_tree.specs.Binding.{Instance}
use Rattle.ep_tree.specs.declared.values.Mode.{Mode}
use Rattle.ep_explain.proofs.left.settle.Given as goal

abbrev pub invariant-loop-one : goal.invariant-loop-one
invariant-loop-one l = record {
  same : left_numbers l.left.items ≡ left_numbers l.fn.narrowed.left.items;
  left : (mode : Mode) (i : Instance) → IsNarrowed mode i l.fn.narrowed → AreLeft mode i l.left.items;
  seen : (mode : Mode) (i : Instance) → IsNarrowed mode i l.fn.narrowed → All (IsSeen mode i (left_numbers l.fn.narrowed.left.items)) l.seen.items;
}
