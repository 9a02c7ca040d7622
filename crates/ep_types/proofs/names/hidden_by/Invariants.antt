use Rattle.std.proofs.Common.{◌≡◌, ◌≤◌, length, take}
use Rattle.ep_tree.specs.Types.{Context}
use Rattle.ep_types.specs.Meanings.{behind_names}
use Rattle.ep_types.proofs.names.hidden_by.Given as goal

abbrev pub invariant-loop-left : goal.invariant-loop-left
invariant-loop-left l =
    (l.left ≤ length l.inner)
    × ((c : Context) → behind_names l.inner c l.name ≡ behind_names (take l.left l.inner) c l.name)

abbrev pub decreases-loop-left : goal.decreases-loop-left
decreases-loop-left l = l.left
