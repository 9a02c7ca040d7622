use Rattle.std.proofs.Common.{◌≡◌, drop, map}
use Rattle.ep_tree.specs.Views.{group_of}
use Rattle.ep_types.specs.Checking.{check_groups}
use Rattle.ep_types.specs.Meanings.{known_by}
use Rattle.ep_types.proofs.statements.check_groups.Given as goal

abbrev pub invariant-loop-group : goal.invariant-loop-group
invariant-loop-group l =
    check_groups l.decisions l.may_open (known_by l.initial.declared.entries) (map group_of l.groups)
    ≡ check_groups l.decisions l.may_open (known_by l.declared.entries) (map group_of (drop l.group-index l.groups))
