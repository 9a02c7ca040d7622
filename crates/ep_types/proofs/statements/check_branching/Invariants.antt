use Rattle.std.proofs.Common.{◌≡◌, drop}
use Rattle.ep_types.specs.Checking.{check_branching}
use Rattle.ep_types.specs.Meanings.{known_by}
use Rattle.ep_types.proofs.statements.check_branching.Given as goal

abbrev pub invariant-loop-name : goal.invariant-loop-name
invariant-loop-name l =
    check_branching (known_by l.declared.entries) l.names ≡ check_branching (known_by l.declared.entries) (drop l.name-index l.names)
