use Rattle.std.proofs.Common.{◌≡◌, drop}
use Rattle.ep_types.specs.Checking.{check_declared}
use Rattle.ep_types.specs.Meanings.{known_by, meaning_of}
use Rattle.ep_types.proofs.statements.declare_all.Given as goal

abbrev pub invariant-loop-name : goal.invariant-loop-name
invariant-loop-name l =
    check_declared (meaning_of l.standing_for) (known_by l.initial.declared.entries) l.names
    ≡ check_declared (meaning_of l.standing_for) (known_by l.declared.entries) (drop l.name-index l.names)
