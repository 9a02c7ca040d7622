use Rattle.std.proofs.Common.{◌≡◌, pos}
use Rattle.ep_base.specs.Runs.{counting}
use Rattle.ep_gen.proofs.hints.indices.Given as goal

abbrev pub invariant-loop-i : goal.invariant-loop-i
invariant-loop-i l = l.indices.items ≡ counting (pos 1) l.i
