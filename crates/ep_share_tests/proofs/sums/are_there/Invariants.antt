use Rattle.std.proofs.Common.{◌<◌, ℕ, ℤ, length, take}
use Rattle.std.specs.List.{All}
use Rattle.ep_share_tests.proofs.sums.are_there.Given as goal

abbrev pub invariant-loop-part : goal.invariant-loop-part
invariant-loop-part l = All (λ (p : ℤ × ℕ). p.1 < length l.arena) (take l.part-index l.parts)
