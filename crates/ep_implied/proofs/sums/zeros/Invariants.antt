use Rattle.std.proofs.Common.{◌≡◌, pos}
use Rattle.std.specs.List.{All}
use Rattle.ep_implied.proofs.sums.zeros.Given as goal

abbrev pub invariant-loop-place : goal.invariant-loop-place
invariant-loop-place l = All (λ number. number ≡ pos 0) l.made.items
