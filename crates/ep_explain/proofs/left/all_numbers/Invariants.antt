use Rattle.std.proofs.Common.{◌≡◌}
use Rattle.ep_explain.specs.Narrowing.{first_numbers}
use Rattle.ep_explain.proofs.left.all_numbers.Given as goal

abbrev pub invariant-loop-place : goal.invariant-loop-place
invariant-loop-place l = l.numbers.items ≡ first_numbers l.place
