use Rattle.std.proofs.Common.{◌≡◌, ◌++◌, pos, ◌+ℤ◌, ◌-ℤ◌, ◌≤ℤ◌}
use Rattle.ep_base.specs.Runs.{counting, numbers_in, or_zero}
use Rattle.ep_numbers.proofs.listing.push_run.Given as goal

abbrev pub invariant-loop-number : goal.invariant-loop-number
invariant-loop-number l =
    (l.number ≤ℤ l.run.hi)
    × (l.numbers.items ++ counting l.number (or_zero ((l.run.hi +ℤ pos 1) -ℤ l.number)) ≡ l.initial.numbers.items ++ numbers_in l.run)

abbrev pub decreases-loop-number : goal.decreases-loop-number
decreases-loop-number l = or_zero (l.run.hi -ℤ l.number)
