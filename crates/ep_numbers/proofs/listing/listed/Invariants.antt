use Rattle.std.proofs.Common.{◌≡◌, take}
use Rattle.ep_base.specs.Runs.{numbers}
use Rattle.ep_numbers.proofs.listing.listed.Given as goal

abbrev pub invariant-loop-run : goal.invariant-loop-run
invariant-loop-run l = l.list.items ≡ numbers (take l.run-index l.run-items)
