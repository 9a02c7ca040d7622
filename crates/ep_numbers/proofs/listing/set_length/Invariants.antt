use Rattle.std.proofs.Common.{◌≡◌, ◌*◌, ◌≤◌, length, take}
use Rattle.ep_base.specs.Runs.{numbers}
use Rattle.ep_numbers.proofs.listing.set_length.Given as goal

abbrev pub invariant-loop-run : goal.invariant-loop-run
invariant-loop-run l = (l.total ≡ length (numbers (take l.run-index l.run-items))) × (l.total ≤ 18446744073709551616 * l.run-index)
