use Rattle.std.proofs.Common.{◌≡◌, ◌++◌, drop}
use Rattle.enc_count.specs.Counts.{wanted_by_numbers}
use Rattle.enc_count.proofs.counts.with_numbers.Given as goal

abbrev pub invariant-loop-k : goal.invariant-loop-k
invariant-loop-k l = l.wanted.items ++ wanted_by_numbers (drop l.k l.numbers) (drop l.k l.counts) ≡ wanted_by_numbers l.numbers l.counts
