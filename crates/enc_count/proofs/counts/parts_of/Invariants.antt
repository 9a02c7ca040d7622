use Rattle.std.proofs.Common.{◌≡◌, take}
use Rattle.enc_count.specs.Counts.{counted_parts}
use Rattle.enc_count.proofs.counts.parts_of.Given as goal

abbrev pub invariant-loop-mark : goal.invariant-loop-mark
invariant-loop-mark l = l.parts.items ≡ counted_parts l.fn.var (take l.mark-index l.marks)
