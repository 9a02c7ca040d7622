use Rattle.std.proofs.Common.{take}
use Rattle.ep_flatten.specs.Images.{Collects, HasPairs, paired}
use Rattle.ep_numbers.specs.Spans.{interval_of}
use Rattle.ep_flatten.proofs.images.push_pairs.Given as goal

abbrev pub invariant-loop-number : goal.invariant-loop-number
invariant-loop-number l = Collects (interval_of l.span) (HasPairs (interval_of l.span) (paired l.op) l.others) (take l.number-index l.numbers) l.fn.results.items l.results.items
