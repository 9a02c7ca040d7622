use Rattle.std.proofs.Common.{length}
use Rattle.enc_adder.proofs.Queues.{Holds}
use Rattle.enc_adder.proofs.adding.sum_of_numbers.Given as goal

abbrev pub invariant-pairs : goal.invariant-pairs
invariant-pairs l = Holds l.fn.layout l.fn.f l.layout l.f l.fn.numbers.items l.queue.items

abbrev pub decreases-pairs : goal.decreases-pairs
decreases-pairs l = length l.queue.items
