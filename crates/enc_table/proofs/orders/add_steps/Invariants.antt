use Rattle.std.proofs.Common.{ℕ, ◌+◌, ◌<◌, get_or}
use Rattle.enc_atoms.specs.Atoms.{Adds}
use Rattle.enc_table.specs.Orders.{IsStep}
use Rattle.enc_table.proofs.orders.add_steps.Given as goal

abbrev pub invariant-loop-k : goal.invariant-loop-k
invariant-loop-k l = Adds l.layout l.initial.f l.layout l.f (λ values. (j : ℕ) → j < l.k → IsStep (get_or l.links j 0) (get_or l.xs j 0) (get_or l.ys j 0) (get_or l.links (j + 1) 0) values)
