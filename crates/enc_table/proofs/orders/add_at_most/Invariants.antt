use Rattle.std.proofs.Common.{◌≤ℤ◌, take}
use Rattle.std.specs.List.{All}
use Rattle.ep_flat.specs.Cons.{number_at}
use Rattle.enc_atoms.specs.Atoms.{Adds}
use Rattle.enc_atoms.specs.Steps.{Unless}
use Rattle.enc_table.proofs.orders.add_at_most.Given as goal

abbrev pub invariant-loop-number : goal.invariant-loop-number
invariant-loop-number l = Adds l.layout l.initial.f l.layout l.f (λ values. All (λ v. Unless l.guard (λ vs. number_at vs l.y ≤ℤ v → number_at vs l.x ≤ℤ v) values) (take l.number-index l.number-items))
