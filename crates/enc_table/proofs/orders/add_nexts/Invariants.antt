use Rattle.std.proofs.Common.{take}
use Rattle.std.specs.List.{All}
use Rattle.enc_atoms.specs.Atoms.{Adds}
use Rattle.enc_atoms.specs.Steps.{Unless}
use Rattle.enc_table.specs.Orders.{IsNext}
use Rattle.enc_table.proofs.orders.add_nexts.Given as goal

abbrev pub invariant-loop-number : goal.invariant-loop-number
invariant-loop-number l = Adds l.layout l.initial.f l.layout l.f (λ values. All (λ v. Unless l.guard (IsNext l.x l.y l.next v) values) (take l.number-index l.number-items))
