use Rattle.std.proofs.Common.{◌≡◌, IsTrue, pos, get_or, take}
use Rattle.std.specs.List.{All}
use Rattle.ep_base.specs.Numbers.{has_number}
use Rattle.ep_flat.specs.Cons.{number_at, numbers_of_vars}
use Rattle.enc_atoms.specs.Atoms.{Adds}
use Rattle.enc_atoms.specs.Steps.{Unless}
use Rattle.enc_table.specs.Rows.{truths_having}
use Rattle.enc_table.proofs.tables.add_supports.Given as goal

abbrev pub invariant-loop-number : goal.invariant-loop-number
invariant-loop-number l = Adds l.layout l.initial.f l.layout l.f (λ values. All (λ v. Unless l.guard (λ vs. number_at vs (get_or l.vars l.place 0) ≡ v → IsTrue (has_number (numbers_of_vars vs (truths_having l.truths l.rows l.place v)) (pos 1))) values) (take l.number-index l.number-items))
