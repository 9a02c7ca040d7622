use Rattle.std.proofs.Common.{IsTrue, take}
use Rattle.std.specs.List.{All}
use Rattle.ep_base.specs.Numbers.{has_number}
use Rattle.ep_flat.specs.Cons.{numbers_of_vars}
use Rattle.enc_atoms.specs.Atoms.{Adds}
use Rattle.enc_atoms.specs.Steps.{Unless}
use Rattle.enc_count.proofs.different.add_each_taken.Given as goal

abbrev pub invariant-loop-number : goal.invariant-loop-number
invariant-loop-number l = Adds l.layout l.initial.f l.layout l.f (λ values. All (λ v. Unless l.guard (λ vs. IsTrue (has_number (numbers_of_vars vs l.vars) v)) values) (take l.number-index l.numbers))
