use Rattle.std.proofs.Common.{◌≡◌, ◌+◌, ◌≤◌, IsTrue}
use Rattle.enc_var.proofs.clauses.add_variables.Given as goal

abbrev pub invariant-loop : goal.invariant-loop
invariant-loop l = (l.f ≡ record l.initial.f { vars = l.initial.f.vars + l.counter }) × IsTrue l.f.from_new × (l.counter ≤ l.count)
