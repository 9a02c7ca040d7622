use Rattle.std.proofs.Common.{◌≡◌, false, take}
use Rattle.ep_outputs.proofs.texts.formula_of.Given as goal

abbrev pub invariant-loop-clause : goal.invariant-loop-clause
invariant-loop-clause l = l.formula ≡ record { vars = l.vars; clauses = take l.clause-index l.clauses; from_new = false }
