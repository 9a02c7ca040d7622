use Rattle.std.proofs.Common.{subst, sym, ◌∙◌}
use Rattle.cnf_core.specs.Literal.{IsClause}
use Rattle.cnf_core.proofs.clause.Clause.from_ordered.Goals as goal

pub invariant_of-result : goal.invariant_of-result
invariant_of-result c = subst IsClause (sym (c.in_ok-shared.ensures ∙ c.in_ok-copied.ensures.items)) c.requires
