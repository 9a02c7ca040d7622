-- A clause is ordered by variable, so its last literal has the greatest.
use Rattle.std.proofs.Common.{◌≡◌, ℕ, ◌-◌, List, length, get_or, subst, sym, ◌∙◌}
use Rattle.cnf_core.specs.Literal.{Literal, IsOrdered, VariablesUpTo}
use Rattle.cnf_core.proofs.Literals.{last_is_greatest}
use Rattle.cnf_core.proofs.clause.Clause.greatest_variable.Goals as goal

pub returns-in-Some-clause-none_above : goal.returns-in-Some-clause-none_above
returns-in-Some-clause-none_above c =
    let last = c.in-Some.last.now in
    subst (λ (most : ℕ). VariablesUpTo most c.args.self.now) (sym c.var.ensures.value)
    (last_is_greatest c.args.self.now last (subst IsOrdered c.self.view_is c.self.invariant.ordered)
    (subst (λ (ls : List Literal). last ≡ get_or ls (length ls - 1) last) (c.deref.ensures.value ∙ c.self.view_is) c.in-Some.ensures.item.1))
