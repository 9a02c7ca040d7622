use Rattle.std.proofs.Common.{List, subst, sym}
use Rattle.cnf_core.specs.Literal.{Literal, IsOrdered, VariablesUpTo}
use Rattle.sat_text.proofs.ClauseSteps.{clause_small}
use Rattle.sat_text.proofs.clauses.end_clause.Goals as goal

pub add_ordered-requires : goal.add_ordered-requires
add_ordered-requires c =
    let begun : List Literal = c.order.new.literals.items in
    record {
      ordered = subst IsOrdered (sym c.as_slice.ensures.value) c.order.ensures.ordered;
      names = subst (VariablesUpTo c.args.f.now.vars) (sym c.as_slice.ensures.value) (clause_small c.args.f.now.vars begun c.args.begun.now.items c.order.ensures.same c.requires);
    }
