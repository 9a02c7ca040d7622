-- A clause at the end leaves what is true of a formula.
use Rattle.std.proofs.Common.{sym, subst}
use Rattle.std.specs.Prelude.{All}
use Rattle.std.proofs.lemmas.List.{take_all}
use Rattle.std.proofs.lemmas.List.Elements.{All-more, All-push}
use Rattle.cnf_core.specs.Literal.{Literal, VariablesUpTo, IsClause, IsVariable}
use Rattle.cnf_core.specs.Formula.{Cnf}
use Rattle.cnf_core.proofs.formula.Formula.add_ordered.Goals as goal

pub loop-lit-preserved : goal.loop-lit-preserved
loop-lit-preserved c =
    All-more (λ l. IsVariable l.var) c.args.clause.now c.loop-lit.lit-index c.lit-item.result c.loop-lit-test.true c.loop-lit.invariant
    (subst (λ (l : Literal). IsVariable l.var) c.lit-item.is (subst IsVariable c.var.ensures.value c.var.ensures.in_range))

pub push-requires : goal.push-requires
push-requires c = record {
  ordered = c.requires.ordered;
  variables = subst (All (λ l. IsVariable l.var)) (take_all c.loop-lit.lit-index c.args.clause.now c.loop-lit-test.false) c.loop-lit.invariant;
}

pub invariant_of-self : goal.invariant_of-self
invariant_of-self c = record {
  marked = c.self.invariant.marked;
  in_range = c.self.invariant.in_range;
  clauses = subst (All IsClause) (sym c.in_err-push.ensures.err) c.self.invariant.clauses;
  names = subst (All (VariablesUpTo c.self.inside.vars)) (sym c.in_err-push.ensures.err) c.self.invariant.names;
}

pub invariant_of-self-2 : goal.invariant_of-self-2
invariant_of-self-2 c =
    let old = c.self.inside.clauses in
    let here : IsClause c.args.clause.now = record {
      ordered = c.requires.ordered;
      variables = subst (All (λ l. IsVariable l.var)) (take_all c.loop-lit.lit-index c.args.clause.now c.loop-lit-test.false) c.loop-lit.invariant;
    } in
    let names : VariablesUpTo c.self.inside.vars c.args.clause.now = subst (λ (f : Cnf). VariablesUpTo f.vars c.args.clause.now) (sym c.self.view_is) c.requires.names in
    record {
      marked = c.self.invariant.marked;
      in_range = c.self.invariant.in_range;
      clauses = subst (All IsClause) (sym c.in_ok-push.ensures.ok) (All-push IsClause old c.args.clause.now c.self.invariant.clauses here);
      names = subst (All (VariablesUpTo c.self.inside.vars)) (sym c.in_ok-push.ensures.ok)
          (All-push (VariablesUpTo c.self.inside.vars) old c.args.clause.now c.self.invariant.names names);
    }
