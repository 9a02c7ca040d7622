-- What the sort and `dedup` leave is the clause.
use Rattle.std.proofs.Common.{subst, ◌∙◌}
use Rattle.std.specs.Prelude.{All}
use Rattle.std.proofs.lemmas.List.{take_all}
use Rattle.std.proofs.lemmas.List.Elements.{All-more}
use Rattle.cnf_core.specs.Literal.{Literal, IsVariable}
use Rattle.cnf_core.proofs.Literals.{from_sort_and_dedup}
use Rattle.sat_proof.proofs.order.put_in_order.Goals as goal

pub loop-lit-preserved : goal.loop-lit-preserved
loop-lit-preserved c =
    All-more (λ l. IsVariable l.var) c.as_slice-lit-items.result.now c.loop-lit.lit-index c.lit-item.result c.loop-lit-test.true c.loop-lit.invariant
    (subst (λ (l : Literal). IsVariable l.var) c.lit-item.is (subst IsVariable c.var.ensures.value c.var.ensures.in_range))

pub returns-clause-ordered : goal.returns-clause-ordered
returns-clause-ordered c = (from_sort_and_dedup _ _ _ c.sort_unstable.ensures.permutation c.sort_unstable.ensures.sorted c.dedup.ensures.filtered).0

pub returns-clause-same : goal.returns-clause-same
returns-clause-same c = (from_sort_and_dedup _ _ _ c.sort_unstable.ensures.permutation c.sort_unstable.ensures.sorted c.dedup.ensures.filtered).1

pub returns-clause-clause : goal.returns-clause-clause
returns-clause-clause c = record {
  ordered = (from_sort_and_dedup _ _ _ c.sort_unstable.ensures.permutation c.sort_unstable.ensures.sorted c.dedup.ensures.filtered).0;
  variables =
      subst (All (λ l. IsVariable l.var))
      (take_all c.loop-lit.lit-index c.as_slice-lit-items.result.now c.loop-lit-test.false ∙ c.as_slice-lit-items.ensures.value) c.loop-lit.invariant;
}
