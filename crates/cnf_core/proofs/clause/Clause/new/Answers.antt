-- What the sort and `dedup` leave is the clause.
use Rattle.std.proofs.Common.{List, subst, sym, ◌∙◌}
use Rattle.std.specs.Prelude.{All}
use Rattle.std.specs.Arc.{arc_slice_items}
use Rattle.std.proofs.lemmas.List.{take_all}
use Rattle.std.proofs.lemmas.List.Elements.{All-more}
use Rattle.cnf_core.specs.Literal.{Literal, IsVariable, IsOrdered, HaveSameLiterals}
use Rattle.cnf_core.proofs.Literals.{from_sort_and_dedup}
use Rattle.cnf_core.proofs.clause.Clause.new.Goals as goal
use Rattle.cnf_core.proofs.clause.Clause.new.Goals.{In_ok-lits}

pub loop-lit-preserved : goal.loop-lit-preserved
loop-lit-preserved c =
    All-more (λ l. IsVariable l.var) c.deref-lit-items.result.now c.loop-lit.lit-index c.lit-item.result c.loop-lit-test.true c.loop-lit.invariant
    (subst (λ (l : Literal). IsVariable l.var) c.lit-item.is (subst IsVariable c.var.ensures.value c.var.ensures.in_range))

made : (c : In_ok-lits) → IsOrdered (arc_slice_items c.in_ok-lits.lits) × HaveSameLiterals (arc_slice_items c.in_ok-lits.lits) c.args.lits.items
made c =
    subst (λ (ls : List Literal). IsOrdered ls × HaveSameLiterals ls c.args.lits.items)
    (sym (c.in_ok-lits.ensures ∙ c.in_ok-without_spare_room.ensures))
    (from_sort_and_dedup _ _ _ c.sort_unstable.ensures.permutation c.sort_unstable.ensures.sorted c.dedup.ensures.filtered)

in_range : (c : In_ok-lits) → All (λ l. IsVariable l.var) (arc_slice_items c.in_ok-lits.lits)
in_range c =
    subst (All (λ l. IsVariable l.var))
    (take_all c.loop-lit.lit-index c.deref-lit-items.result.now c.loop-lit-test.false
    ∙ c.deref-lit-items.ensures.value ∙ sym (c.in_ok-lits.ensures ∙ c.in_ok-without_spare_room.ensures))
    c.loop-lit.invariant

pub invariant_of-result : goal.invariant_of-result
invariant_of-result c = record { ordered = (made c).0; variables = in_range c }

pub returns-clause-ordered : goal.returns-clause-ordered
returns-clause-ordered c = (made (goal.at.returns-clause-ordered c).In_ok-lits).0

pub returns-clause-same : goal.returns-clause-same
returns-clause-same c = (made (goal.at.returns-clause-same c).In_ok-lits).1

pub returns-clause-clause : goal.returns-clause-clause
returns-clause-clause c =
    let ended = (goal.at.returns-clause-clause c).In_ok-lits in record { ordered = (made ended).0; variables = in_range ended }
