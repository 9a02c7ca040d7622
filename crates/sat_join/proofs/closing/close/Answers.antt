use Rattle.std.proofs.Common.{ℕ, ◌∷◌, List, ◌∙◌, sym, subst}
use Rattle.std.proofs.lemmas.List.{nil_from_length}
use Rattle.cnf_core.specs.Literal.{HaveSameLiterals}
use Rattle.sat_join.specs.Joins.{Divides, IsClosing}
use Rattle.sat_join.proofs.Pairs.{divides_tail, nil_is, closed_with, closed_new, ended_with, on_ok}
use Rattle.sat_join.proofs.closing.close.Goals as goal

pub loop-later-preserved : goal.loop-later-preserved
loop-later-preserved c =
    let clauses = c.args.formula.now.clauses in
    let inv = c.loop-later.invariant in
    let v = c.in-Some.field-0-0.now in
    let later = c.in-Some.later.now in
    let is = c.in-Some.ensures.cases.0 in
    let divides = subst (Divides clauses) is inv.divides in
    let turned = c.in_ok-ends.ensures.closing clauses v divides
    (subst (λ (es : List ℕ). IsClosing clauses (v ∷ later) es c.loop-later.joined.events) (sym c.deref.ensures.value)
    (subst (λ (vs : List ℕ). IsClosing clauses vs c.loop-later.ends.items c.loop-later.joined.events) is inv.closing)) in
    record {
      divides = divides_tail clauses v later divides;
      closing = turned.0;
      new_steps = λ before. turned.1 (inv.new_steps before);
      notes = c.in_ok-ends.ensures.notes ∙ inv.notes;
      base = c.in_ok-ends.ensures.base ∙ inv.base;
    }

pub returns-clause-joined : goal.returns-clause-joined
returns-clause-joined c =
    let clauses = c.args.formula.now.clauses in
    on_ok c.step.result (closed_with clauses c.loop-later.ends.items c.loop-later.joined c.step.new.self c.in_ok-new.field-0
    (subst (λ (vs : List ℕ). IsClosing clauses vs c.loop-later.ends.items c.loop-later.joined.events) (nil_from_length c.loop-later.rest.now c.in_default.ensures.cases) c.loop-later.invariant.closing)
    (nil_is c.in_ok-new.field-0 (subst (HaveSameLiterals c.in_ok-new.field-0) c.new.ensures.items c.in_ok-new.ensures.same)))
    c.step.ensures.ok

pub returns-clause-ends : goal.returns-clause-ends
returns-clause-ends c =
    on_ok c.step.result (ended_with c.loop-later.ends.items c.loop-later.joined c.step.new.self c.in_ok-new.field-0
    (nil_is c.in_ok-new.field-0 (subst (HaveSameLiterals c.in_ok-new.field-0) c.new.ensures.items c.in_ok-new.ensures.same)))
    c.step.ensures.ok

pub returns-clause-new : goal.returns-clause-new
returns-clause-new c =
    on_ok c.step.result (λ is before. closed_new c.loop-later.ends.items c.loop-later.joined c.step.new.self c.in_ok-new.field-0
    (nil_is c.in_ok-new.field-0 (subst (HaveSameLiterals c.in_ok-new.field-0) c.new.ensures.items c.in_ok-new.ensures.same)) is (c.loop-later.invariant.new_steps before))
    c.step.ensures.ok
