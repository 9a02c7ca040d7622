use Rattle.std.proofs.Common.{◌∙◌, All, Contains, sym, ap, subst, arith}
use Rattle.std.proofs.lemmas.List.{take_all}
use Rattle.std.proofs.lemmas.List.Elements.{All-more}
use Rattle.cnf_core.specs.Literal.{Literal, is_among, negation}
use Rattle.sat_state.specs.Trail.{literals}
use Rattle.sat_state.specs.Stored.{clause_at}
use Rattle.sat_state.specs.Guards.{IsTrueBy}
use Rattle.sat_state.proofs.Literals.{Contains-from_among}
use Rattle.sat_state.proofs.Ends.{not_among}
use Rattle.sat_state.proofs.Guarded.{is_true_by}
use Rattle.sat_state.proofs.Entries.{guard_by, no_guard}
use Rattle.sat_state.proofs.parts.Parts.guard.Goals as goal

pub returns-then-not-is_true-clause-none : goal.returns-then-not-is_true-clause-none
returns-then-not-is_true-clause-none c = λ e guards falsified.
    let trues = literals c.args.self.now.assigned.trail in
    not_among trues (negation c.args.lit) (ap (is_among trues) (sym c.negated.ensures) ∙ sym c.is_true.ensures ∙ c.if-not-is_true.true) falsified

pub loop-found-preserved : goal.loop-found-preserved
loop-found-preserved c =
    let l = c.loop-found in
    let trail = c.args.self.now.assigned.trail in
    let level = c.level_of-level.result in
    All-more (λ (x : Literal). IsTrueBy trail x level → ⊥) c.lits-lits.result.now l.found-index c.found-item.result c.loop-found-test.true l.invariant
    (subst (λ (x : Literal). IsTrueBy trail x level → ⊥) c.found-item.is (c.is_true_by.ensures.is_not c.if-is_true_by.false))

pub returns-then-is_true_by-clause-falsified : goal.returns-then-is_true_by-clause-falsified
returns-then-is_true_by-clause-falsified c =
    let trues = literals c.args.self.now.assigned.trail in
    Contains-from_among trues (negation c.args.lit) (ap (is_among trues) (sym c.negated.ensures) ∙ sym c.is_true.ensures ∙ c.if-not-is_true.false)

pub returns-then-is_true_by-clause-is_true : goal.returns-then-is_true_by-clause-is_true
returns-then-is_true_by-clause-is_true c =
    let trail = c.args.self.now.assigned.trail in
    subst (λ (l : Literal). Contains (literals trail) l) (sym c.lit.ensures) (is_true_by trail c.found-item.result c.level_of-level.result (c.is_true_by.ensures.is_true c.if-is_true_by.true))

pub returns-then-is_true_by-clause-guards : goal.returns-then-is_true_by-clause-guards
returns-then-is_true_by-clause-guards c =
    let p = c.args.self.now in
    let trail = p.assigned.trail in
    guard_by p.clauses.lists trail c.args.lit _ c.var.result c.level_of-level.result c.requires.joined.grounded c.var.ensures.value c.level_of-level.ensures
    (subst (λ (l : Literal). IsTrueBy trail l c.level_of-level.result) (sym c.lit.ensures) (c.is_true_by.ensures.is_true c.if-is_true_by.true))

pub returns-clause-none : goal.returns-clause-none
returns-clause-none c = λ e guards falsified.
    let p = c.args.self.now in
    let trail = p.assigned.trail in
    let lits = c.lits-lits.result.now in
    let all = take_all c.loop-found.found-index lits (omega (arith, c.loop-found-test.false)) ∙ c.lits-lits.ensures in
    let none = subst (All (λ (x : Literal). IsTrueBy trail x c.level_of-level.result → ⊥)) all c.loop-found.invariant in
    no_guard p.clauses.lists trail (clause_at p.clauses.lists c.args.number) c.args.lit c.var.result c.level_of-level.result c.requires.joined.grounded c.var.ensures.value c.level_of-level.ensures none guards falsified
