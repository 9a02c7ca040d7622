use Rattle.std.proofs.Common.{◌≡◌, ◌<◌, length, sym, ap, ◌∙◌, arith}
use Rattle.std.proofs.lemmas.Bool.{eqb-true, eqb-false}
use Rattle.cnf_core.specs.Events.{LogState, nonempty_steps}
use Rattle.sat_search.proofs.Learnt.{learnt_range}
use Rattle.sat_search.proofs.Continued.{continued_or, count_some, count_none, ends_empty}
use Rattle.sat_search.proofs.search.learn.Goals as goal

pub append-requires-clause-range : goal.append-requires-clause-range
append-requires-clause-range c = learnt_range c.args.vars c.args.state.now.clauses c.in_ok-new.field-0 c.in_ok-lits.field-0.lits.items c.in_ok-lits.field-0.hints.items c.requires.known.names c.in_ok-new.ensures.same c.in_ok-lits.ensures

pub append-requires-else-steps-budget-clause-range : goal.append-requires-else-steps-budget-clause-range
append-requires-else-steps-budget-clause-range c = learnt_range c.args.vars c.args.state.now.clauses c.in_ok-new-2.field-0 c.in_ok-lits.field-0.lits.items c.in_ok-lits.field-0.hints.items c.requires.known.names c.in_ok-new-2.ensures.same c.in_ok-lits.ensures

pub returns-in_err-append-clause-continued : goal.returns-in_err-append-clause-continued
returns-in_err-append-clause-continued c =
    let none : length c.in_ok-lits.field-0.lits.items ≡ 0 = omega (arith, eqb-true _ 0 (sym c.is_empty.ensures ∙ c.if-is_empty.true), c.in_ok-lits.field-0.lits.ok.0) in
    continued_or c.args.budget c.args.log.now c.append.new.log c.args.state.now.clauses c.in_ok-new.field-0 c.in_ok-lits.field-0.lits.items c.in_ok-lits.field-0.hints.items c.requires.sound c.requires.clauses c.in_ok-lits.ensures c.in_ok-new.ensures.same
    c.append.ensures.log c.requires.within (omega (arith, c.requires.within, count_none c.args.log.now.events c.in_ok-new.field-0 c.in_ok-lits.field-0.lits.items c.in_ok-lits.field-0.hints.items c.in_ok-new.ensures.same none))

pub returns-in_ok-append-clause-continued : goal.returns-in_ok-append-clause-continued
returns-in_ok-append-clause-continued c =
    let none : length c.in_ok-lits.field-0.lits.items ≡ 0 = omega (arith, eqb-true _ 0 (sym c.is_empty.ensures ∙ c.if-is_empty.true), c.in_ok-lits.field-0.lits.ok.0) in
    continued_or c.args.budget c.args.log.now c.append.new.log c.args.state.now.clauses c.in_ok-new.field-0 c.in_ok-lits.field-0.lits.items c.in_ok-lits.field-0.hints.items c.requires.sound c.requires.clauses c.in_ok-lits.ensures c.in_ok-new.ensures.same
    c.append.ensures.log c.requires.within (omega (arith, c.requires.within, count_none c.args.log.now.events c.in_ok-new.field-0 c.in_ok-lits.field-0.lits.items c.in_ok-lits.field-0.hints.items c.in_ok-new.ensures.same none))

pub returns-in_ok-append-clause-ended : goal.returns-in_ok-append-clause-ended
returns-in_ok-append-clause-ended c =
    let none : length c.in_ok-lits.field-0.lits.items ≡ 0 = omega (arith, eqb-true _ 0 (sym c.is_empty.ensures ∙ c.if-is_empty.true), c.in_ok-lits.field-0.lits.ok.0) in
    ends_empty c.args.log.now c.append.new.log c.in_ok-new.field-0 c.in_ok-lits.field-0.lits.items c.in_ok-lits.field-0.hints.items c.in_ok-new.ensures.same none c.in_ok-append.ensures.logged

pub returns-in_err-append-2-clause-continued : goal.returns-in_err-append-2-clause-continued
returns-in_err-append-2-clause-continued c =
    let some : 0 < length c.in_ok-lits.field-0.lits.items = omega (arith, eqb-false _ 0 (sym c.is_empty.ensures ∙ c.if-is_empty.false), c.in_ok-lits.field-0.lits.ok.0) in
    continued_or c.args.budget c.args.log.now c.append-else-steps-budget.new.log c.args.state.now.clauses c.in_ok-new-2.field-0 c.in_ok-lits.field-0.lits.items c.in_ok-lits.field-0.hints.items c.requires.sound c.requires.clauses c.in_ok-lits.ensures c.in_ok-new-2.ensures.same
    c.append-else-steps-budget.ensures.log c.requires.within (omega (arith, c.requires.within, c.if-steps-budget.false, c.steps.ensures, count_some c.args.log.now.events c.in_ok-new-2.field-0 c.in_ok-lits.field-0.lits.items c.in_ok-lits.field-0.hints.items c.in_ok-new-2.ensures.same some))

pub returns-in_ok-append-2-clause-continued : goal.returns-in_ok-append-2-clause-continued
returns-in_ok-append-2-clause-continued c =
    let some : 0 < length c.in_ok-lits.field-0.lits.items = omega (arith, eqb-false _ 0 (sym c.is_empty.ensures ∙ c.if-is_empty.false), c.in_ok-lits.field-0.lits.ok.0) in
    continued_or c.args.budget c.args.log.now c.append-else-steps-budget.new.log c.args.state.now.clauses c.in_ok-new-2.field-0 c.in_ok-lits.field-0.lits.items c.in_ok-lits.field-0.hints.items c.requires.sound c.requires.clauses c.in_ok-lits.ensures c.in_ok-new-2.ensures.same
    c.append-else-steps-budget.ensures.log c.requires.within (omega (arith, c.requires.within, c.if-steps-budget.false, c.steps.ensures, count_some c.args.log.now.events c.in_ok-new-2.field-0 c.in_ok-lits.field-0.lits.items c.in_ok-lits.field-0.hints.items c.in_ok-new-2.ensures.same some))

pub returns-in_ok-append-2-clause-more : goal.returns-in_ok-append-2-clause-more
returns-in_ok-append-2-clause-more c = λ _.
    let some : 0 < length c.in_ok-lits.field-0.lits.items = omega (arith, eqb-false _ 0 (sym c.is_empty.ensures ∙ c.if-is_empty.false), c.in_ok-lits.field-0.lits.ok.0) in
    omega (arith, ap (λ (x : LogState). nonempty_steps x.events) c.in_ok-append-2.ensures.logged, count_some c.args.log.now.events c.in_ok-new-2.field-0 c.in_ok-lits.field-0.lits.items c.in_ok-lits.field-0.hints.items c.in_ok-new-2.ensures.same some)
