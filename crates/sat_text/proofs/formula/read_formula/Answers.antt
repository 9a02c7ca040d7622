use Rattle.std.proofs.Common.{◌+◌, sym, ◌∙◌, arith}
use Rattle.sat_text.specs.Words.{lines}
use Rattle.sat_text.proofs.FormulaSteps.{formula_quiet, formula_header, formula_ends, names_stop, formula_good}
use Rattle.sat_text.proofs.HeardSteps.{said_heard, header_heard, ok_follows}
use Rattle.sat_text.proofs.formula.read_formula.Goals as goal

pub returns-in-Good-clause-found : goal.returns-in-Good-clause-found
returns-in-Good-clause-found c = λ last.
    formula_good last c.in-Good.vars c.read_clauses.result _ _ c.read_clauses.ensures.vars (c.read_clauses.ensures.clauses last)
    (sym (c.loop-line.invariant.0 last) ∙ formula_header last (c.loop-line.number + 1) (lines c.loop-line.rest.now) (lines c.in-Some.later.now) c.in-Some.line.now _ c.in-Some.ensures.cuts (sym c.is_silent.ensures ∙ c.if-not-is_silent.true) c.in-Good.ensures.value)

pub returns-in-Short-clause-found : goal.returns-in-Short-clause-found
returns-in-Short-clause-found c = λ last.
    names_stop last c.first_word.result _ _ (c.first_word.ensures last)
    (sym (c.loop-line.invariant.0 last) ∙ formula_header last (c.loop-line.number + 1) (lines c.loop-line.rest.now) (lines c.in-Some.later.now) c.in-Some.line.now _ c.in-Some.ensures.cuts (sym c.is_silent.ensures ∙ c.if-not-is_silent.true) c.in-Short.ensures.value)

pub returns-in-Wrong-clause-found : goal.returns-in-Wrong-clause-found
returns-in-Wrong-clause-found c = λ last.
    sym (c.loop-line.invariant.0 last) ∙ formula_header last (c.loop-line.number + 1) (lines c.loop-line.rest.now) (lines c.in-Some.later.now) c.in-Some.line.now _ c.in-Some.ensures.cuts (sym c.is_silent.ensures ∙ c.if-not-is_silent.true) c.in-Wrong.ensures.value

pub loop-line-preserved : goal.loop-line-preserved
loop-line-preserved c = (
  λ last. sym (formula_quiet last (c.loop-line.number + 1) (lines c.loop-line.rest.now) (lines c.in-Some.later.now) c.in-Some.line.now c.in-Some.ensures.cuts (sym c.is_silent.ensures ∙ c.if-not-is_silent.false)) ∙ c.loop-line.invariant.0 last,
  omega (arith, c.loop-line.invariant.1, c.in-Some.ensures.shorter),
  λ new h. c.loop-line.invariant.2 new (said_heard _ _ new (lines c.loop-line.rest.now) (lines c.in-Some.later.now) c.in-Some.line.now c.in-Some.ensures.cuts c.in_ok-hear.ensures h),
)

pub returns-clause-found : goal.returns-clause-found
returns-clause-found c = λ last. sym (c.loop-line.invariant.0 last) ∙ formula_ends last (c.loop-line.number + 1) (lines c.loop-line.rest.now) c.in_default.ensures.cuts

pub returns-in-Good-clause-heard : goal.returns-in-Good-clause-heard
returns-in-Good-clause-heard c =
    ok_follows c.read_clauses.result
    (λ h. c.loop-line.invariant.2 _ (header_heard _ _ (lines c.loop-line.rest.now) (lines c.in-Some.later.now) c.in-Some.line.now c.in-Some.ensures.cuts (sym c.is_silent.ensures ∙ c.if-not-is_silent.true) h))
    c.read_clauses.ensures.heard
