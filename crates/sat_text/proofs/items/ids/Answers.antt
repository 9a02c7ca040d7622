use Rattle.std.proofs.Common.{◌∙◌, ◌≡◌, ℤ, subst, Some}
use Rattle.std.proofs.lemmas.Result.{err_from_is_err_and}
use Rattle.sat_text.specs.Answers.{Fails}
use Rattle.sat_text.specs.Words.{first_line, words}
use Rattle.sat_text.specs.Proofs.{positive_of}
use Rattle.sat_text.proofs.ItemSteps.{item_fails, item_ends, item_more, item_refused, stored, zero_stored}
use Rattle.sat_text.proofs.items.ids.Goals as goal

pub returns-in_err-number-clause-value : goal.returns-in_err-number-clause-value
returns-in_err-number-clause-value c =
    let p = err_from_is_err_and c.from_residual.result c.from_residual.ensures.1 in
    rw (p.1, p.2) (item_fails positive_of c.in_err-number.field-0.0 c.loop-number.found.items (words (first_line c.loop-number.rest.now)) _ c.in_err-number.ensures.value c.loop-number.invariant.0)

pub returns-then-is_zero-clause-value : goal.returns-then-is_zero-clause-value
returns-then-is_zero-clause-value c =
    item_ends positive_of c.loop-number.found.items (words (first_line c.loop-number.rest.now)) c.in_ok-number.number (words (first_line c.in_ok-number.later.now)) _ c.in_ok-number.ensures.value (zero_stored c.in_ok-number.number _ _ c.in_ok-number.ensures.small c.is_zero.ensures c.if-is_zero.true) c.loop-number.invariant.0

pub loop-number-preserved : goal.loop-number-preserved
loop-number-preserved c = (
  rw c.in_ok-push.ensures.items
      (item_more positive_of c.loop-number.found.items (words (first_line c.loop-number.rest.now)) c.in_ok-number.number _ (words (first_line c.in_ok-number.later.now)) _ c.in_ok-number.ensures.value (zero_stored c.in_ok-number.number _ _ c.in_ok-number.ensures.small c.is_zero.ensures c.if-is_zero.false) (subst (λ (m : ℤ). positive_of m ≡ Some c.in_ok-positive.field-0) (stored c.in_ok-number.number c.in_ok-number.ensures.small) c.in_ok-positive.ensures) c.loop-number.invariant.0),
  c.in_ok-number.ensures.line ∙ c.loop-number.invariant.1,
)

pub returns-in_err-positive-clause-value : goal.returns-in_err-positive-clause-value
returns-in_err-positive-clause-value c =
    let p = err_from_is_err_and c.from_residual-in_err-positive.result c.from_residual-in_err-positive.ensures.1 in
    rw (p.1, p.2) (item_refused positive_of c.in_err-positive.field-0.0 c.loop-number.found.items (words (first_line c.loop-number.rest.now)) c.in_ok-number.number (words (first_line c.in_ok-number.later.now)) _ c.in_ok-number.ensures.value (zero_stored c.in_ok-number.number _ _ c.in_ok-number.ensures.small c.is_zero.ensures c.if-is_zero.false) (subst (λ (m : ℤ). Fails c.in_err-positive.field-0.0 (positive_of m)) (stored c.in_ok-number.number c.in_ok-number.ensures.small) c.in_err-positive.ensures) c.loop-number.invariant.0)

pub returns-then-is_zero-clause-line : goal.returns-then-is_zero-clause-line
returns-then-is_zero-clause-line c = c.in_ok-number.ensures.line ∙ c.loop-number.invariant.1
