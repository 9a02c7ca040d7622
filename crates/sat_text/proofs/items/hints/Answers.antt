use Rattle.std.proofs.Common.{◌∙◌, ℤ, sym, ap, Some}
use Rattle.std.proofs.lemmas.Result.{err_from_is_err_and}
use Rattle.sat_text.specs.Words.{first_line, words}
use Rattle.sat_text.specs.Proofs.{any_hint}
use Rattle.sat_text.proofs.ItemSteps.{item_fails, item_ends, item_more, stored, zero_stored}
use Rattle.sat_text.proofs.items.hints.Goals as goal

pub returns-in_err-number-clause-value : goal.returns-in_err-number-clause-value
returns-in_err-number-clause-value c =
    let p = err_from_is_err_and c.from_residual.result c.from_residual.ensures.1 in
    rw (p.1, p.2) (item_fails any_hint c.in_err-number.field-0.0 c.loop-number.found.items (words (first_line c.loop-number.rest.now)) _ c.in_err-number.ensures.value c.loop-number.invariant.0)

pub returns-then-is_zero-clause-value : goal.returns-then-is_zero-clause-value
returns-then-is_zero-clause-value c =
    item_ends any_hint c.loop-number.found.items (words (first_line c.loop-number.rest.now)) c.in_ok-number.number (words (first_line c.in_ok-number.later.now)) _ c.in_ok-number.ensures.value (zero_stored c.in_ok-number.number _ _ c.in_ok-number.ensures.small c.is_zero.ensures c.if-is_zero.true) c.loop-number.invariant.0

pub loop-number-preserved : goal.loop-number-preserved
loop-number-preserved c = (
  rw c.in_ok-push.ensures.items
      (item_more any_hint c.loop-number.found.items (words (first_line c.loop-number.rest.now)) c.in_ok-number.number _ (words (first_line c.in_ok-number.later.now)) _ c.in_ok-number.ensures.value (zero_stored c.in_ok-number.number _ _ c.in_ok-number.ensures.small c.is_zero.ensures c.if-is_zero.false) (ap (λ (m : ℤ). Some m) (sym (stored c.in_ok-number.number c.in_ok-number.ensures.small))) c.loop-number.invariant.0),
  c.in_ok-number.ensures.line ∙ c.loop-number.invariant.1,
)

pub returns-then-is_zero-clause-line : goal.returns-then-is_zero-clause-line
returns-then-is_zero-clause-line c = c.in_ok-number.ensures.line ∙ c.loop-number.invariant.1
