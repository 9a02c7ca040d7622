use Rattle.std.proofs.Common.{ℕ, drop, sym, ap, ◌∙◌, arith}
use Rattle.std.proofs.lemmas.List.{drop_all}
use Rattle.sat_text.proofs.Digits.{room}
use Rattle.sat_text.proofs.Ahead.{number_more, number_long, number_wrong, number_ends}
use Rattle.sat_text.proofs.numbers.next_natural.Goals as goal

pub returns-then-plain-clause-value : goal.returns-then-plain-clause-value
returns-then-plain-clause-value c = number_wrong c.args.text.now c.loop-b.b-index c.loop-b.number c.loop-b.invariant.0 c.loop-b.invariant.1 c.loop-b-test.true (sym c.if-plain.ensures) (sym c.if-not-is_ascii_digit.ensures.value)

pub returns-then-not-is_ascii_digit-clause-value : goal.returns-then-not-is_ascii_digit-clause-value
returns-then-not-is_ascii_digit-clause-value c =
    let ends = number_ends c.args.text.now c.loop-b.b-index c.loop-b.number c.loop-b.invariant.0 c.loop-b.invariant.1 (omega (arith, c.loop-b.invariant.2, c.if-count-eq0.false)) (omega (arith, c.loop-b.invariant.2, c.loop-b.invariant.3)) (λ lt. sym c.if-plain.ensures) in
    (ends.0, c.split_at.ensures.back ∙ ap (λ (n : ℕ). drop n c.args.text.now) c.loop-b.invariant.2 ∙ ends.2)

pub returns-then-not-is_ascii_digit-clause-small : goal.returns-then-not-is_ascii_digit-clause-small
returns-then-not-is_ascii_digit-clause-small c =
    let ends = number_ends c.args.text.now c.loop-b.b-index c.loop-b.number c.loop-b.invariant.0 c.loop-b.invariant.1 (omega (arith, c.loop-b.invariant.2, c.if-count-eq0.false)) (omega (arith, c.loop-b.invariant.2, c.loop-b.invariant.3)) (λ lt. sym c.if-plain.ensures) in
    omega (arith, ends.1)

pub returns-then-count-eq18-clause-value : goal.returns-then-count-eq18-clause-value
returns-then-count-eq18-clause-value c = number_long c.args.text.now c.loop-b.b-index c.loop-b.invariant.1 c.loop-b-test.true (sym c.if-not-is_ascii_digit.ensures.value) (omega (arith, c.loop-b.invariant.2, c.if-count-eq18.true))

pub overflow_mul-number : goal.overflow_mul-number
overflow_mul-number c = omega (arith, room c.loop-b.b-index c.loop-b.number c.loop-b.invariant.0.small (omega (arith, c.loop-b.invariant.2, c.loop-b.invariant.3, c.if-count-eq18.false)))

pub overflow_add-number : goal.overflow_add-number
overflow_add-number c =
    omega (arith, room c.loop-b.b-index c.loop-b.number c.loop-b.invariant.0.small (omega (arith, c.loop-b.invariant.2, c.loop-b.invariant.3, c.if-count-eq18.false)), c.from.ensures, c.type_inv.text c.loop-b.b-index)

pub loop-b-preserved : goal.loop-b-preserved
loop-b-preserved c =
    let more = number_more c.args.text.now c.loop-b.b-index c.loop-b.number c.loop-b.invariant.0 c.loop-b.invariant.1 c.loop-b-test.true (sym c.if-not-is_ascii_digit.ensures.value) in
    (rw c.from.ensures more.0, more.1, omega (arith, c.loop-b.invariant.2), omega (arith, c.loop-b.invariant.3, c.if-count-eq18.false))

pub returns-else-count-eq0-2-clause-value : goal.returns-else-count-eq0-2-clause-value
returns-else-count-eq0-2-clause-value c =
    let ends = number_ends c.args.text.now c.loop-b.b-index c.loop-b.number c.loop-b.invariant.0 c.loop-b.invariant.1 (omega (arith, c.loop-b.invariant.2, c.if-count-eq0-2.false)) (omega (arith, c.loop-b.invariant.2, c.loop-b.invariant.3)) (λ lt. absurd (omega (arith, lt, c.loop-b-test.false))) in
    (ends.0, sym (drop_all c.loop-b.b-index c.args.text.now (omega (arith, c.loop-b-test.false))) ∙ ends.2)

pub returns-else-count-eq0-2-clause-small : goal.returns-else-count-eq0-2-clause-small
returns-else-count-eq0-2-clause-small c =
    let ends = number_ends c.args.text.now c.loop-b.b-index c.loop-b.number c.loop-b.invariant.0 c.loop-b.invariant.1 (omega (arith, c.loop-b.invariant.2, c.if-count-eq0-2.false)) (omega (arith, c.loop-b.invariant.2, c.loop-b.invariant.3)) (λ lt. absurd (omega (arith, lt, c.loop-b-test.false))) in
    omega (arith, ends.1)
