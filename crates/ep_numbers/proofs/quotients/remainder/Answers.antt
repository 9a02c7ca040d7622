use Rattle.std.proofs.Common.{◌≡◌, Some, pos, ◌-ℤ◌, sym, ap, ◌∙◌, arith, w64, to_z, of_z}
use Rattle.std.specs.Prelude.{int_lt, neg_ℤ}
use Rattle.std.specs.Int.{w128, int_rem_euclid}
use Rattle.std.proofs.lemmas.Int.{ints, to_z-of_z}
use Rattle.ep_numbers.proofs.QuotientLaws.{negative, remainder_negative, remainder_none, remainder_positive}
use Rattle.ep_numbers.proofs.quotients.remainder.Goals as goal

pub returns-then-under-gt0 : goal.returns-then-under-gt0
returns-then-under-gt0 c =
    let over : to_z w128 (of_z w128 c.from-over.result) ≡ c.args.left =
    to_z-of_z w128 c.from-over.result (omega (arith, ints)) ∙ c.from-over.ensures ∙ to_z-of_z w64 c.args.left (omega (arith, ints)) in
    let under : to_z w128 (of_z w128 c.from-under.result) ≡ c.args.right =
    to_z-of_z w128 c.from-under.result (omega (arith, ints)) ∙ c.from-under.ensures ∙ to_z-of_z w64 c.args.right (omega (arith, ints)) in
    ap Some
    (to_z-of_z w128 c.rem_euclid.result (omega (arith, ints)) ∙ c.rem_euclid.ensures.value
    ∙ ap (λ m. int_rem_euclid m (to_z w128 (of_z w128 c.from-under.result))) over ∙ ap (int_rem_euclid c.args.left) under)
    ∙ remainder_positive c.args.left c.args.right (ap (int_lt (pos 0)) (sym under) ∙ c.if-under-gt0.true)

pub returns-then-under-lt0 : goal.returns-then-under-lt0
returns-then-under-lt0 c =
    let over : to_z w128 (of_z w128 c.from-over.result) ≡ c.args.left =
    to_z-of_z w128 c.from-over.result (omega (arith, ints)) ∙ c.from-over.ensures ∙ to_z-of_z w64 c.args.left (omega (arith, ints)) in
    let under : to_z w128 (of_z w128 c.from-under.result) ≡ c.args.right =
    to_z-of_z w128 c.from-under.result (omega (arith, ints)) ∙ c.from-under.ensures ∙ to_z-of_z w64 c.args.right (omega (arith, ints)) in
    let less_over : to_z w128 (of_z w128 (pos 0 -ℤ to_z w128 (of_z w128 c.from-over.result))) ≡ neg_ℤ c.args.left =
    ap (λ m. to_z w128 (of_z w128 (pos 0 -ℤ m))) over ∙ to_z-of_z w128 (pos 0 -ℤ c.args.left) (omega (arith, ints)) ∙ negative c.args.left in
    let less_under : to_z w128 (of_z w128 (pos 0 -ℤ to_z w128 (of_z w128 c.from-under.result))) ≡ neg_ℤ c.args.right =
    ap (λ m. to_z w128 (of_z w128 (pos 0 -ℤ m))) under ∙ to_z-of_z w128 (pos 0 -ℤ c.args.right) (omega (arith, ints)) ∙ negative c.args.right in
    ap Some
    (to_z-of_z w128 (pos 0 -ℤ to_z w128 (of_z w128 c.rem_euclid-then-under-lt0.result)) (let same = to_z-of_z w128 c.rem_euclid-then-under-lt0.result (omega (arith, ints)) in omega (arith, ints, same))
    ∙ ap (λ m. pos 0 -ℤ m)
    (to_z-of_z w128 c.rem_euclid-then-under-lt0.result (omega (arith, ints)) ∙ c.rem_euclid-then-under-lt0.ensures.value
    ∙ ap (λ m. int_rem_euclid m (to_z w128 (of_z w128 (pos 0 -ℤ to_z w128 (of_z w128 c.from-under.result))))) less_over ∙ ap (int_rem_euclid (neg_ℤ c.args.left)) less_under))
    ∙ remainder_negative c.args.left c.args.right (ap (λ m. int_lt m (pos 0)) (sym under) ∙ c.if-under-lt0.true)

pub returns : goal.returns
returns c =
    let over : to_z w128 (of_z w128 c.from-over.result) ≡ c.args.left =
    to_z-of_z w128 c.from-over.result (omega (arith, ints)) ∙ c.from-over.ensures ∙ to_z-of_z w64 c.args.left (omega (arith, ints)) in
    let under : to_z w128 (of_z w128 c.from-under.result) ≡ c.args.right =
    to_z-of_z w128 c.from-under.result (omega (arith, ints)) ∙ c.from-under.ensures ∙ to_z-of_z w64 c.args.right (omega (arith, ints)) in
    remainder_none c.args.left c.args.right (ap (int_lt (pos 0)) (sym under) ∙ c.if-under-gt0.false) (ap (λ m. int_lt m (pos 0)) (sym under) ∙ c.if-under-lt0.false)
