use Rattle.std.proofs.Common.{◌≡◌, Some, pos, ◌-ℤ◌, sym, ap, ◌∙◌, arith, w64, to_z, of_z}
use Rattle.std.specs.Prelude.{int_lt, neg_ℤ}
use Rattle.std.specs.Int.{w128, int_div_euclid}
use Rattle.std.proofs.lemmas.Int.{ints, to_z-of_z}
use Rattle.ep_numbers.proofs.QuotientLaws.{negative, quotient_negative, quotient_none, quotient_positive}
use Rattle.ep_numbers.proofs.quotients.quotient.Goals as goal

pub returns-then-under-gt0 : goal.returns-then-under-gt0
returns-then-under-gt0 c =
    let over : to_z w128 (of_z w128 c.from-over.result) ≡ c.args.left =
    to_z-of_z w128 c.from-over.result (omega (arith, ints)) ∙ c.from-over.ensures ∙ to_z-of_z w64 c.args.left (omega (arith, ints)) in
    let under : to_z w128 (of_z w128 c.from-under.result) ≡ c.args.right =
    to_z-of_z w128 c.from-under.result (omega (arith, ints)) ∙ c.from-under.ensures ∙ to_z-of_z w64 c.args.right (omega (arith, ints)) in
    ap Some
    (to_z-of_z w128 c.div_euclid.result (omega (arith, ints)) ∙ c.div_euclid.ensures
    ∙ ap (λ m. int_div_euclid m (to_z w128 (of_z w128 c.from-under.result))) over ∙ ap (int_div_euclid c.args.left) under)
    ∙ quotient_positive c.args.left c.args.right (ap (int_lt (pos 0)) (sym under) ∙ c.if-under-gt0.true)

pub returns-then-under-lt0 : goal.returns-then-under-lt0
returns-then-under-lt0 c =
    let over : to_z w128 (of_z w128 c.from-over.result) ≡ c.args.left =
    to_z-of_z w128 c.from-over.result (omega (arith, ints)) ∙ c.from-over.ensures ∙ to_z-of_z w64 c.args.left (omega (arith, ints)) in
    let under : to_z w128 (of_z w128 c.from-under.result) ≡ c.args.right =
    to_z-of_z w128 c.from-under.result (omega (arith, ints)) ∙ c.from-under.ensures ∙ to_z-of_z w64 c.args.right (omega (arith, ints)) in
    let less_over : to_z w128 (of_z w128 (pos 0 -ℤ to_z w128 (of_z w128 c.from-over.result))) ≡ neg_ℤ c.args.left =
    ap (λ m. to_z w128 (of_z w128 (pos 0 -ℤ m))) over ∙ to_z-of_z w128 (pos 0 -ℤ c.args.left) (omega (arith, ints)) ∙ negative c.args.left in
    let less_under : to_z w128 (of_z w128 (pos 0 -ℤ to_z w128 (of_z w128 c.from-under.result))) ≡ neg_ℤ c.args.right =
    ap (λ m. to_z w128 (of_z w128 (pos 0 -ℤ m))) under ∙ to_z-of_z w128 (pos 0 -ℤ c.args.right) (omega (arith, ints)) ∙ negative c.args.right in
    ap Some
    (to_z-of_z w128 c.div_euclid-then-under-lt0.result (omega (arith, ints)) ∙ c.div_euclid-then-under-lt0.ensures
    ∙ ap (λ m. int_div_euclid m (to_z w128 (of_z w128 (pos 0 -ℤ to_z w128 (of_z w128 c.from-under.result))))) less_over ∙ ap (int_div_euclid (neg_ℤ c.args.left)) less_under)
    ∙ quotient_negative c.args.left c.args.right (ap (λ m. int_lt m (pos 0)) (sym under) ∙ c.if-under-lt0.true)

pub returns : goal.returns
returns c =
    let over : to_z w128 (of_z w128 c.from-over.result) ≡ c.args.left =
    to_z-of_z w128 c.from-over.result (omega (arith, ints)) ∙ c.from-over.ensures ∙ to_z-of_z w64 c.args.left (omega (arith, ints)) in
    let under : to_z w128 (of_z w128 c.from-under.result) ≡ c.args.right =
    to_z-of_z w128 c.from-under.result (omega (arith, ints)) ∙ c.from-under.ensures ∙ to_z-of_z w64 c.args.right (omega (arith, ints)) in
    quotient_none c.args.left c.args.right (ap (int_lt (pos 0)) (sym under) ∙ c.if-under-gt0.false) (ap (λ m. int_lt m (pos 0)) (sym under) ∙ c.if-under-lt0.false)
