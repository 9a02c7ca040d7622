use Rattle.std.proofs.Common.{◌≡◌, ℤ, pos, ◌*ℤ◌, sym, ap, ◌∙◌, arith, rules, lit<, FitsSigned, SFits, w64, to_z, of_z}
use Rattle.std.specs.Prelude.{nat_abs}
use Rattle.std.specs.Int.{w128}
use Rattle.std.proofs.lemmas.Int.{ints, fits_signed_mul, to_z-of_z}
use Rattle.ep_base.specs.Numbers.{nth_power}
use Rattle.ep_base.specs.Reads.{safe_quotient, safe_remainder}
use Rattle.enc_arith.specs.Functions.{function_value}
use Rattle.ep_numbers.proofs.Ends.{absolute_is}
use Rattle.ep_numbers.proofs.PowerLaws.{word_abs}
use Rattle.enc_arith.proofs.Found.{found_near, found_of}
use Rattle.enc_arith.proofs.functions.Function.at.Goals as goal

pub returns-in-Same : goal.returns-in-Same
unfolding function_value
returns-in-Same c =
    let n : ℤ = c.args.number in
    let word : to_z w64 (of_z w64 n) ≡ n = to_z-of_z w64 n (omega (arith, ints)) in
    found_near (to_z w64 (of_z w64 n)) (function_value c.args.self n) (word ∙ sym (ap (λ g. function_value g n) c.in-Same.is))

pub returns-in-Absolute : goal.returns-in-Absolute
unfolding function_value
returns-in-Absolute c =
    let n : ℤ = c.args.number in
    let word : to_z w64 (of_z w64 n) ≡ n = to_z-of_z w64 n (omega (arith, ints)) in
    let wide : to_z w128 (of_z w128 n) ≡ n = to_z-of_z w128 n (omega (arith, ints)) in
    found_of c.near_number.result _ (function_value c.args.self n)
    (to_z-of_z w128 c.abs.result (omega (arith, ints)) ∙ c.abs.ensures.value ∙ ap (λ m. pos (nat_abs m)) (ap (λ m. to_z w128 (of_z w128 m)) (c.from.ensures ∙ word) ∙ wide) ∙ absolute_is n
    ∙ sym (ap (λ g. function_value g n) c.in-Absolute.is))
    c.near_number.ensures.same c.near_number.ensures.told

pub returns-in-Power : goal.returns-in-Power
unfolding function_value
returns-in-Power c =
    let n : ℤ = c.args.number in
    let word : to_z w64 (of_z w64 n) ≡ n = to_z-of_z w64 n (omega (arith, ints)) in
    found_of c.nth_power.result _ (function_value c.args.self n)
    (ap (λ b. nth_power b c.in-Power.exponent) word ∙ sym (ap (λ g. function_value g n) c.in-Power.is))
    c.nth_power.ensures.same c.nth_power.ensures.told

pub returns-in-Product : goal.returns-in-Product
unfolding function_value
returns-in-Product c =
    let n : ℤ = c.args.number in
    let m : ℤ = c.in-Product.factor in
    let word : SFits w64 n = search rules in
    let other : SFits w64 m = search rules in
    let one : to_z w128 (of_z w128 c.from-in-Product.result) ≡ m =
    to_z-of_z w128 c.from-in-Product.result (omega (arith, ints)) ∙ c.from-in-Product.ensures ∙ to_z-of_z w64 m other in
    let two : to_z w128 (of_z w128 c.from-in-Product-2.result) ≡ n =
    to_z-of_z w128 c.from-in-Product-2.result (omega (arith, ints)) ∙ c.from-in-Product-2.ensures ∙ to_z-of_z w64 n word in
    let fits : FitsSigned w128 (m *ℤ n) = fits_signed_mul w128 m n 9223372036854775808 9223372036854775808 (word_abs m other) (word_abs n word) (lit< tt) in
    found_of c.near_number-in-Product.result _ (function_value c.args.self n)
    (ap (λ x. to_z w128 (of_z w128 (x *ℤ to_z w128 (of_z w128 c.from-in-Product-2.result)))) one ∙ ap (λ x. to_z w128 (of_z w128 (m *ℤ x))) two ∙ to_z-of_z w128 (m *ℤ n) fits
    ∙ sym (ap (λ g. function_value g n) c.in-Product.is))
    c.near_number-in-Product.ensures.same c.near_number-in-Product.ensures.told

pub returns-in-Quotient : goal.returns-in-Quotient
unfolding function_value
returns-in-Quotient c =
    let n : ℤ = c.args.number in
    let m : ℤ = c.in-Quotient.over in
    let word : SFits w64 n = search rules in
    let other : SFits w64 m = search rules in
    found_of c.near_number-in-Quotient.result _ (function_value c.args.self n)
    (to_z-of_z w128 c.quotient.result (omega (arith, ints)) ∙ c.quotient.ensures ∙ ap (λ x. safe_quotient x (to_z w64 (of_z w64 n))) (to_z-of_z w64 m other) ∙ ap (safe_quotient m) (to_z-of_z w64 n word)
    ∙ sym (ap (λ g. function_value g n) c.in-Quotient.is))
    c.near_number-in-Quotient.ensures.same c.near_number-in-Quotient.ensures.told

pub returns-in-Remainder : goal.returns-in-Remainder
unfolding function_value
returns-in-Remainder c =
    let n : ℤ = c.args.number in
    let m : ℤ = c.in-Remainder.over in
    let word : SFits w64 n = search rules in
    let other : SFits w64 m = search rules in
    found_of c.near_number-in-Remainder.result _ (function_value c.args.self n)
    (to_z-of_z w128 c.remainder.result (omega (arith, ints)) ∙ c.remainder.ensures ∙ ap (λ x. safe_remainder x (to_z w64 (of_z w64 n))) (to_z-of_z w64 m other) ∙ ap (safe_remainder m) (to_z-of_z w64 n word)
    ∙ sym (ap (λ g. function_value g n) c.in-Remainder.is))
    c.near_number-in-Remainder.ensures.same c.near_number-in-Remainder.ensures.told
