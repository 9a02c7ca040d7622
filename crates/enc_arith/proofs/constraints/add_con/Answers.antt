use Rattle.std.proofs.Common.{ℕ, ◌<◌, ℤ, [], ◌∷◌, List, length, refl, sym, ap, subst, ◌∙◌, arith}
use Rattle.std.proofs.lemmas.List.{append-nil}
use Rattle.std.specs.List.{All}
use Rattle.std.specs.Ordering.{int_eq}
use Rattle.ep_base.specs.Reads.{safe_picked}
use Rattle.ep_flat.specs.Cons.{FlatKind, absolute, element, greatest, is_value, kind_holds, kind_variables, least, number_at, numbers_of_vars, power, product, quotient, remainder}
use Rattle.ep_flat.specs.FlatViews.{plain_con, plain_kind}
use Rattle.ep_flat.specs.declared.flats.ConKind.{ConKind}
use Rattle.enc_arith.specs.Extremes.{extreme_of}
use Rattle.enc_arith.specs.Functions.{function_value}
use Rattle.enc_arith.specs.Operations.{result_of}
use Rattle.enc_arith.specs.declared.functions.Function.TheVariants as function
use Rattle.enc_arith.specs.declared.operations.Operation.{Operation}
use Rattle.enc_arith.specs.declared.sides.Side.{Side}
use Rattle.enc_arith.proofs.Constraining.{other_kind, Taken, adds_con, many_taken, taken, three_taken, two_taken}
use Rattle.enc_arith.proofs.constraints.add_con.Goals as goal

pub add_operation-requires : goal.add_operation-requires
unfolding kind_variables
add_operation-requires c =
    let L = c.args.layout.now in
    let t : Taken L c.args.f.now c.args.con.now.truth (product c.in-Product.r c.in-Product.x c.in-Product.y) = subst (λ (k : ConKind). Taken L c.args.f.now c.args.con.now.truth (plain_kind k)) c.in-Product.is (taken L c.args.f.now (plain_con c.args.con.now) c.requires.can_take) in
    let h = three_taken L c.args.f.now c.args.con.now.truth (product c.in-Product.r c.in-Product.x c.in-Product.y) c.in-Product.r c.in-Product.x c.in-Product.y t refl in
    record { ready = t.ready; there = h.0; first = h.1; second = h.2 }

pub returns-in_ok-add_operation-in-Product : goal.returns-in_ok-add_operation-in-Product
unfolding kind_holds result_of
returns-in_ok-add_operation-in-Product c =
    adds_con _ _ _ (plain_con c.args.con.now) c.args.con.now.truth (λ values. int_eq (number_at values c.in-Product.r) (result_of Operation.Product (number_at values c.in-Product.x) (number_at values c.in-Product.y)))
    c.requires.can_take.is_layout refl (λ values. sym (ap (λ (k : ConKind). kind_holds values (plain_kind k)) c.in-Product.is)) c.in_ok-add_operation-in-Product.ensures

pub add_operation-requires-in-Quotient : goal.add_operation-requires-in-Quotient
unfolding kind_variables
add_operation-requires-in-Quotient c =
    let L = c.args.layout.now in
    let t : Taken L c.args.f.now c.args.con.now.truth (quotient c.in-Quotient.r c.in-Quotient.x c.in-Quotient.y) = subst (λ (k : ConKind). Taken L c.args.f.now c.args.con.now.truth (plain_kind k)) c.in-Quotient.is (taken L c.args.f.now (plain_con c.args.con.now) c.requires.can_take) in
    let h = three_taken L c.args.f.now c.args.con.now.truth (quotient c.in-Quotient.r c.in-Quotient.x c.in-Quotient.y) c.in-Quotient.r c.in-Quotient.x c.in-Quotient.y t refl in
    record { ready = t.ready; there = h.0; first = h.1; second = h.2 }

pub returns-in_ok-add_operation-in-Quotient : goal.returns-in_ok-add_operation-in-Quotient
unfolding kind_holds result_of
returns-in_ok-add_operation-in-Quotient c =
    adds_con _ _ _ (plain_con c.args.con.now) c.args.con.now.truth (λ values. int_eq (number_at values c.in-Quotient.r) (result_of Operation.Quotient (number_at values c.in-Quotient.x) (number_at values c.in-Quotient.y)))
    c.requires.can_take.is_layout refl (λ values. sym (ap (λ (k : ConKind). kind_holds values (plain_kind k)) c.in-Quotient.is)) c.in_ok-add_operation-in-Quotient.ensures

pub add_operation-requires-in-Remainder : goal.add_operation-requires-in-Remainder
unfolding kind_variables
add_operation-requires-in-Remainder c =
    let L = c.args.layout.now in
    let t : Taken L c.args.f.now c.args.con.now.truth (remainder c.in-Remainder.r c.in-Remainder.x c.in-Remainder.y) = subst (λ (k : ConKind). Taken L c.args.f.now c.args.con.now.truth (plain_kind k)) c.in-Remainder.is (taken L c.args.f.now (plain_con c.args.con.now) c.requires.can_take) in
    let h = three_taken L c.args.f.now c.args.con.now.truth (remainder c.in-Remainder.r c.in-Remainder.x c.in-Remainder.y) c.in-Remainder.r c.in-Remainder.x c.in-Remainder.y t refl in
    record { ready = t.ready; there = h.0; first = h.1; second = h.2 }

pub returns-in_ok-add_operation-in-Remainder : goal.returns-in_ok-add_operation-in-Remainder
unfolding kind_holds result_of
returns-in_ok-add_operation-in-Remainder c =
    adds_con _ _ _ (plain_con c.args.con.now) c.args.con.now.truth (λ values. int_eq (number_at values c.in-Remainder.r) (result_of Operation.Remainder (number_at values c.in-Remainder.x) (number_at values c.in-Remainder.y)))
    c.requires.can_take.is_layout refl (λ values. sym (ap (λ (k : ConKind). kind_holds values (plain_kind k)) c.in-Remainder.is)) c.in_ok-add_operation-in-Remainder.ensures

pub add_function-requires : goal.add_function-requires
unfolding kind_variables
add_function-requires c =
    let L = c.args.layout.now in
    let t : Taken L c.args.f.now c.args.con.now.truth (power c.in-Power.r c.in-Power.x c.in-Power.n) = subst (λ (k : ConKind). Taken L c.args.f.now c.args.con.now.truth (plain_kind k)) c.in-Power.is (taken L c.args.f.now (plain_con c.args.con.now) c.requires.can_take) in
    let h = two_taken L c.args.f.now c.args.con.now.truth (power c.in-Power.r c.in-Power.x c.in-Power.n) c.in-Power.r c.in-Power.x t refl in
    record { ready = t.ready; names = λ k d low. absurd (omega (arith, low)); there = h.0; argument = h.1 }

pub returns-in_ok-add_function-in-Power : goal.returns-in_ok-add_function-in-Power
unfolding kind_holds function_value
returns-in_ok-add_function-in-Power c =
    adds_con _ _ _ (plain_con c.args.con.now) c.args.con.now.truth (λ values. int_eq (number_at values c.in-Power.r) (function_value (function.Power c.in-Power.n) (number_at values c.in-Power.x)))
    c.requires.can_take.is_layout refl (λ values. sym (ap (λ (k : ConKind). kind_holds values (plain_kind k)) c.in-Power.is)) c.in_ok-add_function-in-Power.ensures

pub add_function-requires-in-Absolute : goal.add_function-requires-in-Absolute
unfolding kind_variables
add_function-requires-in-Absolute c =
    let L = c.args.layout.now in
    let t : Taken L c.args.f.now c.args.con.now.truth (absolute c.in-Absolute.r c.in-Absolute.x) = subst (λ (k : ConKind). Taken L c.args.f.now c.args.con.now.truth (plain_kind k)) c.in-Absolute.is (taken L c.args.f.now (plain_con c.args.con.now) c.requires.can_take) in
    let h = two_taken L c.args.f.now c.args.con.now.truth (absolute c.in-Absolute.r c.in-Absolute.x) c.in-Absolute.r c.in-Absolute.x t refl in
    record { ready = t.ready; names = λ k d low. absurd (omega (arith, low)); there = h.0; argument = h.1 }

pub returns-in_ok-add_function-in-Absolute : goal.returns-in_ok-add_function-in-Absolute
unfolding kind_holds function_value
returns-in_ok-add_function-in-Absolute c =
    adds_con _ _ _ (plain_con c.args.con.now) c.args.con.now.truth (λ values. int_eq (number_at values c.in-Absolute.r) (function_value (function.Absolute) (number_at values c.in-Absolute.x)))
    c.requires.can_take.is_layout refl (λ values. sym (ap (λ (k : ConKind). kind_holds values (plain_kind k)) c.in-Absolute.is)) c.in_ok-add_function-in-Absolute.ensures

pub add_side-requires : goal.add_side-requires
unfolding kind_variables
add_side-requires c =
    let L = c.args.layout.now in
    let xs : List ℕ = c.in-Least.parts.items in
    let t : Taken L c.args.f.now c.args.con.now.truth (least c.in-Least.r xs) = subst (λ (k : ConKind). Taken L c.args.f.now c.args.con.now.truth (plain_kind k)) c.in-Least.is (taken L c.args.f.now (plain_con c.args.con.now) c.requires.can_take) in
    let h = many_taken L c.args.f.now c.args.con.now.truth (least c.in-Least.r xs) c.in-Least.r xs [] t (sym (append-nil (c.in-Least.r ∷ xs))) in
    record { ready = t.ready; there = h.0; parts = subst (All (λ (x : ℕ). x < length L)) (sym c.as_slice.ensures.value) h.1 }

pub returns-in_ok-add_side-in-Least : goal.returns-in_ok-add_side-in-Least
unfolding kind_holds extreme_of
returns-in_ok-add_side-in-Least c =
    adds_con _ _ _ (plain_con c.args.con.now) c.args.con.now.truth (λ values. is_value (extreme_of Side.Least (numbers_of_vars values c.as_slice.result.now)) (number_at values c.in-Least.r))
    c.requires.can_take.is_layout refl
    (λ values. ap (λ (xs : List ℕ). is_value (extreme_of Side.Least (numbers_of_vars values xs)) (number_at values c.in-Least.r)) c.as_slice.ensures.value ∙ sym (ap (λ (k : ConKind). kind_holds values (plain_kind k)) c.in-Least.is))
    c.in_ok-add_side-in-Least.ensures

pub add_side-requires-in-Greatest : goal.add_side-requires-in-Greatest
unfolding kind_variables
add_side-requires-in-Greatest c =
    let L = c.args.layout.now in
    let xs : List ℕ = c.in-Greatest.parts.items in
    let t : Taken L c.args.f.now c.args.con.now.truth (greatest c.in-Greatest.r xs) = subst (λ (k : ConKind). Taken L c.args.f.now c.args.con.now.truth (plain_kind k)) c.in-Greatest.is (taken L c.args.f.now (plain_con c.args.con.now) c.requires.can_take) in
    let h = many_taken L c.args.f.now c.args.con.now.truth (greatest c.in-Greatest.r xs) c.in-Greatest.r xs [] t (sym (append-nil (c.in-Greatest.r ∷ xs))) in
    record { ready = t.ready; there = h.0; parts = subst (All (λ (x : ℕ). x < length L)) (sym c.as_slice-in-Greatest.ensures.value) h.1 }

pub returns-in_ok-add_side-in-Greatest : goal.returns-in_ok-add_side-in-Greatest
unfolding kind_holds extreme_of
returns-in_ok-add_side-in-Greatest c =
    adds_con _ _ _ (plain_con c.args.con.now) c.args.con.now.truth (λ values. is_value (extreme_of Side.Greatest (numbers_of_vars values c.as_slice-in-Greatest.result.now)) (number_at values c.in-Greatest.r))
    c.requires.can_take.is_layout refl
    (λ values. ap (λ (xs : List ℕ). is_value (extreme_of Side.Greatest (numbers_of_vars values xs)) (number_at values c.in-Greatest.r)) c.as_slice-in-Greatest.ensures.value ∙ sym (ap (λ (k : ConKind). kind_holds values (plain_kind k)) c.in-Greatest.is))
    c.in_ok-add_side-in-Greatest.ensures

pub add_picked-requires : goal.add_picked-requires
unfolding kind_variables
add_picked-requires c =
    let L = c.args.layout.now in
    let xs : List ℕ = c.in-Element.parts.items in
    let ys : List ℕ = c.in-Element.indices.items in
    let kind : FlatKind = element c.in-Element.r xs c.in-Element.keys.items ys in
    let t : Taken L c.args.f.now c.args.con.now.truth kind = subst (λ (k : ConKind). Taken L c.args.f.now c.args.con.now.truth (plain_kind k)) c.in-Element.is (taken L c.args.f.now (plain_con c.args.con.now) c.requires.can_take) in
    let h = many_taken L c.args.f.now c.args.con.now.truth kind c.in-Element.r xs ys t refl in
    record {
      ready = t.ready;
      there = h.0;
      parts = subst (All (λ (x : ℕ). x < length L)) (sym c.as_slice-in-Element.ensures.value) h.1;
      indices = subst (All (λ (x : ℕ). x < length L)) (sym c.as_slice-in-Element-3.ensures.value) h.2;
    }

pub returns-in_ok-add_picked-in-Element : goal.returns-in_ok-add_picked-in-Element
unfolding kind_holds
returns-in_ok-add_picked-in-Element c =
    let r : ℕ = c.in-Element.r in
    let xs : List ℕ = c.as_slice-in-Element.result.now in
    let keys : List (List ℤ) = c.as_slice-in-Element-2.result.now in
    let ys : List ℕ = c.as_slice-in-Element-3.result.now in
    adds_con _ _ _ (plain_con c.args.con.now) c.args.con.now.truth (λ values. int_eq (number_at values r) (safe_picked (numbers_of_vars values xs) keys (numbers_of_vars values ys)))
    c.requires.can_take.is_layout refl
    (λ values. ap (λ (zs : List ℕ). int_eq (number_at values r) (safe_picked (numbers_of_vars values zs) keys (numbers_of_vars values ys))) c.as_slice-in-Element.ensures.value
    ∙ ap (λ (ks : List (List ℤ)). int_eq (number_at values r) (safe_picked (numbers_of_vars values c.in-Element.parts.items) ks (numbers_of_vars values ys))) c.as_slice-in-Element-2.ensures.value
    ∙ ap (λ (zs : List ℕ). int_eq (number_at values r) (safe_picked (numbers_of_vars values c.in-Element.parts.items) c.in-Element.keys.items (numbers_of_vars values zs))) c.as_slice-in-Element-3.ensures.value
    ∙ sym (ap (λ (k : ConKind). kind_holds values (plain_kind k)) c.in-Element.is))
    c.in_ok-add_picked-in-Element.ensures

pub unreachable-requires : goal.unreachable-requires
unreachable-requires c =
    other_kind c.args.con.now.kind c.requires.family c.in_default.not-Product c.in_default.not-Quotient c.in_default.not-Remainder c.in_default.not-Power c.in_default.not-Absolute c.in_default.not-Least
    c.in_default.not-Greatest c.in_default.not-Element
