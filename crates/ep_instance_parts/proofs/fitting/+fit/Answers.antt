use Rattle.std.proofs.Common.{◌≡◌, ◌∙◌, ◌+◌, ◌==◌, ℕ, ℤ, true, false, List, ◌∷◌, drop, length, Some, None, sym, ap, subst, arith, option_map, rules, vec_len, w64, to_z, of_z}
use Rattle.std.proofs.lemmas.List.{drop_more}
use Rattle.std.proofs.lemmas.Int.{ints, to_z-of_z}
use Rattle.ep_tree.proofs.ViewLemmas.{value_tree-matrix, value_tree-number}
use Rattle.ep_tree.specs.Values.{fitted, matrix, single}
use Rattle.ep_tree.specs.Views.{value_tree, values_from}
use Rattle.ep_tree.specs.declared.values.Value.{Value}
use Rattle.ep_instance_parts.proofs.FitSteps.{FitsSoFar, fitted_alike, fitted_matrix, miscounted_matrix, no_elements, one_fitted, one_unfitted, unfitted_matrix, unfitted_scalar}
use Rattle.ep_instance_parts.proofs.fitting.+fit.Goals as goal

pub returns-in-Number : goal.returns-in-Number
returns-in-Number t c = λ passes agrees.
    let e : to_z w64 (of_z w64 c.in-Number.number) ≡ c.in-Number.number = to_z-of_z w64 c.in-Number.number (omega (arith, ints)) in
    c.fit_number.ensures passes agrees
    ∙ ap (λ n. fitted c.args.own c.args.wanted passes c.args.indices.now (single n)) e
    ∙ sym (ap (fitted c.args.own c.args.wanted passes c.args.indices.now) (ap value_tree c.in-Number.is ∙ value_tree-number c.in-Number.number))

pub returns-in_default : goal.returns-in_default
returns-in_default t c = λ passes agrees.
    fitted_alike c.args.own c.args.wanted passes _ _ _ _ None
    (no_elements c.args.indices.now c.in_default.ensures.cases)
    (ap value_tree c.in-Matrix.is ∙ value_tree-matrix c.in-Matrix.field-0 c.in-Matrix.parts)
    (unfitted_scalar c.args.own c.args.wanted passes c.in-Matrix.field-0.items c.in-Matrix.parts.items)

pub returns-then-not-has_count : goal.returns-then-not-has_count
returns-then-not-has_count t c = λ passes agrees.
    let first : List ℤ = c.in-Some.first.now in
    let parts : List Value = c.in-Matrix.parts.items in
    let counted : vec_len c.in-Matrix.parts ≡ length parts = search rules in
    let differs : (length first == length parts) ≡ false =
    ap (λ n. length first == n) (sym (c.len.ensures ∙ counted)) ∙ sym c.has_count.ensures ∙ c.if-not-has_count.true in
    fitted_alike c.args.own c.args.wanted passes _ _ _ _ None
    c.in-Some.ensures.cases.0
    (ap value_tree c.in-Matrix.is ∙ value_tree-matrix c.in-Matrix.field-0 c.in-Matrix.parts)
    (miscounted_matrix c.args.own c.args.wanted passes first c.in-Some.inner.now c.in-Matrix.field-0.items parts differs)

pub returns-in_default-2 : goal.returns-in_default-2
returns-in_default-2 t c = λ passes agrees.
    let parts : List Value = c.deref-part-items.result.now in
    let k : ℕ = c.loop-part.part-index in
    let part : Value = c.part-item.result in
    let cut : drop k parts ≡ part ∷ drop (k + 1) parts =
    drop_more parts k part c.loop-part-test.true ∙ ap (λ v. v ∷ drop (k + 1) parts) (sym c.part-item.is) in
    fitted_alike c.args.own c.args.wanted passes _ _ _ _ None
    c.in-Some.ensures.cases.0
    (ap value_tree c.in-Matrix.is ∙ value_tree-matrix c.in-Matrix.field-0 c.in-Matrix.parts
    ∙ ap (λ vs. matrix c.in-Matrix.field-0.items (values_from vs)) (sym c.deref-part-items.ensures.value))
    (unfitted_matrix c.args.own c.args.wanted passes c.in-Some.first.now c.in-Some.inner.now c.in-Matrix.field-0.items parts
    (one_unfitted c.args.elements.now c.args.own c.args.wanted c.in-Some.inner.now parts k c.loop-part.fitted.items part cut
    c.loop-part.invariant
    (record { same = λ p a. sym (ap (option_map value_tree) c.in_default-2.is) ∙ c.in_ok-part-in-Matrix.ensures p a })
    passes agrees))

pub loop-part-preserved : goal.loop-part-preserved
loop-part-preserved t c =
    let parts : List Value = c.deref-part-items.result.now in
    let k : ℕ = c.loop-part.part-index in
    let part : Value = c.part-item.result in
    let cut : drop k parts ≡ part ∷ drop (k + 1) parts =
    drop_more parts k part c.loop-part-test.true ∙ ap (λ v. v ∷ drop (k + 1) parts) (sym c.part-item.is) in
    subst
    (FitsSoFar c.args.elements.now c.args.own c.args.wanted c.in-Some.inner.now parts (k + 1))
    (sym c.in_ok-push-in-Matrix.ensures.items)
    (one_fitted c.args.elements.now c.args.own c.args.wanted c.in-Some.inner.now parts k c.loop-part.fitted.items part c.in-Some-2.part cut
    c.loop-part.invariant
    (record { same = λ p a. sym (ap (option_map value_tree) c.in-Some-2.is) ∙ c.in_ok-part-in-Matrix.ensures p a }))

pub returns-in_ok-listed-in-Matrix : goal.returns-in_ok-listed-in-Matrix
returns-in_ok-listed-in-Matrix t c = λ passes agrees.
    let first : List ℤ = c.in-Some.first.now in
    let parts : List Value = c.deref-part-items.result.now in
    let done : List Value = c.loop-part.fitted.items in
    let counted : vec_len c.in-Matrix.parts ≡ length parts = search rules in
    let equal : (length first == length parts) ≡ true =
    ap (λ n. length first == n) (sym (c.len.ensures ∙ counted))
    ∙ sym c.has_count.ensures ∙ c.if-not-has_count.false in
    let at_end : c.loop-part.part-index ≡ length parts = omega arith in
    ap Some
    (value_tree-matrix c.in_ok-listed-in-Matrix.field-0 c.loop-part.fitted
    ∙ ap (λ is. matrix is (values_from done)) c.in_ok-listed-in-Matrix.ensures)
    ∙ fitted_alike c.args.own c.args.wanted passes _ _ _ _ _
    c.in-Some.ensures.cases.0
    (ap value_tree c.in-Matrix.is ∙ value_tree-matrix c.in-Matrix.field-0 c.in-Matrix.parts
    ∙ ap (λ vs. matrix c.in-Matrix.field-0.items (values_from vs)) (sym c.deref-part-items.ensures.value))
    (fitted_matrix c.args.elements.now c.args.own c.args.wanted first c.in-Some.inner.now c.in-Matrix.field-0.items parts done equal
    (subst (λ k. FitsSoFar c.args.elements.now c.args.own c.args.wanted c.in-Some.inner.now parts k done) at_end c.loop-part.invariant)
    passes agrees)
