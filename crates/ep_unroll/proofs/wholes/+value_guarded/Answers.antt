use Rattle.ep_unroll.proofs.Words.{◌≡◌, ◌++◌, ◌∙◌, Some, ap, arith, length, of_z, sym, to_z, w64, ints, to_z-of_z, value_tree-matrix, value_tree-number, single, value_tree}
use Rattle.ep_unroll.proofs.FormValues.{if_ok}
use Rattle.ep_unroll.proofs.LeftSteps.{values_of_all}
use Rattle.ep_unroll.proofs.WholeSteps.{matrix_whole, value_parts, whole_same}
use Rattle.ep_unroll.proofs.wholes.+value_guarded.Goals as goal

pub returns-in-Number : goal.returns-in-Number
returns-in-Number t c =
    let n = c.in-Number.number in
    let word : to_z w64 (of_z w64 n) ≡ n = to_z-of_z w64 n (omega (arith, ints)) in
    if_ok c.number_guarded.result _ _
    (λ x h. whole_same c.args.arena.now c.number_guarded.new.arena c.args.others.items _ (λ numbers. Some (value_tree c.args.value.now)) x
    (λ numbers. ap (λ m. Some (single m)) word ∙ ap Some (sym (value_tree-number n)) ∙ ap (λ v. Some (value_tree v)) (sym c.in-Number.is)) h) c.number_guarded.ensures

pub returns-in_ok-extend_from_slice-in-Matrix : goal.returns-in_ok-extend_from_slice-in-Matrix
returns-in_ok-extend_from_slice-in-Matrix t c =
    let old = c.args.arena.now in
    let new = c.value_guarded.new.arena in
    let own = c.in-Matrix.own in
    let values = c.in-Matrix.values in
    let later = c.in-Some.later.now in
    matrix_whole old new c.args.others.items own.items (λ numbers. Some (value_tree c.in-Some.part.now)) (λ numbers. Some (value_tree c.args.value.now)) (λ numbers. values_of_all later) c.extend_from_slice.new.self
    c.in_ok-parts-in-Matrix.parts c.in_ok-first-in-Matrix.first c.in_ok-first-in-Matrix.ensures
    (c.in_ok-extend_from_slice-in-Matrix.ensures.items ∙ ap (λ l. l ++ c.deref-in-Matrix.result.now) c.new-indices.ensures.items ∙ c.deref-in-Matrix.ensures.value)
    (λ numbers. c.in_ok-parts-in-Matrix.ensures.worths new numbers) (c.in_ok-parts-in-Matrix.ensures.terms (length new) c.in_ok-first-in-Matrix.ensures.known)
    (λ numbers. value_parts own.items c.in-Some.part.now later values.items (sym c.deref.ensures.value ∙ c.in-Some.ensures.cases.0) ∙ ap Some (sym (value_tree-matrix own values)) ∙ ap (λ v. Some (value_tree v)) (sym c.in-Matrix.is))
