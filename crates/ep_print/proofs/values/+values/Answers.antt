use Rattle.std.proofs.Common.{◌≡◌, ◌++◌, List, codes, refl, sym, ap, ap₂, subst, ◌∙◌, OnOk}
use Rattle.ep_tree.specs.Values.{ValueTree, matrix}
use Rattle.ep_tree.proofs.ViewLemmas.{value_tree-matrix}
use Rattle.ep_print.proofs.Appends.{five}
use Rattle.ep_print.proofs.Matrices.{no_parts, some_parts}
use Rattle.ep_tree.specs.Views.{value_tree, values_from}
use Rattle.ep_tree.specs.declared.values.Scalar.{Scalar}
use Rattle.ep_tree.specs.declared.values.Value.{Value}
use Rattle.ep_print.specs.Values.{scalar_value_text, scalar_value_texts}
use Rattle.ep_print.proofs.Turns.{TextsListed, text_turn, text_turns_end}
use Rattle.ep_print.proofs.values.+values.Goals as goal

parts_listed : (s : Scalar) → TextsListed (λ (vs : List Value). scalar_value_texts s (values_from vs)) (λ (v : Value). scalar_value_text s (value_tree v))
unfolding scalar_value_texts values_from
parts_listed s = record { none = refl; more = λ x xs. refl }

pub push_parts-loop-part-preserved : goal.push_parts-loop-part-preserved
push_parts-loop-part-preserved t c = text_turn _ _ (parts_listed c.args.scalar) (codes ", ") c.loop-part.started c.args.parts.now c.loop-part.part-index c.part-item.result _ _ _ _ c.loop-part-test.true c.part-item.is c.in_ok-push_text_between.ensures c.in_ok-push_scalars.ensures c.loop-part.invariant

pub push_parts-returns : goal.push_parts-returns
push_parts-returns t c = text_turns_end _ _ (parts_listed c.args.scalar) (codes ", ") c.loop-part.started c.args.parts.now c.loop-part.part-index _ _ c.loop-part-test.false c.loop-part.invariant

pub push_matrix-returns-then-is_empty : goal.push_matrix-returns-then-is_empty
push_matrix-returns-then-is_empty t c = c.in_ok-extend_from_slice.ensures.items ∙ ap (λ s. c.args.text.now.items ++ s) (sym (no_parts c.args.scalar c.args.indices.now c.args.parts.now (sym c.if-is_empty.ensures)))

pub push_matrix-returns : goal.push_matrix-returns
push_matrix-returns t c =
    five _ _ _ _ _ _ _ _ _ _ _ c.in_ok-extend_from_slice-2.ensures.items c.in_ok-push_parts.ensures c.in_ok-extend_from_slice-3.ensures.items c.in_ok-push_index_domain.ensures c.in_ok-extend_from_slice-4.ensures.items
    ∙ ap (λ s. c.args.text.now.items ++ s) (sym (some_parts c.args.scalar c.args.indices.now c.args.parts.now (sym c.if-is_empty.ensures)))

pub push_scalars-returns-in-Matrix : goal.push_scalars-returns-in-Matrix
push_scalars-returns-in-Matrix t c =
    let tree : matrix c.deref.result.now (values_from c.deref-in-Matrix.result.now) ≡ value_tree c.args.value.now =
    ap₂ (λ ns vs. matrix ns (values_from vs)) c.deref.ensures.value c.deref-in-Matrix.ensures.value ∙ sym (value_tree-matrix _ _) ∙ ap value_tree (sym c.in-Matrix.is) in
    subst (λ (v : ValueTree). OnOk c.push_matrix.result (c.push_matrix.new.text.items ≡ c.args.text.now.items ++ scalar_value_text c.args.scalar v)) tree c.push_matrix.ensures
