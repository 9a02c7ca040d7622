use Rattle.ep_eval.proofs.Words.{◌≡◌, ap, sym, ◌∙◌, take, arith, map, take_all, value_tree-matrix, as_parts, matrix, value_tree, values_from}
use Rattle.ep_eval.proofs.Lists.{map_more, values_from-map}
use Rattle.ep_eval.proofs.copies.+copy_value.Goals as goal

pub loop-part-preserved : goal.loop-part-preserved
loop-part-preserved t c =
    ap (map value_tree) c.in_ok-push-in-Matrix.ensures.items
    ∙ map_more value_tree c.loop-part.copies.items c.deref-part-items.result.now c.in_ok-copy_value-in-Matrix.field-0 c.part-item.result c.loop-part.part-index
    c.loop-part-test.true c.loop-part.invariant
    (c.in_ok-copy_value-in-Matrix.ensures ∙ ap value_tree c.part-item.is)

pub returns-after-loop-part : goal.returns-after-loop-part
returns-after-loop-part t c =
    let indices = c.in-Matrix.indices in
    let parts = c.in-Matrix.parts in
    let items = c.deref-part-items.result.now in
    let all : take c.loop-part.part-index items ≡ items = take_all c.loop-part.part-index items (omega (arith, c.loop-part-test.false)) in
    value_tree-matrix c.in_ok-indices-in-Matrix.indices c.loop-part.copies
    ∙ ap (λ is. matrix is (values_from c.loop-part.copies.items)) (c.in_ok-indices-in-Matrix.ensures.items ∙ c.as_slice.ensures.value)
    ∙ ap (matrix indices.items)
    (values_from-map c.loop-part.copies.items
    ∙ ap as_parts (c.loop-part.invariant ∙ ap (map value_tree) (all ∙ c.deref-part-items.ensures.value))
    ∙ sym (values_from-map parts.items))
    ∙ sym (value_tree-matrix indices parts)
    ∙ ap value_tree (sym c.in-Matrix.is)
