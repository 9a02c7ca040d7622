use Rattle.ep_eval.proofs.Words.{ap, sym, ◌∙◌, arith, w64, ints, to_z-of_z, value_tree-matrix, value_tree-number, part_at, value_tree, values_from, part_under}
use Rattle.ep_eval.proofs.reads.part_in.Goals as goal

pub returns-in-Number : goal.returns-in-Number
unfolding part_under
returns-in-Number c = sym (ap (λ v. part_under v c.args.index) (ap value_tree c.in-Number.is ∙ value_tree-number c.in-Number.field-0))

pub returns-in-Matrix : goal.returns-in-Matrix
unfolding part_under
returns-in-Matrix c =
    let own = c.in-Matrix.own in
    let parts = c.in-Matrix.parts in
    c.part_of.ensures
    ∙ ap (part_at c.deref.result.now (values_from c.deref-in-Matrix.result.now)) (to_z-of_z w64 c.args.index (omega (arith, ints)))
    ∙ ap (λ l. part_at l (values_from c.deref-in-Matrix.result.now) c.args.index) c.deref.ensures.value
    ∙ ap (λ l. part_at own.items (values_from l) c.args.index) c.deref-in-Matrix.ensures.value
    ∙ sym (ap (λ v. part_under v c.args.index) (ap value_tree c.in-Matrix.is ∙ value_tree-matrix own parts))
