use Rattle.ep_eval.proofs.Words.{Some, w64, sym, ap, ◌∙◌, arith, to_z-of_z, ints, value_tree-matrix, value_tree-number, number_in, value_tree}
use Rattle.ep_eval.proofs.held.plain_number.Goals as goal

pub returns-in-Number : goal.returns-in-Number
unfolding number_in
returns-in-Number c =
    ap Some (to_z-of_z w64 c.in-Number.number (omega (arith, ints)))
    ∙ ap (λ v. number_in (Some v)) (sym (value_tree-number c.in-Number.number))
    ∙ ap (λ v. number_in (Some (value_tree v))) (sym c.in-Number.is)

pub returns-in-Matrix : goal.returns-in-Matrix
unfolding number_in
returns-in-Matrix c =
    ap (λ v. number_in (Some v)) (sym (value_tree-matrix c.in-Matrix.field-0 c.in-Matrix.field-1))
    ∙ ap (λ v. number_in (Some (value_tree v))) (sym c.in-Matrix.is)
