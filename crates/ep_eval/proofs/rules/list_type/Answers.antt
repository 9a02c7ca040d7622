use Rattle.ep_eval.proofs.Words.{Some, sym, ap, ◌∙◌, if◌then◌else◌, list_of_matrices, type_from, Scalar, ValueType}
use Rattle.ep_eval.proofs.DomainTypes.{list_empty, list_matrices, list_mixed, list_numbers}
use Rattle.ep_eval.proofs.ReadSteps.{given}
use Rattle.ep_eval.proofs.rules.list_type.Goals as goal

pub returns-then-is_empty : goal.returns-then-is_empty
returns-then-is_empty c = list_empty c.args.parts.now (sym c.if-is_empty.ensures)

pub returns-then-all_integer : goal.returns-then-all_integer
returns-then-all_integer c =
    ap (λ s. Some (ValueType.Matrix 1 s)) (c.bool_if.ensures ∙ ap (λ b. if b then Scalar.Bool else Scalar.Int) c.all_boolean.ensures)
    ∙ list_numbers c.args.parts.now (sym c.if-is_empty.ensures) (sym c.if-all_integer.ensures)

pub returns-then-not-all_matrix : goal.returns-then-not-all_matrix
returns-then-not-all_matrix c = list_mixed c.args.parts.now (sym c.if-is_empty.ensures) (sym c.if-all_integer.ensures) (sym c.if-not-all_matrix.ensures)

pub returns : goal.returns
returns c =
    given c.list_of_matrices.result _ _ c.list_of_matrices.ensures
    (λ ty h. h ∙ ap (λ s. type_from (list_of_matrices c.args.parts.now s)) c.stated_dimensions.ensures
    ∙ sym (ap type_from (list_matrices c.args.parts.now (sym c.if-is_empty.ensures) (sym c.if-all_integer.ensures) (sym c.if-not-all_matrix.ensures))))
