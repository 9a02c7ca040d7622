use Rattle.std.proofs.Common.{Ok, sym, ap, ◌∙◌, if◌then◌else◌}
use Rattle.ep_tree.specs.Types.{list_of_matrices}
use Rattle.ep_tree.specs.declared.values.Scalar.{Scalar}
use Rattle.ep_tree.specs.declared.values.ValueType.{ValueType}
use Rattle.ep_types_rules.proofs.RuleSteps.{ill_typed_is, list_empty, list_matrices, list_mixed, list_numbers, over_false, over_true, says_same}
use Rattle.ep_types_rules.specs.Concluding.{conclude}
use Rattle.ep_types_rules.proofs.rules.list.Goals as goal

pub returns-then-not-scalar : goal.returns-then-not-scalar
returns-then-not-scalar c = ill_typed_is c.args.place _ (over_false c.args.place c.args.scalar _ c.if-not-scalar.true)

pub returns-then-is_empty : goal.returns-then-is_empty
returns-then-is_empty c = ap (conclude c.args.place) (over_true c.args.scalar _ _ c.if-not-scalar.false (list_empty c.args.parts.now (sym c.if-is_empty.ensures)))

pub returns-then-all_integer : goal.returns-then-all_integer
returns-then-all_integer c =
    ap (conclude c.args.place) (over_true c.args.scalar _ _ c.if-not-scalar.false (list_numbers c.args.parts.now (sym c.if-is_empty.ensures) (sym c.if-all_integer.ensures)))
    ∙ ap (λ s. Ok (ValueType.Matrix 1 s)) (ap (λ b. if b then Scalar.Bool else Scalar.Int) (sym c.all_boolean.ensures) ∙ sym c.bool_if.ensures)

pub returns-then-not-all_matrix : goal.returns-then-not-all_matrix
returns-then-not-all_matrix c =
    ill_typed_is c.args.place _
    (ap (conclude c.args.place) (over_true c.args.scalar _ _ c.if-not-scalar.false (list_mixed c.args.parts.now (sym c.if-is_empty.ensures) (sym c.if-all_integer.ensures) (sym c.if-not-all_matrix.ensures))))

pub returns : goal.returns
returns c =
    says_same c.list_of_matrices.result _ _
    (ap (conclude c.args.place)
    (over_true c.args.scalar _ _ c.if-not-scalar.false
    (list_matrices c.args.parts.now (sym c.if-is_empty.ensures) (sym c.if-all_integer.ensures) (sym c.if-not-all_matrix.ensures)
    ∙ ap (λ s. list_of_matrices c.args.parts.now s) (sym c.stated_dimensions.ensures))))
    c.list_of_matrices.ensures
