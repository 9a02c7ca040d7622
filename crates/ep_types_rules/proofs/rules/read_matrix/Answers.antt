use Rattle.std.proofs.Common.{sym, ap, ◌∙◌, ◌+◌, ◌-◌, length, arith}
use Rattle.std.specs.List.{list_all}
use Rattle.ep_tree.specs.Types.{gives, is_integer, left_type}
use Rattle.ep_types_rules.proofs.RuleSteps.{ill_typed_is, reads_beyond, reads_within, says_same}
use Rattle.ep_types_rules.specs.Concluding.{conclude}
use Rattle.ep_types_rules.proofs.rules.read_matrix.Goals as goal

pub returns-then-stated-dims : goal.returns-then-stated-dims
returns-then-stated-dims c = ill_typed_is c.args.place _ (reads_beyond c.args.place _ (list_all is_integer c.args.indices.now) (length c.args.indices.now + c.args.slices) c.args.dims (omega (arith, c.if-stated-dims.true)))

pub returns-then-slices-others : goal.returns-then-slices-others
returns-then-slices-others c = ill_typed_is c.args.place _ (reads_beyond c.args.place _ (list_all is_integer c.args.indices.now) (length c.args.indices.now + c.args.slices) c.args.dims (omega (arith, c.if-stated-dims.false, c.if-slices-others.true)))

pub returns : goal.returns
returns c =
    says_same c.gives.result _ _
    (ap (conclude c.args.place) (reads_within _ (list_all is_integer c.args.indices.now) (length c.args.indices.now + c.args.slices) c.args.dims (omega (arith, c.if-stated-dims.false, c.if-slices-others.false)))
    ∙ ap (λ b. conclude c.args.place (gives (left_type (c.args.dims - length c.args.indices.now) c.args.of) b)) (sym c.all_integer.ensures) ∙ ap (λ t. conclude c.args.place (gives t c.all_integer.result)) (sym c.left_type.ensures))
    c.gives.ensures
