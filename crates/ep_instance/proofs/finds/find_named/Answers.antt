use Rattle.std.proofs.Common.{ap, sym, ◌∙◌}
use Rattle.ep_tree.specs.Environments.{shape_type}
use Rattle.ep_instance.proofs.FindSteps.{find_is, find_shaped}
use Rattle.ep_instance.proofs.finds.find_named.Goals as goal

pub invariant_of-result : goal.invariant_of-result
invariant_of-result c =
    record { shaped = find_shaped c.args.shape.now.scalar _ _ (c.type_of_shape-ty.ensures ∙ ap (shape_type c.args.shape.now.scalar) (c.deref.ensures.value ∙ sym (c.in_ok-indices.ensures ∙ c.deref-2.ensures.value))) }

pub returns : goal.returns
returns c =
    find_is _ _ _ _ c.args.shape.now c.args.name.now (c.in_ok-name.ensures.copied ∙ c.text.ensures.text)
    (c.type_of_shape-ty.ensures ∙ ap (shape_type c.args.shape.now.scalar) c.deref.ensures.value)
    (c.in_ok-indices.ensures ∙ c.deref-2.ensures.value) c.in_ok-values.ensures
