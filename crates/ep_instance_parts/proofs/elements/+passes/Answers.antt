use Rattle.std.proofs.Common.{◌≡◌, ◌∙◌, ap, sym, w64, to_z, of_z, arith}
use Rattle.std.proofs.lemmas.Int.{ints, to_z-of_z}
use Rattle.ep_base.specs.Numbers.{has_number}
use Rattle.ep_instance_parts.specs.Elements.{element_passes}
use Rattle.ep_instance_parts.proofs.Tests.{has_number_from_test}
use Rattle.ep_instance_parts.proofs.elements.+passes.Goals as goal

pub returns-in-Within : goal.returns-in-Within
unfolding element_passes
returns-in-Within t c =
    let e : to_z w64 (of_z w64 c.args.number) ≡ c.args.number = to_z-of_z w64 c.args.number (omega (arith, ints)) in
    has_number_from_test c.has.result _ _ c.has.ensures
    ∙ ap (has_number _) e
    ∙ ap (λ elements. element_passes elements c.args.number) (sym c.in-Within.is)
