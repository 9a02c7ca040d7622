use Rattle.std.proofs.Common.{◌≡◌, ◌∙◌, ◌&&◌, Some, length, ap, sym, arith, to_z, of_z, w64, true, false}
use Rattle.std.proofs.lemmas.Bool.Decides.{nat_tests}
use Rattle.std.proofs.lemmas.Int.{ints, to_z-of_z}
use Rattle.ep_tree.proofs.ViewLemmas.{value_tree-number}
use Rattle.ep_tree.specs.Values.{scalar_fits}
use Rattle.ep_tree.specs.Views.{value_tree}
use Rattle.ep_tree.specs.declared.values.Value.{Number}
use Rattle.ep_instance_parts.proofs.FitSteps.{deep_number, flat_number}
use Rattle.ep_instance_parts.proofs.fitting.fit_number.Goals as goal

pub returns-then-not-is_empty : goal.returns-then-not-is_empty
returns-then-not-is_empty c = λ passes agrees.
    deep_number c.args.own c.args.wanted passes c.args.indices.now c.args.number
    (λ (none : length c.args.indices.now ≡ 0). grind (arith, nat_tests, none, c.is_empty.ensures, c.if-not-is_empty.true))

pub returns-then-number_fits : goal.returns-then-number_fits
returns-then-number_fits c = λ passes agrees.
    let e : to_z w64 (of_z w64 c.args.number) ≡ c.args.number = to_z-of_z w64 c.args.number (omega (arith, ints)) in
    let flat : length c.args.indices.now ≡ 0 = grind (arith, nat_tests, c.is_empty.ensures, c.if-not-is_empty.false) in
    ap (λ m. Some (value_tree (Number m))) e
    ∙ ap Some (value_tree-number c.args.number)
    ∙ flat_number c.args.own c.args.wanted passes c.args.indices.now c.args.number true flat
    (sym c.if-number_fits.true ∙ c.number_fits.ensures passes agrees ∙ ap (λ m. scalar_fits c.args.own c.args.wanted && passes m) e)

pub returns-else-number_fits : goal.returns-else-number_fits
returns-else-number_fits c = λ passes agrees.
    let e : to_z w64 (of_z w64 c.args.number) ≡ c.args.number = to_z-of_z w64 c.args.number (omega (arith, ints)) in
    let flat : length c.args.indices.now ≡ 0 = grind (arith, nat_tests, c.is_empty.ensures, c.if-not-is_empty.false) in
    flat_number c.args.own c.args.wanted passes c.args.indices.now c.args.number false flat
    (sym c.if-number_fits.false ∙ c.number_fits.ensures passes agrees ∙ ap (λ m. scalar_fits c.args.own c.args.wanted && passes m) e)
