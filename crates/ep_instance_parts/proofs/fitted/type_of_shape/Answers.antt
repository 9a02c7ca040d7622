use Rattle.std.proofs.Common.{◌≡◌, length, arith, ap, sym, ◌∙◌}
use Rattle.std.proofs.lemmas.Bool.Decides.{nat_tests}
use Rattle.ep_tree.specs.Types.{of_scalar}
use Rattle.ep_instance_parts.proofs.ListedSteps.{matrix_type, scalar_type}
use Rattle.ep_instance_parts.proofs.fitted.type_of_shape.Goals as goal

pub returns-then-not-is_empty : goal.returns-then-not-is_empty
returns-then-not-is_empty c =
    matrix_type c.args.scalar c.args.indices.now
    (λ (none : length c.args.indices.now ≡ 0). grind (arith, nat_tests, none, c.is_empty.ensures, c.if-not-is_empty.true))

pub returns-in-Bool : goal.returns-in-Bool
unfolding of_scalar
returns-in-Bool c =
    let flat : length c.args.indices.now ≡ 0 = grind (arith, nat_tests, c.is_empty.ensures, c.if-not-is_empty.false) in
    sym (ap of_scalar c.in-Bool.is) ∙ scalar_type c.args.scalar c.args.indices.now flat

pub returns-in-Int : goal.returns-in-Int
unfolding of_scalar
returns-in-Int c =
    let flat : length c.args.indices.now ≡ 0 = grind (arith, nat_tests, c.is_empty.ensures, c.if-not-is_empty.false) in
    sym (ap of_scalar c.in-Int.is) ∙ scalar_type c.args.scalar c.args.indices.now flat
