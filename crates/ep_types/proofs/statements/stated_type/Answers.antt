use Rattle.std.proofs.Common.{subst}
use Rattle.ep_tree.specs.Types.{Context}
use Rattle.ep_tree.specs.Views.{expr_tree}
use Rattle.ep_types_rules.specs.Concluding.{SaysOfCheck}
use Rattle.ep_types.specs.Checking.{check}
use Rattle.ep_types.proofs.statements.stated_type.Goals as goal

pub returns : goal.returns
returns c =
    let P : Context → Type 0 = λ x. SaysOfCheck (λ t. t) c.type_of.result (check x c.args.decisions (expr_tree c.args.e.now)) in
    subst P c.new-names.ensures c.type_of.ensures.says
