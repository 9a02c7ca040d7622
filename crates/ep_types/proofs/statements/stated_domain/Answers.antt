use Rattle.std.proofs.Common.{subst}
use Rattle.ep_tree.specs.Types.{Context}
use Rattle.ep_tree.specs.Views.{domain_tree}
use Rattle.ep_types_rules.specs.Concluding.{SaysOfCheck}
use Rattle.ep_types.specs.Checking.{check_domain}
use Rattle.ep_types.proofs.statements.stated_domain.Goals as goal

pub returns : goal.returns
returns c =
    let P : Context → Type 0 = λ x. SaysOfCheck (λ t. t) c.domain_type.result (check_domain x c.args.may_open (domain_tree c.args.domain.now)) in
    subst P c.new-names.ensures c.domain_type.ensures.says
