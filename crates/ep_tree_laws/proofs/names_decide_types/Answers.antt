use Rattle.ep_tree_laws.proofs.Deciding.{domain_kept, expression_kept, lacking}
use Rattle.ep_tree_laws.proofs.names_decide_types.Goals as goal

pub returns-clause-types : goal.returns-clause-types
returns-clause-types c decisions others context other kept e none = (expression_kept context other decisions others kept e none).0

pub returns-clause-faults : goal.returns-clause-faults
returns-clause-faults c decisions others context other kept e none = (expression_kept context other decisions others kept e none).1

pub returns-clause-domain_types : goal.returns-clause-domain_types
returns-clause-domain_types c context other kept may_open d none = (domain_kept context other kept may_open d none).0

pub returns-clause-domain_faults : goal.returns-clause-domain_faults
returns-clause-domain_faults c context other kept may_open d none = (domain_kept context other kept may_open d none).1

pub returns-clause-not_needed : goal.returns-clause-not_needed
returns-clause-not_needed c context other lacks = lacking context other lacks
