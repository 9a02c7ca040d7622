use Rattle.ep_types.proofs.NameSteps.{may_always, may_here, may_not, wrong_category_is}
use Rattle.ep_types.proofs.names.may_stand.Goals as goal

pub returns-then-not-decision : goal.returns-then-not-decision
returns-then-not-decision c = may_always c.args.decisions c.args.place c.args.ty c.args.decision c.if-not-decision.true

pub returns-then-decisions : goal.returns-then-decisions
returns-then-decisions c = may_here c.args.decisions c.args.place c.args.ty c.args.decision c.if-decisions.true

pub returns : goal.returns
returns c =
    wrong_category_is c.args.place _ (may_not c.args.decisions c.args.place c.args.ty c.args.decision c.if-not-decision.false c.if-decisions.false)
