use Rattle.ep_size.proofs.Words.{subst, refl, no_runs, plain_span, Hulls}
use Rattle.ep_size.proofs.ReadSteps.{number_gone, number_whole}
use Rattle.ep_size.proofs.reads.number_left.Goals as goal

pub returns-in-Some : goal.returns-in-Some
returns-in-Some c = subst (Hulls c.new.result) (number_gone c.args.indices.now _ _ (plain_span c.args.span) c.in-Some.ensures.cases.0) c.new.ensures

pub returns-in-None : goal.returns-in-None
returns-in-None c =
    subst (Hulls c.repeated.result) (number_whole c.args.indices.now (plain_span c.args.span) (no_runs c.args.indices.now c.in-None.ensures.cases))
    (c.repeated.ensures 1 refl)
