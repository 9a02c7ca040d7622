use Rattle.ep_unroll.proofs.Words.{env_in, mode_in, domain_tree, sym}
use Rattle.ep_unroll.proofs.MeaningSteps.{numbers_are}
use Rattle.ep_unroll.proofs.fixed.fixed_numbers.Goals as goal

pub returns-in-Ok-clause-kept : goal.returns-in-Ok-clause-kept
returns-in-Ok-clause-kept c n r =
    numbers_are n (env_in c.args.scope) r (mode_in c.args.scope) (domain_tree c.args.d.now) c.in-Ok.set
    (c.is_fixed_domain.ensures c.if-not-is_fixed_domain.false) (sym c.in-Ok.ensures.value)
