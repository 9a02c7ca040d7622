use Rattle.ep_unroll.proofs.Words.{seen_held, env_in, mode_in, expr_tree}
use Rattle.ep_unroll.proofs.MeaningSteps.{fixed_is}
use Rattle.ep_unroll.proofs.fixed.fixed_value.Goals as goal

pub returns-in-Ok : goal.returns-in-Ok
returns-in-Ok c n r =
    fixed_is n (env_in c.args.scope) r (mode_in c.args.scope) (expr_tree c.args.e.now) (seen_held c.in-Ok.seen)
    c.requires c.in-Ok.ensures.value
