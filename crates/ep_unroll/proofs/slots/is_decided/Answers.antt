use Rattle.ep_unroll.proofs.Words.{subst, sym, env_in, decisions_in, IsFreeIndex}
use Rattle.ep_unroll.proofs.slots.is_decided.Goals as goal

pub returns-in-Some : goal.returns-in-Some
returns-in-Some c h = subst (IsFreeIndex (decisions_in (env_in c.args.scope))) (sym c.in-Some.is) (c.is_fixed.ensures h)

pub returns-in-None : goal.returns-in-None
returns-in-None c h = subst (IsFreeIndex (decisions_in (env_in c.args.scope))) (sym c.in-None.is) tt
