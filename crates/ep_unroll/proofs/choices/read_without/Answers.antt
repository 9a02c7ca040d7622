use Rattle.ep_unroll.proofs.Words.{◌≡◌, None, length, refl, subst, sym, IfOk, env_in, read_result, expr_tree, IsWorth, AreTerms, worth}
use Rattle.ep_unroll.proofs.SlotSteps.{without_done}
use Rattle.ep_unroll.proofs.choices.read_without.Goals as goal

pub returns : goal.returns
unfolding AreTerms IsWorth
returns c n nodes mid p m indices mode tree grows none =
    without_done n (env_in c.args.scope) nodes mid p m (expr_tree c.args.e.now) indices c.in_ok-ty.ty c.finish_read.result tree c.in_ok-ty.ensures grows none
    (λ numbers. subst (λ k. IfOk c.finish_read.result (λ x. worth mid numbers x ≡ read_result k c.in_ok-ty.ty None)) (sym mode) (c.finish_read.ensures.worth mid numbers None refl)) (c.finish_read.ensures.terms (length mid) tt)
