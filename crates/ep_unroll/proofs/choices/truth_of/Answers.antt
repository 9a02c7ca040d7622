use Rattle.ep_unroll.proofs.Words.{length, subst, sym, ap, ◌<◌, ◌∙◌, ◌∷◌, [], ◌++◌, All, Puts}
use Rattle.ep_ground.specs.Nodes.{all_of, parts_of}
use Rattle.ep_unroll.proofs.FormSteps.{one_known}
use Rattle.ep_unroll.proofs.FormValues.{if_ok}
use Rattle.ep_unroll.proofs.choices.truth_of.Goals as goal

pub put-requires : goal.put-requires
unfolding parts_of
put-requires c =
    subst (All (λ t. t < length c.args.arena.now)) (sym (c.in_ok-push.ensures.items ∙ ap (λ l. l ++ c.args.term ∷ []) c.new-parts.ensures.items))
    (one_known c.args.term (length c.args.arena.now) c.requires)

pub returns : goal.returns
returns c =
    if_ok c.put.result _ _
    (λ t put. subst (λ l. Puts c.args.arena.now c.put.new.arena (all_of l) t) (c.in_ok-push.ensures.items ∙ ap (λ l. l ++ c.args.term ∷ []) c.new-parts.ensures.items) put) c.put.ensures
