use Rattle.ep_unroll.proofs.Words.{ap, sym, subst, ◌∙◌, ◌∷◌, ◌++◌, [], length, ◌<◌, All, env_of, with_all, expr_tree, numbering_of, Puts}
use Rattle.ep_ground.specs.Nodes.{all_of, parts_of}
use Rattle.ep_unroll.proofs.ClauseSteps.{clause_is}
use Rattle.ep_unroll.proofs.FormSteps.{one_known}
use Rattle.ep_unroll.proofs.FormValues.{if_ok}
use Rattle.ep_unroll.proofs.clauses.clause_term.Goals as goal

pub put-requires : goal.put-requires
unfolding parts_of
put-requires c =
    subst (All (λ part. part < length c.term_of.new.arena)) (sym (c.in_ok-push.ensures.items ∙ ap (λ xs. xs ++ c.in_ok-term.term ∷ []) c.new-parts.ensures.items))
    (one_known c.in_ok-term.term (length c.term_of.new.arena) c.in_ok-term.ensures.known)

pub returns : goal.returns
unfolding with_all
returns c =
    if_ok c.put.result _ _
    (λ t put. clause_is (numbering_of c.args.env.now.mode c.args.table.now) (env_of c.args.env.now) c.args.arena.now c.term_of.new.arena c.put.new.arena (expr_tree c.args.clause.now) c.in_ok-term.term t c.in_ok-term.ensures
    (subst (λ ts. Puts c.term_of.new.arena c.put.new.arena (all_of ts) t) (c.in_ok-push.ensures.items ∙ ap (λ xs. xs ++ c.in_ok-term.term ∷ []) c.new-parts.ensures.items) put)) c.put.ensures
