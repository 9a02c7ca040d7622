use Rattle.ep_unroll.proofs.Words.{sym, subst, ◌∙◌, ◌∷◌, [], length, ◌<◌, All, mode_in}
use Rattle.ep_unroll.proofs.FormSteps.{one_known}
use Rattle.ep_unroll.proofs.FormValues.{if_ok}
use Rattle.ep_unroll.proofs.TruthSteps.{none_needed, those_needed}
use Rattle.ep_unroll.proofs.truths.needed_part.Goals as goal

pub partial_terms-requires : goal.partial_terms-requires
partial_terms-requires c =
    subst (All (λ t. t < length c.args.arena.now)) (sym (c.deref.ensures.value ∙ c.in_ok-parts-in-Strict.ensures))
    (one_known c.args.part (length c.args.arena.now) c.requires)

pub returns-in-Relational : goal.returns-in-Relational
returns-in-Relational c =
    none_needed c.args.arena.now c.args.count (mode_in c.args.scope) (c.args.part ∷ []) c.new.result.items (sym c.mode.ensures.mode ∙ c.in-Relational.is) c.new.ensures.items

pub returns-in_ok-parts-in-Strict : goal.returns-in_ok-parts-in-Strict
returns-in_ok-parts-in-Strict c =
    if_ok c.partial_terms.result _ _
    (λ us h. those_needed c.args.arena.now c.args.count (mode_in c.args.scope) (c.args.part ∷ []) c.deref.result.now us.items (sym c.mode.ensures.mode ∙ c.in-Strict.is)
    (c.deref.ensures.value ∙ c.in_ok-parts-in-Strict.ensures) h) c.partial_terms.ensures
