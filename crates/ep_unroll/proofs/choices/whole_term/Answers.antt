use Rattle.ep_unroll.proofs.Words.{sym, ◌∙◌, ◌∷◌, [], length, ◌<◌, All-append}
use Rattle.ep_ground.specs.Nodes.{parts_of}
use Rattle.ep_unroll.proofs.FormSteps.{one_known}
use Rattle.ep_unroll.proofs.FormValues.{if_ok}
use Rattle.ep_unroll.proofs.PartReadSteps.{whole_alone, whole_put}
use Rattle.ep_unroll.proofs.choices.whole_term.Goals as goal

pub returns-then-is_none : goal.returns-then-is_none
returns-then-is_none c = whole_alone c.args.arena.now c.args.others.items c.args.term c.requires.term (sym c.deref.ensures.value ∙ c.is_none.ensures.none c.if-is_none.true)

pub put-requires : goal.put-requires
unfolding parts_of
put-requires c =
    All-append (λ t. t < length c.args.arena.now) (c.args.term ∷ []) c.args.others.items (one_known c.args.term (length c.args.arena.now) c.requires.term) c.requires.others

pub returns : goal.returns
returns c =
    if_ok c.put.result _ _ (λ t put. whole_put c.args.arena.now c.put.new.arena c.args.others.items c.args.term t c.requires.term c.requires.others put) c.put.ensures
