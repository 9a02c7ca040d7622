use Rattle.ep_unroll.proofs.Words.{length, sym, ◌∙◌}
use Rattle.ep_ground.specs.Nodes.{parts_of}
use Rattle.ep_unroll.proofs.FormSteps.{none_known}
use Rattle.ep_unroll.proofs.FormValues.{if_ok}
use Rattle.ep_unroll.proofs.PartReadSteps.{found_alone, found_nowhere}
use Rattle.ep_unroll.proofs.choices.only_term.Goals as goal

pub put-requires : goal.put-requires
unfolding parts_of
put-requires c = none_known (length c.args.arena.now)

pub returns-then-is_none : goal.returns-then-is_none
returns-then-is_none c =
    if_ok c.put.result _ _
    (λ t put. found_nowhere c.args.arena.now c.put.new.arena c.args.entries.now.keys.items c.args.entries.now.terms.items t (sym c.deref.ensures.value ∙ c.is_none.ensures.none c.if-is_none.true) put) c.put.ensures

pub returns-in-Some : goal.returns-in-Some
returns-in-Some c = found_alone c.args.arena.now c.args.entries.now.keys.items c.args.entries.now.terms.items c.in-Some.term c.requires c.in-Some.ensures
