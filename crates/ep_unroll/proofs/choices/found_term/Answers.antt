use Rattle.ep_unroll.proofs.Words.{subst, sym, ◌∙◌, IsFound}
use Rattle.ep_unroll.proofs.FormValues.{if_ok}
use Rattle.ep_unroll.proofs.PartReadSteps.{found_picks}
use Rattle.ep_unroll.proofs.choices.found_term.Goals as goal

pub returns-then-is_none : goal.returns-then-is_none
returns-then-is_none c =
    let same = sym c.deref.ensures.value ∙ c.is_none.ensures.none c.if-is_none.true in
    if_ok c.only_term.result _ _
    (λ t h. subst (λ us. IsFound c.args.arena.now c.only_term.new.arena c.args.entries.keys.items c.args.entries.terms.items us t) (sym same) h) c.only_term.ensures

pub returns : goal.returns
returns c =
    if_ok c.pick_term.result _ _
    (λ t put. found_picks c.args.arena.now c.pick_term.new.arena c.args.entries.keys.items c.args.entries.terms.items c.args.indices.items t c.requires.terms c.requires.indices put) c.pick_term.ensures
