use Rattle.ep_unroll.proofs.Words.{Some, ap, length, sym, ◌∙◌, ◌∷◌, [], option_map, mode_in}
use Rattle.ep_ground.specs.Nodes.{parts_of}
use Rattle.ep_unroll.proofs.FormSteps.{one_known}
use Rattle.ep_unroll.proofs.FormValues.{asked, if_ok}
use Rattle.ep_unroll.proofs.SetSteps.{listed_is, listed_none}
use Rattle.ep_unroll.proofs.sets.listed_member.Goals as goal

pub judged-requires : goal.judged-requires
unfolding parts_of
judged-requires c = record { node = one_known c.args.part (length c.args.arena.now) c.requires; others = c.in_ok-needed-in-Some.ensures.known }

pub returns-in_ok-needed-in-Some : goal.returns-in_ok-needed-in-Some
returns-in_ok-needed-in-Some c n cells nodes p e f mode count list h =
    let old = c.args.arena.now in
    let us = c.in_ok-needed-in-Some.needed.items in
    if_ok c.judged.result _ _
    (λ t j. listed_is n cells nodes old c.judged.new.arena p e f c.deref.result.now c.in_ok-set-in-Some.set c.args.part t us
    (λ r. list r ∙ ap (option_map (λ v. v.items)) c.in-Some.is ∙ ap Some (sym c.deref.ensures.value)) c.in_ok-set-in-Some.ensures h
    (asked n old c.args.count (mode_in c.args.scope) (c.args.part ∷ []) us mode count c.in_ok-needed-in-Some.ensures) j) c.judged.ensures

pub returns-in-None : goal.returns-in-None
returns-in-None c n cells nodes p e f mode count list h =
    if_ok c.no_truth.result _ _
    (λ t own. listed_none n cells nodes c.args.arena.now c.no_truth.new.arena p e f (mode_in c.args.scope) c.args.part t mode (λ r. list r ∙ ap (option_map (λ v. v.items)) c.in-None.is) h own)
    c.no_truth.ensures
