use Rattle.ep_unroll.proofs.Words.{◌∷◌, [], length, mode_in}
use Rattle.ep_ground.specs.Nodes.{parts_of}
use Rattle.ep_unroll.proofs.FormSteps.{one_known}
use Rattle.ep_unroll.proofs.FormValues.{asked, if_ok, not_term}
use Rattle.ep_unroll.proofs.forms.negation.Goals as goal

pub judged-requires : goal.judged-requires
unfolding parts_of
judged-requires c = record { node = one_known c.args.part (length c.args.arena.now) c.requires; others = c.in_ok-needed.ensures.known }

pub returns : goal.returns
returns c n cells nodes p e mode count h =
    let old = c.args.arena.now in
    let us = c.in_ok-needed.needed.items in
    if_ok c.judged.result _ _
    (λ t j. not_term n cells nodes old c.judged.new.arena p e c.args.part t us h
    (asked n old c.args.count (mode_in c.args.scope) (c.args.part ∷ []) us mode count c.in_ok-needed.ensures) j) c.judged.ensures
