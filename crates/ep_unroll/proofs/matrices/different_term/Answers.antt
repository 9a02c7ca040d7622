use Rattle.ep_unroll.proofs.Words.{mode_in}
use Rattle.ep_ground.specs.Nodes.{parts_of}
use Rattle.ep_unroll.proofs.FormValues.{asked_of, if_ok}
use Rattle.ep_unroll.proofs.MatrixSteps.{different_term}
use Rattle.ep_unroll.proofs.matrices.different_term.Goals as goal

pub judged-requires : goal.judged-requires
unfolding parts_of
judged-requires c = record { node = c.requires; others = c.in_ok-needed.ensures.known }

pub returns : goal.returns
returns c n cells nodes p e mode count h =
    let old = c.args.arena.now in
    let us = c.in_ok-needed.needed.items in
    if_ok c.judged.result _ _
    (λ t j. different_term n cells nodes old c.judged.new.arena p e c.args.terms.items us t h
    (asked_of n old c.args.count (mode_in c.args.scope) c.deref.result.now c.args.terms.items us c.deref.ensures.value mode count c.in_ok-needed.ensures) j) c.judged.ensures
