use Rattle.ep_unroll.proofs.Words.{◌∙◌, mode_in}
use Rattle.ep_ground.specs.Nodes.{parts_of}
use Rattle.ep_unroll.proofs.FormValues.{asked_of, if_ok}
use Rattle.ep_unroll.proofs.SumValues.{exists_is, for_all_is, total_is}
use Rattle.ep_unroll.proofs.quantifiers.finish_quantifier.Goals as goal

pub judged-requires : goal.judged-requires
unfolding parts_of
judged-requires c = record { node = c.requires; others = c.in_ok-needed-in-ForAll.ensures.known }

pub returns-in_ok-needed-in-ForAll : goal.returns-in_ok-needed-in-ForAll
returns-in_ok-needed-in-ForAll c n cells nodes p q name rest ns is mode count domain h =
    let old = c.args.arena.now in
    let new = c.judged.new.arena in
    let ts = c.args.terms.items in
    let us = c.in_ok-needed-in-ForAll.needed.items in
    if_ok c.judged.result _ _
    (λ t j. for_all_is n cells nodes old new p q name rest ns ts us t (is ∙ c.in-ForAll.is) domain h
    (asked_of n old c.args.count (mode_in c.args.scope) c.deref.result.now ts us c.deref.ensures.value mode count c.in_ok-needed-in-ForAll.ensures) j) c.judged.ensures

pub judged-requires-in-Exists : goal.judged-requires-in-Exists
unfolding parts_of
judged-requires-in-Exists c = record { node = c.requires; others = c.in_ok-needed-in-Exists.ensures.known }

pub returns-in_ok-needed-in-Exists : goal.returns-in_ok-needed-in-Exists
returns-in_ok-needed-in-Exists c n cells nodes p q name rest ns is mode count domain h =
    let old = c.args.arena.now in
    let new = c.judged-in-Exists.new.arena in
    let ts = c.args.terms.items in
    let us = c.in_ok-needed-in-Exists.needed.items in
    if_ok c.judged-in-Exists.result _ _
    (λ t j. exists_is n cells nodes old new p q name rest ns ts us t (is ∙ c.in-Exists.is) domain h
    (asked_of n old c.args.count (mode_in c.args.scope) c.deref-in-Exists.result.now ts us c.deref-in-Exists.ensures.value mode count c.in_ok-needed-in-Exists.ensures) j) c.judged-in-Exists.ensures

pub returns-in-Sum : goal.returns-in-Sum
returns-in-Sum c n cells nodes p q name rest ns is mode count domain h =
    if_ok c.sum_term.result _ _
    (λ t put. total_is n cells nodes c.args.arena.now c.sum_term.new.arena p q name rest ns c.args.terms.items t (is ∙ c.in-Sum.is) domain h put) c.sum_term.ensures
