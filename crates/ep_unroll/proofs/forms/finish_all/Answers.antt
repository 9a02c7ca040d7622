use Rattle.ep_unroll.proofs.Words.{sym, subst, mode_in, truths_node, IsTermOf}
use Rattle.ep_ground.specs.Nodes.{parts_of}
use Rattle.ep_unroll.proofs.FormValues.{and_term, asked_of, if_ok, or_term}
use Rattle.ep_unroll.proofs.forms.finish_all.Goals as goal

pub judged-requires : goal.judged-requires
unfolding parts_of
judged-requires c = record { node = c.requires; others = c.in_ok-needed.ensures.known }

pub judged-requires-else-every : goal.judged-requires-else-every
unfolding parts_of
judged-requires-else-every c = record { node = c.requires; others = c.in_ok-needed.ensures.known }

pub returns-then-every : goal.returns-then-every
unfolding truths_node
returns-then-every c n cells nodes p es mode count h =
    let old = c.args.arena.now in
    let new = c.judged.new.arena in
    let ts = c.args.parts.items in
    let us = c.in_ok-needed.needed.items in
    if_ok c.judged.result _ _
    (λ t j. subst (λ b. IsTermOf n cells nodes new (truths_node p b es) t) (sym c.if-every.true)
    (and_term n cells nodes old new p es ts us t h
    (asked_of n old c.args.count (mode_in c.args.scope) c.deref.result.now ts us c.deref.ensures.value mode count c.in_ok-needed.ensures) j)) c.judged.ensures

pub returns-else-every : goal.returns-else-every
unfolding truths_node
returns-else-every c n cells nodes p es mode count h =
    let old = c.args.arena.now in
    let new = c.judged-else-every.new.arena in
    let ts = c.args.parts.items in
    let us = c.in_ok-needed.needed.items in
    if_ok c.judged-else-every.result _ _
    (λ t j. subst (λ b. IsTermOf n cells nodes new (truths_node p b es) t) (sym c.if-every.false)
    (or_term n cells nodes old new p es ts us t h
    (asked_of n old c.args.count (mode_in c.args.scope) c.deref.result.now ts us c.deref.ensures.value mode count c.in_ok-needed.ensures) j)) c.judged-else-every.ensures
