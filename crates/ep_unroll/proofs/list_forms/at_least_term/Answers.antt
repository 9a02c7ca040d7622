use Rattle.ep_unroll.proofs.Words.{ap, arith, ◌∙◌, option_map, mode_in}
use Rattle.ep_ground.specs.Nodes.{parts_of}
use Rattle.ep_unroll.proofs.FormValues.{asked_of, if_ok}
use Rattle.ep_unroll.proofs.ListFormValues.{at_least_differ, at_least_is, at_least_no_counts, at_least_no_values}
use Rattle.ep_unroll.proofs.list_forms.at_least_term.Goals as goal

pub judged-requires : goal.judged-requires
unfolding parts_of
judged-requires c = record { node = c.requires; others = c.in_ok-needed-in-Some-values.ensures.known }

pub returns-in_default : goal.returns-in_default
returns-in_default c n cells nodes p e f g mode count h counts values =
    if_ok c.no_truth.result _ _
    (λ t own. at_least_no_counts n cells nodes c.args.arena.now c.no_truth.new.arena p e f g (mode_in c.args.scope) t mode h.grows (λ r. counts r ∙ ap (option_map (λ v. v.items)) c.in_default.is) own)
    c.no_truth.ensures

pub returns-then-many-told : goal.returns-then-many-told
returns-then-many-told c n cells nodes p e f g mode count h counts values =
    if_ok c.no_truth-then-many-told.result _ _
    (λ t own. at_least_differ n cells nodes c.args.arena.now c.no_truth-then-many-told.new.arena p e f g c.in-Some.bounds.items c.in-Some-values.own.items (mode_in c.args.scope) t mode h.grows
    (λ r. counts r ∙ ap (option_map (λ v. v.items)) c.in-Some.is) (λ r. values r ∙ ap (option_map (λ v. v.items)) c.in-Some-values.is)
    (λ same. grind (arith, same, c.if-many-told.true, c.len-many.ensures, c.len-told.ensures)) own) c.no_truth-then-many-told.ensures

pub returns-in_ok-needed-in-Some-values : goal.returns-in_ok-needed-in-Some-values
returns-in_ok-needed-in-Some-values c n cells nodes p e f g mode count h counts values =
    let old = c.args.arena.now in
    let ts = c.args.terms.items in
    let us = c.in_ok-needed-in-Some-values.needed.items in
    if_ok c.judged.result _ _
    (λ t j. at_least_is n cells nodes old c.judged.new.arena p e f g ts us c.in-Some.bounds.items c.in-Some-values.own.items t h
    (λ r. counts r ∙ ap (option_map (λ v. v.items)) c.in-Some.is) (λ r. values r ∙ ap (option_map (λ v. v.items)) c.in-Some-values.is)
    (grind (arith, c.if-many-told.false, c.len-many.ensures, c.len-told.ensures))
    (asked_of n old c.args.count (mode_in c.args.scope) c.deref.result.now ts us c.deref.ensures.value mode count c.in_ok-needed-in-Some-values.ensures) j) c.judged.ensures

pub returns-in-None : goal.returns-in-None
returns-in-None c n cells nodes p e f g mode count h counts values =
    if_ok c.no_truth-in-None.result _ _
    (λ t own. at_least_no_values n cells nodes c.args.arena.now c.no_truth-in-None.new.arena p e f g (mode_in c.args.scope) t mode h.grows (λ r. values r ∙ ap (option_map (λ v. v.items)) c.in-None.is) own)
    c.no_truth-in-None.ensures
