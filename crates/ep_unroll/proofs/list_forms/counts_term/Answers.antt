use Rattle.ep_unroll.proofs.Words.{ap, arith, length, ◌∙◌, ◌++◌, ◌<◌, option_map, All-append, mode_in}
use Rattle.ep_ground.specs.Nodes.{parts_of}
use Rattle.ep_unroll.proofs.FormValues.{asked_of, if_ok}
use Rattle.ep_unroll.proofs.ListFormValues.{counts_are, counts_differ, no_counts}
use Rattle.ep_unroll.proofs.list_forms.counts_term.Goals as goal

pub judged-requires : goal.judged-requires
unfolding parts_of
judged-requires c = record {
  node = All-append (λ t. t < length c.args.arena.now) c.args.terms.items c.args.counts.items c.requires.one c.requires.other;
  others = c.in_ok-needed-in-Some.ensures.known;
}

pub returns-then-many-told : goal.returns-then-many-told
returns-then-many-told c n cells nodes p e f g mode count h values h' =
    if_ok c.no_truth.result _ _
    (λ t own. counts_differ n cells nodes c.args.arena.now c.no_truth.new.arena p e f g c.args.counts.items c.in-Some.own.items (mode_in c.args.scope) t mode
    (λ r. values r ∙ ap (option_map (λ v. v.items)) c.in-Some.is) (λ same. grind (arith, same, c.if-many-told.true, c.len-many.ensures, c.len-told.ensures)) h' own) c.no_truth.ensures

pub returns-in_ok-needed-in-Some : goal.returns-in_ok-needed-in-Some
returns-in_ok-needed-in-Some c n cells nodes p e f g mode count h values h' =
    let old = c.args.arena.now in
    let ts = c.args.terms.items in
    let cs = c.args.counts.items in
    let us = c.in_ok-needed-in-Some.needed.items in
    if_ok c.judged.result _ _
    (λ t j. counts_are n cells nodes old c.judged.new.arena p e f g ts cs us c.in-Some.own.items t h (λ r. values r ∙ ap (option_map (λ v. v.items)) c.in-Some.is)
    (grind (arith, c.if-many-told.false, c.len-many.ensures, c.len-told.ensures)) h'
    (asked_of n old c.args.count (mode_in c.args.scope) (c.deref.result.now ++ c.deref-in-Some.result.now) (ts ++ cs) us
    (ap (λ l. l ++ c.deref-in-Some.result.now) c.deref.ensures.value ∙ ap (λ l. ts ++ l) c.deref-in-Some.ensures.value) mode count c.in_ok-needed-in-Some.ensures) j) c.judged.ensures

pub returns-in-None : goal.returns-in-None
returns-in-None c n cells nodes p e f g mode count h values h' =
    if_ok c.no_truth-in-None.result _ _
    (λ t own. no_counts n cells nodes c.args.arena.now c.no_truth-in-None.new.arena p e f g (mode_in c.args.scope) t mode h.grows (λ r. values r ∙ ap (option_map (λ v. v.items)) c.in-None.is) own)
    c.no_truth-in-None.ensures
