use Rattle.ep_unroll.proofs.Words.{ap, ◌∙◌, ◌++◌, ◌<◌, length, All-append, mode_in}
use Rattle.ep_ground.specs.Nodes.{parts_of}
use Rattle.ep_unroll.proofs.FormValues.{asked_of, if_ok}
use Rattle.ep_unroll.proofs.ListFormValues.{lex_is}
use Rattle.ep_unroll.proofs.list_forms.lex_term.Goals as goal

pub judged-requires : goal.judged-requires
unfolding parts_of
judged-requires c = record {
  node = All-append (λ t. t < length c.args.arena.now) c.args.terms.items c.args.others.items c.requires.one c.requires.other;
  others = c.in_ok-needed.ensures.known;
}

pub returns : goal.returns
returns c n cells nodes p e f mode count h h' =
    let old = c.args.arena.now in
    let ts = c.args.terms.items in
    let others = c.args.others.items in
    let us = c.in_ok-needed.needed.items in
    if_ok c.judged.result _ _
    (λ t j. lex_is n cells nodes old c.judged.new.arena p c.args.op e f ts others us t h h'
    (asked_of n old c.args.count (mode_in c.args.scope) (c.deref.result.now ++ c.deref-2.result.now) (ts ++ others) us
    (ap (λ l. l ++ c.deref-2.result.now) c.deref.ensures.value ∙ ap (λ l. ts ++ l) c.deref-2.ensures.value) mode count c.in_ok-needed.ensures) j) c.judged.ensures
