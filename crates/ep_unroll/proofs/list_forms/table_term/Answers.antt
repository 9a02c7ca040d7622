use Rattle.ep_unroll.proofs.Words.{◌≡◌, true, false, ap, arith, length, sym, ◌∙◌, option_map, ◌==◌, list_all, mode_in}
use Rattle.ep_ground.specs.Nodes.{parts_of}
use Rattle.ep_unroll.proofs.FormValues.{asked_of, if_ok}
use Rattle.ep_unroll.proofs.ListFormValues.{no_table, table_is, table_untold}
use Rattle.ep_unroll.proofs.list_forms.table_term.Goals as goal

pub judged-requires : goal.judged-requires
unfolding parts_of
judged-requires c = record { node = c.requires; others = c.in_ok-needed-in-Some.ensures.known }

pub returns-then-not-are_long : goal.returns-then-not-are_long
returns-then-not-are_long c n cells nodes p e f mode count h rows =
    let many : length c.args.terms.items ≡ c.len-long.result = grind (arith, c.len-long.ensures) in
    let all : list_all (λ row. length row == length c.args.terms.items) c.in-Some.own.items ≡ false =
    ap (λ k. list_all (λ row. length row == k) c.in-Some.own.items) many ∙ ap (list_all (λ row. length row == c.len-long.result)) (sym c.deref.ensures.value)
    ∙ sym c.are_long.ensures ∙ c.if-not-are_long.true in
    if_ok c.no_truth.result _ _
    (λ t own. table_untold n cells nodes c.args.arena.now c.no_truth.new.arena p e f c.args.terms.items c.in-Some.own.items (mode_in c.args.scope) t mode h
    (λ r. rows r ∙ ap (option_map (λ v. v.items)) c.in-Some.is) all own) c.no_truth.ensures

pub returns-in_ok-needed-in-Some : goal.returns-in_ok-needed-in-Some
returns-in_ok-needed-in-Some c n cells nodes p e f mode count h rows =
    let old = c.args.arena.now in
    let ts = c.args.terms.items in
    let us = c.in_ok-needed-in-Some.needed.items in
    let many : length ts ≡ c.len-long.result = grind (arith, c.len-long.ensures) in
    let all : list_all (λ row. length row == length ts) c.in-Some.own.items ≡ true =
    ap (λ k. list_all (λ row. length row == k) c.in-Some.own.items) many ∙ ap (list_all (λ row. length row == c.len-long.result)) (sym c.deref.ensures.value)
    ∙ sym c.are_long.ensures ∙ c.if-not-are_long.false in
    if_ok c.judged.result _ _
    (λ t j. table_is n cells nodes old c.judged.new.arena p e f ts us c.in-Some.own.items t h (λ r. rows r ∙ ap (option_map (λ v. v.items)) c.in-Some.is) all
    (asked_of n old c.args.count (mode_in c.args.scope) c.deref-in-Some.result.now ts us c.deref-in-Some.ensures.value mode count c.in_ok-needed-in-Some.ensures) j) c.judged.ensures

pub returns-in-None : goal.returns-in-None
returns-in-None c n cells nodes p e f mode count h rows =
    if_ok c.no_truth-in-None.result _ _
    (λ t own. no_table n cells nodes c.args.arena.now c.no_truth-in-None.new.arena p e f (mode_in c.args.scope) t mode h.grows (λ r. rows r ∙ ap (option_map (λ v. v.items)) c.in-None.is) own)
    c.no_truth-in-None.ensures
