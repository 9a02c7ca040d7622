use Rattle.ep_unroll.proofs.Words.{subst, sym, CanBeSafe, IsTruth}
use Rattle.ep_unroll.proofs.FormValues.{if_ok}
use Rattle.ep_unroll.proofs.PartReadSteps.{chosen_true}
use Rattle.ep_unroll.proofs.choices.chosen_truth.Goals as goal

pub returns-then-can_be_safe : goal.returns-then-can_be_safe
returns-then-can_be_safe c =
    let old = c.args.arena.now in
    let keys = c.args.entries.keys.items in
    let ts = c.args.entries.terms.items in
    let us = c.args.indices.items in
    let safe : CanBeSafe old c.args.count ts us c.args.others.items =
    subst (λ l. CanBeSafe old c.args.count ts l c.args.others.items) c.deref.ensures.value
    (subst (CanBeSafe old c.args.count ts c.deref.result.now) c.deref-2.ensures.value (c.can_be_safe.ensures c.if-can_be_safe.true)) in
    if_ok c.safe_truth.result _ _ (λ t h. subst (λ l. IsTruth old c.safe_truth.new.arena c.args.count keys ts us l t) (sym safe.none) h)
    (c.safe_truth.ensures c.args.count (subst (CanBeSafe old c.args.count ts us) safe.none safe))

pub returns : goal.returns
returns c =
    if_ok c.truth_of.result _ _
    (λ t put. chosen_true c.args.arena.now c.chosen_number.new.arena c.truth_of.new.arena c.args.count c.args.entries.keys.items c.args.entries.terms.items c.args.indices.items c.args.others.items c.in_ok-term.term t
    c.in_ok-term.ensures put) c.truth_of.ensures
