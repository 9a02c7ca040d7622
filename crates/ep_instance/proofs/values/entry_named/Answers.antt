use Rattle.std.proofs.Common.{◌∙◌, ◌+◌, ap, sym, refl, map, drop}
use Rattle.std.proofs.Math.ListN.{drop_of_length-le}
use Rattle.ep_tree.specs.Solutions.{named_in}
use Rattle.ep_tree.specs.Views.{named_value}
use Rattle.ep_types_rules.proofs.RuleSteps.{next_is}
use Rattle.ep_instance.proofs.AssigningSteps.{named_here, named_later, named_nowhere}
use Rattle.ep_instance.proofs.values.entry_named.Goals as goal

pub loop-entry-init : goal.loop-entry-init
loop-entry-init c = refl

pub loop-entry-preserved : goal.loop-entry-preserved
loop-entry-preserved c =
    let k = c.loop-entry.entry-index in
    let all = c.args.entries.now in
    let cut = ap (λ es. named_in (map named_value es) c.args.name.now) (next_is all k c.entry-item.result c.loop-entry-test.true c.entry-item.is) in
    c.loop-entry.invariant ∙ cut
    ∙ named_later (named_value c.entry-item.result) (map named_value (drop (k + 1) all)) c.args.name.now (sym c.eq.ensures ∙ c.if-eq.false)

pub returns-then-eq : goal.returns-then-eq
returns-then-eq c =
    let k = c.loop-entry.entry-index in
    let all = c.args.entries.now in
    let cut = ap (λ es. named_in (map named_value es) c.args.name.now) (next_is all k c.entry-item.result c.loop-entry-test.true c.entry-item.is) in
    sym
    (c.loop-entry.invariant ∙ cut
    ∙ named_here (named_value c.entry-item.result) (map named_value (drop (k + 1) all)) c.args.name.now (sym c.eq.ensures ∙ c.if-eq.true))

pub returns : goal.returns
returns c =
    sym
    (c.loop-entry.invariant
    ∙ ap (λ es. named_in (map named_value es) c.args.name.now) (drop_of_length-le c.args.entries.now c.loop-entry-test.false)
    ∙ named_nowhere c.args.name.now)
