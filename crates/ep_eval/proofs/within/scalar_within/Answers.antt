use Rattle.ep_eval.proofs.Words.{ap, sym, ◌∙◌, ◌+◌, drop, drop_all, meaning_or}
use Rattle.ep_eval.proofs.TypedNames.{shown, shown_all, shown_next, shown_within}
use Rattle.ep_eval.proofs.within.scalar_within.Goals as goal

pub loop-own-init : goal.loop-own-init
unfolding meaning_or
loop-own-init c k = shown_within c.args.typed.now k c.args.name.now

pub loop-own-preserved : goal.loop-own-preserved
loop-own-preserved c k =
    let typed = c.args.typed.now in
    let i = c.loop-own.own-index in
    let name = c.args.name.now in
    c.loop-own.invariant k
    ∙ shown_next typed i c.own-item.result name (meaning_or c.loop-own.found (k name)) c.loop-own-test.true c.own-item.is
    ∙ ap (shown (drop (i + 1) typed) name) (sym (c.newer-found.ensures (k name)))

pub returns : goal.returns
returns c k =
    c.loop-own.invariant k
    ∙ shown_all (drop c.loop-own.own-index c.args.typed.now) c.args.name.now (meaning_or c.loop-own.found (k c.args.name.now))
    (drop_all c.loop-own.own-index c.args.typed.now c.loop-own-test.false)
