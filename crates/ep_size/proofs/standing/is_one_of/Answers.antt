use Rattle.ep_size.proofs.Words.{ap, sym, refl, ◌∙◌, ◌+◌, ◌||◌, drop, bytes_eq, list_any}
use Rattle.ep_size.proofs.LookSteps.{names_all, names_more}
use Rattle.ep_size.proofs.standing.is_one_of.Goals as goal

pub loop-own-init : goal.loop-own-init
loop-own-init c = refl

pub loop-own-preserved : goal.loop-own-preserved
loop-own-preserved c =
    let f = bytes_eq c.args.name.now in
    let names = c.args.names.now in
    let k = c.loop-own.own-index in
    sym (names_more f names k c.own-item.result _ c.loop-own-test.true c.own-item.is
    ∙ ap (λ b. b || list_any f (drop (k + 1) names)) (sym c.eq.ensures ∙ c.if-eq.false)) ∙ c.loop-own.invariant

pub returns-then-eq : goal.returns-then-eq
returns-then-eq c =
    let f = bytes_eq c.args.name.now in
    let names = c.args.names.now in
    let k = c.loop-own.own-index in
    sym (sym c.loop-own.invariant ∙ names_more f names k c.own-item.result _ c.loop-own-test.true c.own-item.is
    ∙ ap (λ b. b || list_any f (drop (k + 1) names)) (sym c.eq.ensures ∙ c.if-eq.true))

pub returns : goal.returns
returns c = sym (sym c.loop-own.invariant ∙ names_all (bytes_eq c.args.name.now) c.args.names.now c.loop-own.own-index c.loop-own-test.false)
