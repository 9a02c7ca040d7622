use Rattle.ep_unroll.proofs.Words.{ap, sym, refl, ◌∙◌, ◌+◌, drop, Some, if◌then◌else◌, first_in}
use Rattle.ep_unroll.proofs.FirstSteps.{firsts_all, firsts_more}
use Rattle.ep_unroll.proofs.firsts.first_cell.Goals as goal

pub loop-first-init : goal.loop-first-init
loop-first-init c = refl

pub loop-first-preserved : goal.loop-first-preserved
loop-first-preserved c =
    let fs = c.args.firsts.now in
    let k = c.loop-first.first-index in
    sym (firsts_more c.args.name.now fs k c.first-item.result _ c.loop-first-test.true c.first-item.is
    ∙ ap (λ b. if b then Some c.first-item.result.cell else first_in (drop (k + 1) fs) c.args.name.now) (sym c.eq.ensures ∙ c.if-eq.false)) ∙ c.loop-first.invariant

pub returns-then-eq : goal.returns-then-eq
returns-then-eq c =
    let fs = c.args.firsts.now in
    let k = c.loop-first.first-index in
    sym (sym c.loop-first.invariant ∙ firsts_more c.args.name.now fs k c.first-item.result _ c.loop-first-test.true c.first-item.is
    ∙ ap (λ b. if b then Some c.first-item.result.cell else first_in (drop (k + 1) fs) c.args.name.now) (sym c.eq.ensures ∙ c.if-eq.true))

pub returns : goal.returns
returns c = sym (sym c.loop-first.invariant ∙ firsts_all c.args.name.now c.args.firsts.now c.loop-first.first-index c.loop-first-test.false)
