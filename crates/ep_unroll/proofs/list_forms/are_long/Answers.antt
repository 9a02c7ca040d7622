use Rattle.ep_unroll.proofs.Words.{ap, length, sym, ◌∙◌, Decides-eqb}
use Rattle.ep_unroll.proofs.TruthSteps.{rows_all, rows_next, rows_short, unequal}
use Rattle.ep_unroll.proofs.list_forms.are_long.Goals as goal

pub loop-row-preserved : goal.loop-row-preserved
loop-row-preserved c =
    rows_next c.args.rows.now c.args.count c.loop-row.row-index c.row-item.result _ c.loop-row-test.true c.row-item.is
    ((Decides-eqb (length c.row-item.result) c.args.count).1 (ap length (sym c.numbers-own.ensures) ∙ c.if-own-count.false)) c.loop-row.invariant

pub returns-then-own-count : goal.returns-then-own-count
returns-then-own-count c =
    rows_short c.args.rows.now c.args.count c.loop-row.row-index c.row-item.result _ c.loop-row-test.true c.row-item.is
    (unequal (length c.row-item.result) c.args.count (λ same. c.if-own-count.true (ap length c.numbers-own.ensures ∙ same))) c.loop-row.invariant

pub returns : goal.returns
returns c = rows_all c.args.rows.now c.args.count c.loop-row.row-index c.loop-row-test.false c.loop-row.invariant
