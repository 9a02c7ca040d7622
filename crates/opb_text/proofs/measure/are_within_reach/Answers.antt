use Rattle.std.proofs.Common.{◌≤◌, List, refl, subst, arith}
use Rattle.std.specs.Prelude.{All}
use Rattle.std.proofs.lemmas.List.{take_all}
use Rattle.std.proofs.lemmas.List.Elements.{All-more}
use Rattle.opb_text.specs.declared.content.OpbRow.{OpbRow}
use Rattle.opb_text.specs.Views.{plain_row}
use Rattle.opb_text.specs.Weights.{row_reach, most_reach}
use Rattle.opb_text.proofs.Measures.{near_rows, near_row}
use Rattle.opb_text.proofs.measure.are_within_reach.Goals as goal

pub loop-row-preserved : goal.loop-row-preserved
loop-row-preserved c =
    All-more (λ row. row_reach (plain_row row) ≤ most_reach) c.args.rows.now c.loop-row.row-index c.row-item.result c.loop-row-test.true c.loop-row.invariant
    (subst (λ (row : OpbRow). row_reach (plain_row row) ≤ most_reach) c.row-item.is (omega (arith, c.row_reach.ensures, c.from.ensures, c.if-row_reach-from.false)))

pub returns-then-row_reach-from : goal.returns-then-row_reach-from
returns-then-row_reach-from c = (
  λ is. absurd cc,
  λ all. absurd (let near = near_row c.args.rows.now c.loop-row.row-index c.row-item.result all c.loop-row-test.true c.row-item.is in omega (arith, near, c.row_reach.ensures, c.from.ensures, c.if-row_reach-from.true)),
)

pub returns : goal.returns
returns c = (
  λ is. near_rows c.args.rows.now (subst (λ (rows : List OpbRow). All (λ row. row_reach (plain_row row) ≤ most_reach) rows) (take_all c.loop-row.row-index c.args.rows.now c.loop-row-test.false) c.loop-row.invariant),
  λ all. refl,
)
