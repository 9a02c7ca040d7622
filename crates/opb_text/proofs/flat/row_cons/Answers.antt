use Rattle.std.proofs.Common.{List, map, subst}
use Rattle.std.proofs.lemmas.List.{take_all}
use Rattle.ep_flat.specs.FlatViews.{plain_con}
use Rattle.opb_text.specs.declared.content.OpbRow.{OpbRow}
use Rattle.opb_text.specs.Sums.{AreConsOf}
use Rattle.opb_text.specs.Views.{plain_row}
use Rattle.opb_text.proofs.FlatLaws.{cons_step, named_row}
use Rattle.opb_text.proofs.Measures.{near_row}
use Rattle.opb_text.proofs.flat.row_cons.Goals as goal

pub row_con-requires-clause-named : goal.row_con-requires-clause-named
row_con-requires-clause-named c = named_row c.args.vars.now c.args.rows.now c.loop-row.row-index c.row-item.result c.requires.named c.loop-row-test.true c.row-item.is

pub row_con-requires-clause-small : goal.row_con-requires-clause-small
row_con-requires-clause-small c = near_row c.args.rows.now c.loop-row.row-index c.row-item.result c.requires.small c.loop-row-test.true c.row-item.is

pub loop-row-preserved : goal.loop-row-preserved
loop-row-preserved c =
    cons_step c.args.vars.now c.args.rows.now c.loop-row.row-index c.row-item.result c.loop-row.cons.items c.push.new.self.items c.in_ok-con.con c.loop-row-test.true c.row-item.is c.in_ok-push.ensures.items c.loop-row.invariant c.in_ok-con.ensures

pub returns : goal.returns
returns c =
    subst (λ (rs : List OpbRow). AreConsOf c.args.vars.now (map plain_row rs) (map plain_con c.loop-row.cons.items)) (take_all c.loop-row.row-index c.args.rows.now c.loop-row-test.false) c.loop-row.invariant
