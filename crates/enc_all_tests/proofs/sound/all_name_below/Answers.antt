use Rattle.ep_flat.specs.FlatViews.{plain_con}
use Rattle.ep_flat.specs.Flats.{NamesBelow}
use Rattle.enc_all_tests.proofs.Small.{all_mapped, all_mapped_whole}
use Rattle.enc_all_tests.proofs.sound.all_name_below.Goals as goal

pub loop-con-preserved : goal.loop-con-preserved
loop-con-preserved c =
    all_mapped (NamesBelow c.args.count) plain_con c.args.cons.now c.loop-con.con-index c.con-item.result c.con-item.result c.loop-con-test.true c.con-item.is c.loop-con.invariant (c.con_names_below.ensures c.if-not-con_names_below.false)

pub returns : goal.returns
returns c h = all_mapped_whole (NamesBelow c.args.count) plain_con c.args.cons.now c.loop-con.con-index c.loop-con-test.false c.loop-con.invariant
