use Rattle.ep_flat.specs.FlatViews.{plain_con}
use Rattle.ep_flat.specs.Flats.{HasSmallCoefficients}
use Rattle.enc_all_tests.proofs.Small.{all_mapped, all_mapped_whole}
use Rattle.enc_all_tests.proofs.sound.have_small_coefficients.Goals as goal

pub loop-con-preserved : goal.loop-con-preserved
loop-con-preserved c =
    all_mapped HasSmallCoefficients plain_con c.args.cons.now c.loop-con.con-index c.con-item.result c.con-item.result c.loop-con-test.true c.con-item.is c.loop-con.invariant (c.has_small_coefficients.ensures c.if-not-has_small_coefficients.false)

pub returns : goal.returns
returns c h = all_mapped_whole HasSmallCoefficients plain_con c.args.cons.now c.loop-con.con-index c.loop-con-test.false c.loop-con.invariant
