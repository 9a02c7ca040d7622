use Rattle.std.proofs.Common.{◌<◌, get_or, refl, arith}
use Rattle.enc_all_tests.proofs.Small.{all_next, all_whole}
use Rattle.enc_all_tests.proofs.sound.are_below.Goals as goal

pub loop-variable-preserved : goal.loop-variable-preserved
loop-variable-preserved c =
    all_next (λ x. x < c.args.count) c.args.variables.now c.loop-variable.variable-index (get_or c.args.variables.now c.loop-variable.variable-index 0) 0 c.loop-variable-test.true refl c.loop-variable.invariant
    (omega (arith, c.if-variable-count.false))

pub returns : goal.returns
returns c h = all_whole (λ x. x < c.args.count) c.args.variables.now c.loop-variable.variable-index c.loop-variable-test.false c.loop-variable.invariant
