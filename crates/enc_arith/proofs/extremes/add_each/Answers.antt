use Rattle.std.proofs.Common.{refl, w64, to_z, of_z, rules}
use Rattle.std.proofs.lemmas.Int.{to_z-of_z}
use Rattle.enc_arith.proofs.Levels.{adds_each, each_begin, each_more}
use Rattle.enc_arith.proofs.extremes.add_each.Goals as goal

pub loop-x-init : goal.loop-x-init
loop-x-init c = each_begin c.args.layout.now c.args.f.now c.args.when.now c.args.op (to_z w64 (of_z w64 c.args.number)) c.args.xs.now c.requires.ready

pub loop-x-preserved : goal.loop-x-preserved
loop-x-preserved c =
    each_more c.args.layout.now c.args.f.now c.loop-x.f c.add_compared.new.f c.args.when.now c.args.op (to_z w64 (of_z w64 c.args.number)) (to_z w64 (of_z w64 c.args.number)) c.args.xs.now c.loop-x.x-index 0
    c.requires.ready refl c.loop-x-test.true c.loop-x.invariant c.in_ok-add_compared.ensures

pub returns : goal.returns
returns c =
    adds_each c.args.layout.now c.args.f.now c.loop-x.f c.args.when.now c.args.op c.args.number (to_z w64 (of_z w64 c.args.number)) c.args.xs.now c.loop-x.x-index c.requires.ready (to_z-of_z w64 c.args.number (search rules))
    c.loop-x-test.false c.loop-x.invariant
