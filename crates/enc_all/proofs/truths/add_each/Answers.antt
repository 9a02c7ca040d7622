use Rattle.std.proofs.Common.{IsTrue, true}
use Rattle.enc_all.proofs.truths.add_each.Goals as goal
use Rattle.enc_all.specs.Parts.{part_holds}
use Rattle.enc_atoms.proofs.Adding.{adds_all, adds_none, adds_one_more}

pub loop-x-init : goal.loop-x-init
loop-x-init c = adds_none c.args.layout.now c.args.f.now (λ values x. IsTrue (part_holds values (true, x))) c.args.xs.now c.requires.is_layout c.requires.from_new

pub loop-x-preserved : goal.loop-x-preserved
loop-x-preserved c =
    adds_one_more c.args.layout.now c.args.f.now c.loop-x.f c.args.layout.now c.add_one.new.f (λ values x. IsTrue (part_holds values (true, x))) c.args.xs.now c.loop-x.x-index _ c.requires.is_layout c.loop-x-test.true
    c.loop-x.invariant c.in_ok-add_one.ensures

pub returns : goal.returns
returns c = adds_all c.args.layout.now c.args.f.now c.args.layout.now c.loop-x.f (λ values x. IsTrue (part_holds values (true, x))) c.args.xs.now c.loop-x.x-index c.loop-x-test.false c.loop-x.invariant
