use Rattle.std.proofs.Common.{◌⊎◌, IsTrue, true}
use Rattle.enc_all.proofs.truths.add_needed.Goals as goal
use Rattle.enc_all.specs.Parts.{other_part, part_holds}
use Rattle.enc_atoms.proofs.Adding.{adds_all, adds_none, adds_one_more}

pub loop-part-init : goal.loop-part-init
loop-part-init c =
    adds_none c.args.layout.now c.args.f.now (λ values p. IsTrue (part_holds values c.args.said) ⊎ IsTrue (part_holds values (other_part p))) c.args.parts.now c.requires.is_layout c.requires.from_new

pub loop-part-preserved : goal.loop-part-preserved
loop-part-preserved c =
    adds_one_more c.args.layout.now c.args.f.now c.loop-part.f c.args.layout.now c.add_pair.new.f (λ values p. IsTrue (part_holds values c.args.said) ⊎ IsTrue (part_holds values (other_part p))) c.args.parts.now
    c.loop-part.part-index _ c.requires.is_layout c.loop-part-test.true c.loop-part.invariant c.in_ok-add_pair.ensures

pub returns : goal.returns
returns c =
    adds_all c.args.layout.now c.args.f.now c.args.layout.now c.loop-part.f (λ values p. IsTrue (part_holds values c.args.said) ⊎ IsTrue (part_holds values (other_part p))) c.args.parts.now
    c.loop-part.part-index c.loop-part-test.false c.loop-part.invariant
