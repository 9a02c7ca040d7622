use Rattle.std.proofs.Common.{◌≡◌, ℕ, ℤ, pos, refl, get_or, w64, to_z, of_z, rules}
use Rattle.std.proofs.lemmas.Int.{to_z-of_z}
use Rattle.enc_adder.proofs.SideSums.{all_parts, no_side, one_part_more}
use Rattle.enc_adder.proofs.Widening.{constants_later, ready_later}
use Rattle.enc_adder.proofs.sides.sides_of.Goals as goal

pub loop-part-init : goal.loop-part-init
loop-part-init c = no_side c.args.layout.now c.args.f.now (record { left = c.new.result; right = c.new-2.result; rest = pos 0 }) c.args.parts.now c.requires.ready c.new.ensures.items c.new-2.ensures.items refl

pub add_part-requires-clause-ready : goal.add_part-requires-clause-ready
add_part-requires-clause-ready c = ready_later _ _ _ _ _ c.loop-part.invariant.widens

pub add_part-requires-clause-constants : goal.add_part-requires-clause-constants
add_part-requires-clause-constants c = constants_later c.args.layout.now c.loop-part.layout c.args.c c.loop-part.invariant.widens.goes_on.earlier c.requires.constants

pub loop-part-preserved : goal.loop-part-preserved
loop-part-preserved c =
    let d : ℤ × ℕ = (pos 0, 0) in
    let i = c.loop-part.part-index in
    let fits : to_z w64 (of_z w64 (get_or c.args.parts.now i d).0) ≡ (get_or c.args.parts.now i d).0 = to_z-of_z w64 (get_or c.args.parts.now i d).0 (search rules) in
    one_part_more c.args.layout.now c.args.f.now c.loop-part.layout c.loop-part.f c.add_part.new.layout c.add_part.new.f c.loop-part.sides c.add_part.new.sides c.args.parts.now i d _ _ c.loop-part-test.true c.requires.parts c.loop-part.invariant c.in_ok-add_part.ensures fits refl

pub returns : goal.returns
returns c = all_parts c.args.layout.now c.args.f.now c.loop-part.layout c.loop-part.f c.loop-part.sides c.args.parts.now c.loop-part.part-index c.loop-part-test.false c.loop-part.invariant
