use Rattle.std.proofs.Common.{List, ℕ, ℤ, pos, subst}
use Rattle.std.proofs.lemmas.List.{take_all}
use Rattle.opb_text.specs.Sums.{PartsComeTo}
use Rattle.opb_text.proofs.SumLaws.{comes_step, part_small}
use Rattle.opb_text.proofs.sums.joined.Goals as goal

pub join_part-requires : goal.join_part-requires
join_part-requires c = part_small c.args.parts.now c.loop-part.part-index (pos 0, 0) c.loop-part.joined.items c.loop-part-test.true c.loop-part.invariant.size c.requires

pub loop-part-preserved : goal.loop-part-preserved
loop-part-preserved c = comes_step c.args.parts.now c.loop-part.part-index (pos 0, 0) c.loop-part.joined.items c.join_part.new.parts.items c.loop-part-test.true c.loop-part.invariant c.in_ok-join_part.ensures

pub returns : goal.returns
returns c =
    subst (λ (ps : List (ℤ × ℕ)). PartsComeTo ps c.loop-part.joined.items) (take_all c.loop-part.part-index c.args.parts.now c.loop-part-test.false) c.loop-part.invariant
