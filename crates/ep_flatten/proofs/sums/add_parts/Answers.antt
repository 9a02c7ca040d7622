use Rattle.std.proofs.Common.{rules, refl, ◌∙◌, w64, to_z, of_z}
use Rattle.std.proofs.lemmas.Int.{to_z-of_z}
use Rattle.ep_flatten.proofs.SumLaws.{takes_all, takes_none, takes_step}
use Rattle.ep_flatten.proofs.sums.add_parts.Goals as goal

pub loop-part-init : goal.loop-part-init
loop-part-init c = record { number = refl; parts = takes_none c.args.sum.now.parts.items }

pub loop-part-preserved : goal.loop-part-preserved
loop-part-preserved c = record {
  number = c.in_ok-add_part.ensures.number ∙ c.loop-part.invariant.number;
  parts = takes_step c.args.sum.now.parts.items c.loop-part.sum.parts.items c.add_part.new.sum.parts.items c.args.parts.now c.loop-part.part-index c.part-item.result (to_z w64 (of_z w64 c.part-item.result.0))
      c.loop-part-test.true c.part-item.is (to_z-of_z w64 c.part-item.result.0 (search rules)) c.loop-part.invariant.parts c.in_ok-add_part.ensures.parts;
}

pub returns-clause-parts : goal.returns-clause-parts
returns-clause-parts c = takes_all c.args.sum.now.parts.items c.loop-part.sum.parts.items c.args.parts.now c.loop-part.part-index c.loop-part-test.false c.loop-part.invariant.parts
