use Rattle.std.proofs.Common.{rules, ◌≡◌, ◌∷◌, ◌++◌, [], w64, to_z, of_z}
use Rattle.std.specs.Prelude.{◌*ℤ◌}
use Rattle.std.proofs.lemmas.Int.{to_z-of_z}
use Rattle.ep_base.specs.Reads.{IsWithinNumbers}
use Rattle.ep_flatten.proofs.SumLaws.{multiplied_all, multiplied_step, small_step}
use Rattle.ep_flatten.proofs.sums.multiplied.Goals as goal

pub loop-part-preserved : goal.loop-part-preserved
loop-part-preserved c =
    let p = c.part-item.result in
    let k = to_z w64 (of_z w64 c.args.coefficient) in
    let q = to_z w64 (of_z w64 c.in-Some.product) in
    let product : q ≡ (k *ℤ p.0) = search (rules, c.in-Some.ensures.value) in
    let within : IsWithinNumbers q = search (rules, c.in-Some.ensures.small) in
    let pushed : c.push.new.self.items ≡ c.loop-part.made.items ++ (q, p.1) ∷ [] = search rules in
    record {
      items = multiplied_step k c.args.parts.now c.loop-part.part-index p q c.loop-part.made.items c.push.new.self.items c.loop-part-test.true c.part-item.is c.loop-part.invariant.items product pushed;
      small = small_step c.loop-part.made.items c.push.new.self.items q p.1 pushed c.loop-part.invariant.small within;
    }

pub returns : goal.returns
returns c = (
  multiplied_all (to_z w64 (of_z w64 c.args.coefficient)) c.args.coefficient c.args.parts.now c.loop-part.made.items c.loop-part.part-index c.loop-part-test.false (to_z-of_z w64 c.args.coefficient c.ranges.coefficient) c.loop-part.invariant.items,
  c.loop-part.invariant.small,
)
