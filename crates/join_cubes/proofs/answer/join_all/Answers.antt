use Rattle.std.proofs.Common.{ℕ, List, ap, length, subst, sym}
use Rattle.sat_join.specs.Joins.{RefutesCubes}
use Rattle.join_cubes.proofs.answer.join_all.Goals as goal

pub loop-name-init : goal.loop-name-init
loop-name-init g c = record {
  joint = subst (λ (es : List ℕ). RefutesCubes c.args.formula.now.clauses c.args.vars.now es c.in_ok-joined.joined.events) (sym c.new-ends.ensures.items)
      (c.in_ok-joined.ensures.joint c.args.vars.now);
  count = ap length c.new-ends.ensures.items;
}
