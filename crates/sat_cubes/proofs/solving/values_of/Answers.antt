use Rattle.std.proofs.Common.{List, Bool, IfSome, ◌+◌, sym, subst}
use Rattle.sat_cubes.specs.Solving.{AreValues}
use Rattle.sat_cubes.proofs.Models.{values_more}
use Rattle.sat_cubes.proofs.solving.values_of.Goals as goal

pub loop-place-preserved : goal.loop-place-preserved
loop-place-preserved c =
    let kept = c.args.solver.now.kept in
    subst (λ (values : List Bool). IfSome kept (λ trues. AreValues trues (c.loop-place.place + 1) values)) (sym c.in_ok-push.ensures.items)
    (values_more kept c.loop-place.place c.loop-place.values.items c.value.result c.loop-place.invariant c.value.ensures)
