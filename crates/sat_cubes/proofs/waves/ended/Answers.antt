use Rattle.std.proofs.Common.{ℕ, sym, subst}
use Rattle.sat_split.specs.Cubes.{cube_literals}
use Rattle.std.specs.Prelude.{length}
use Rattle.sat_cubes.specs.Answers.{IsSatIn, IsSpentIn}
use Rattle.sat_cubes.specs.Solving.{IsOpenCube, IsSpentLog}
use Rattle.sat_cubes.proofs.Waving.{ends_sat, ends_spent}
use Rattle.sat_cubes.proofs.waves.ended.Goals as goal

pub returns-in-Sat : goal.returns-in-Sat
returns-in-Sat c = λ f vars ends budget so_far refuted count within is. (
  subst (λ (n : ℕ). IsSatIn f vars n budget c.in-Sat.values.items c.args.joined.events) (sym count)
      (ends_sat f vars ends budget c.in-Sat.values.items c.args.joined so_far refuted within (subst (IsOpenCube f (cube_literals (length ends) vars) budget) c.in-Sat.is is)),
  (so_far.notes, so_far.base),
)

pub returns-in-Spent : goal.returns-in-Spent
returns-in-Spent c = λ f vars ends budget so_far refuted count within is.
    let spent : IsSpentLog f (cube_literals (length ends) vars) budget c.in-Spent.log = subst (IsOpenCube f (cube_literals (length ends) vars) budget) c.in-Spent.is is in (
      subst (λ (n : ℕ). IsSpentIn f vars n budget c.in-Spent.log.events) (sym count)
          (ends_spent f vars ends budget c.args.joined c.in-Spent.log so_far refuted within spent),
      (spent.notes, spent.base),
    )
