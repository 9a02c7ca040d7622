use Rattle.std.proofs.Common.{ℕ, ◌^◌, ◌<◌, Result, IfOk, length, ◌∙◌, sym, subst, arith}
use Rattle.std.proofs.lemmas.List.{get_or_default}
use Rattle.ep_base.specs.declared.errors.Memory.{Memory}
use Rattle.sat_split.specs.Cubes.{cube_literals}
use Rattle.sat_cubes.specs.Solving.{IsRefuted, IsOpen}
use Rattle.sat_cubes.specs.declared.solving.Solved.{Solved}
use Rattle.sat_cubes.proofs.Waving.{may_join, so_far_more, within_more}
use Rattle.sat_cubes.proofs.waves.join_refuted.Goals as goal

pub join_cube-requires : goal.join_cube-requires
join_cube-requires c =
    let f = c.args.formula.now in
    let vars = c.args.vars.now in
    let ends = c.loop-index.ends.items in
    let log = c.in-Some.log.now in
    let inv = c.loop-index.invariant in
    let within : length ends < 2 ^ length vars = omega (arith, inv.count, c.requires.room, c.loop-index-test.true) in
    may_join f vars ends c.loop-index.joined log inv.so_far within
    (subst (λ (n : ℕ). IsRefuted f (cube_literals n vars) log) (sym inv.count)
    (c.requires.refuted c.loop-index.index c.index-wave-index.result log c.loop-index-test.true (sym c.index-wave-index.is ∙ c.in-Some.ensures.some)))

pub loop-index-preserved : goal.loop-index-preserved
loop-index-preserved c =
    let f = c.args.formula.now in
    let vars = c.args.vars.now in
    let ends = c.loop-index.ends.items in
    let log = c.in-Some.log.now in
    let inv = c.loop-index.invariant in
    let done = c.in_ok-join_cube.ensures in
    let within : length ends < 2 ^ length vars = omega (arith, inv.count, c.requires.room, c.loop-index-test.true) in
    record {
      so_far = so_far_more f vars ends c.join_cube.new.ends.items c.loop-index.joined c.join_cube.new.joined log inv.so_far within
          (subst (λ (n : ℕ). IsRefuted f (cube_literals n vars) log) (sym inv.count)
          (c.requires.refuted c.loop-index.index c.index-wave-index.result log c.loop-index-test.true (sym c.index-wave-index.is ∙ c.in-Some.ensures.some)))
          done.joint done.new done.count done.notes done.base;
      count = omega (arith, done.count, inv.count);
      refuted_within = λ budget are so_far.
          within_more f vars ends c.join_cube.new.ends.items (length c.args.ends.now.items) budget c.args.wave.now c.loop-index.index c.index-wave-index.result log are c.loop-index-test.true
          (sym c.index-wave-index.is ∙ c.in-Some.ensures.some) inv.count done.count (inv.refuted_within budget are so_far);
    }

pub returns-in_default-clause-next : goal.returns-in_default-clause-next
returns-in_default-clause-next c = λ d below.
    subst (λ (r : Result Solved Memory). IfOk r IsOpen)
    (c.index-wave-index.is ∙ get_or_default c.args.wave.now c.loop-index.index c.index-wave-index.result d below) c.in_default.ensures.none
