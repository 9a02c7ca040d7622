use Rattle.std.proofs.Common.{◌≡◌, ℕ, ◌<◌, Result, IfOk, List, length, get_or, ap, sym, subst, arith}
use Rattle.ep_base.specs.declared.errors.Memory.{Memory}
use Rattle.sat_split.specs.Cubes.{cube_literals}
use Rattle.sat_cubes.specs.Solving.{IsOpen, AreSolved, AreRefuted}
use Rattle.sat_cubes.specs.declared.solving.Solved.{Solved}
use Rattle.sat_cubes.proofs.Waving.{solved_refuted, solved_at, open_at}
use Rattle.sat_cubes.proofs.waves.go_on.Goals as goal

pub join_refuted-requires : goal.join_refuted-requires
join_refuted-requires g c =
    let f = c.args.formula.now in
    let vars = c.args.vars.now in
    let wave = c.in_ok-wave.wave.items in
    let first = length c.args.ends.now.items in
    record {
      so_far = c.requires.so_far;
      room = omega (arith, ap (λ (rs : List (Result Solved Memory)). length rs) c.deref.ensures.value, c.in_ok-wave.ensures.count, c.requires.room);
      refuted = subst (AreRefuted f vars first) (sym c.deref.ensures.value)
          (solved_refuted f vars first c.args.budget wave
          (subst (λ (n : ℕ). AreSolved f vars n c.args.budget wave) (let e : c.len.result ≡ first = omega (arith, c.len.ensures, c.args.ends.now.ok.0) in e) c.in_ok-wave.ensures.solved));
    }

pub left_of-requires : goal.left_of-requires
left_of-requires g c =
    let wave = c.in_ok-wave.wave.items in
    let joins = c.in_ok-joins.joins in
    let r = c.swap_remove.result in
    let below : joins < length wave = omega (arith, c.if-joins-len.false, c.len-2.ensures, c.in_ok-wave.wave.ok.0) in
    open_at wave joins r c.in_ok-open.open
    (subst (λ (rs : List (Result Solved Memory)). IfOk (get_or rs joins r) IsOpen) c.deref.ensures.value
    (c.in_ok-joins.ensures.next r (omega (arith, below, ap (λ (rs : List (Result Solved Memory)). length rs) c.deref.ensures.value))))
    c.swap_remove.ensures.value c.in_ok-open.was

pub returns-clause-left : goal.returns-clause-left
returns-clause-left g c =
    let f = c.args.formula.now in
    let vars = c.args.vars.now in
    let wave = c.in_ok-wave.wave.items in
    let joins = c.in_ok-joins.joins in
    let first = length c.args.ends.now.items in
    let now = length c.join_refuted.new.ends.items in
    let below : joins < length wave = omega (arith, c.if-joins-len.false, c.len-2.ensures, c.in_ok-wave.wave.ok.0) in (
      omega (arith, c.in_ok-joins.ensures.count, below, c.in_ok-wave.ensures.count, c.requires.room),
      c.left_of.ensures f (cube_literals now vars) c.args.budget
          (solved_at f vars first c.args.budget wave joins now c.swap_remove.result c.in_ok-open.open
          (subst (λ (n : ℕ). AreSolved f vars n c.args.budget wave) (let e : c.len.result ≡ first = omega (arith, c.len.ensures, c.args.ends.now.ok.0) in e) c.in_ok-wave.ensures.solved)
          below c.swap_remove.ensures.value c.in_ok-open.was c.in_ok-joins.ensures.count),
    )

pub returns-clause-refuted_within : goal.returns-clause-refuted_within
returns-clause-refuted_within g c =
    let f = c.args.formula.now in
    let vars = c.args.vars.now in
    let first = length c.args.ends.now.items in
    c.in_ok-joins.ensures.refuted_within c.args.budget
    (subst (AreSolved f vars first c.args.budget) (sym c.deref.ensures.value)
    (subst (λ (n : ℕ). AreSolved f vars n c.args.budget c.in_ok-wave.wave.items) (let e : c.len.result ≡ first = omega (arith, c.len.ensures, c.args.ends.now.ok.0) in e) c.in_ok-wave.ensures.solved))
    c.requires.refuted_within

pub returns-then-joins-len-clause-refuted_within : goal.returns-then-joins-len-clause-refuted_within
returns-then-joins-len-clause-refuted_within g c =
    let f = c.args.formula.now in
    let vars = c.args.vars.now in
    let first = length c.args.ends.now.items in
    c.in_ok-joins.ensures.refuted_within c.args.budget
    (subst (AreSolved f vars first c.args.budget) (sym c.deref.ensures.value)
    (subst (λ (n : ℕ). AreSolved f vars n c.args.budget c.in_ok-wave.wave.items) (let e : c.len.result ≡ first = omega (arith, c.len.ensures, c.args.ends.now.ok.0) in e) c.in_ok-wave.ensures.solved))
    c.requires.refuted_within
