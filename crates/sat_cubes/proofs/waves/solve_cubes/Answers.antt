use Rattle.std.proofs.Common.{◌≡◌, ℕ, ◌+◌, ◌^◌, ◌<◌, ◌≤◌, IfSome, List, length, ap, ◌∙◌, sym, subst, arith}
use Rattle.sat_split.specs.Cubes.{cube_literals}
use Rattle.sat_join.specs.Joins.{Divides, RefutesCubes}
use Rattle.sat_cubes.specs.Answers.{AreRefutedWithin}
use Rattle.sat_cubes.specs.Solving.{IsOpenCube, IsSoFar}
use Rattle.sat_cubes.specs.declared.solving.OpenCube.{OpenCube}
use Rattle.std.specs.Prelude.{Option}
use Rattle.sat_cubes.proofs.Waving.{divided, so_far_none, within_none, ends_unsat}
use Rattle.sat_cubes.proofs.waves.solve_cubes.Goals as goal

pub waves-init : goal.waves-init
waves-init g c =
    let f = c.args.formula.now in
    let vars = c.in_ok-vars.vars.items in
    record {
      so_far =
          subst (λ (es : List ℕ). IsSoFar f vars es c.in_ok-joined.joined) (sym c.new-ends.ensures.items)
          (so_far_none f vars c.in_ok-joined.joined c.clauses-clauses.ensures.clauses (divided f.clauses c.args.cubes vars c.in_ok-vars.ensures.are c.in_ok-vars.ensures.variables) c.in_ok-joined.ensures);
      refuted_within = subst (λ (es : List ℕ). AreRefutedWithin f.clauses vars (length es) c.args.budget) (sym c.new-ends.ensures.items) (within_none f.clauses vars c.args.budget);
    }

pub go_on-requires : goal.go_on-requires
go_on-requires g c =
    let vars = c.in_ok-vars.vars.items in
    let back = sym c.deref.ensures.value in
    let inv = c.waves.invariant.so_far in
    let total : c.cubes_over-total.result ≡ 2 ^ length vars = c.cubes_over-total.ensures ∙ ap (λ (n : ℕ). 2 ^ n) (let e : c.len.result ≡ length vars = omega (arith, c.len.ensures, c.in_ok-vars.vars.ok.0) in e) in (
      c.type_bounds.sync-R,
      (
        c.type_bounds.sync-G,
        (
          subst (λ (vs : List ℕ). IsSoFar c.args.formula.now vs c.waves.ends.items c.waves.joined) back inv,
          (
            subst (λ (vs : List ℕ). length c.waves.ends.items + c.min-count.result ≤ 2 ^ length vs) back
                (omega (arith, total, c.min-count.ensures, c.len-in-waves-2.ensures, c.waves.ends.ok.0, inv.within)),
            (
              subst (λ (vs : List ℕ). 2 ^ length vs < 2 ^ 64) back (omega (arith, total, c.cubes_over-total.type_inv)),
              subst (λ (vs : List ℕ). AreRefutedWithin c.args.formula.now.clauses vs (length c.waves.ends.items) c.args.budget) back c.waves.invariant.refuted_within,
            ),
          ),
        ),
      ),
    )

pub returns-in-Some : goal.returns-in-Some
returns-in-Some g c =
    let f = c.args.formula.now in
    let vars = c.in_ok-vars.vars.items in
    let is = c.deref.ensures.value in
    let ends = c.go_on.new.ends.items in
    let both =
    subst (λ (o : Option OpenCube). IfSome o (λ one. (length ends < 2 ^ length vars) × IsOpenCube f (cube_literals (length ends) vars) c.args.budget one)) c.in-Some.is
    (subst (λ (vs : List ℕ). IfSome c.in_ok-left.left (λ one. (length ends < 2 ^ length vs) × IsOpenCube f (cube_literals (length ends) vs) c.args.budget one)) is c.in_ok-left.ensures.left) in
    record {
      vars = vars;
      are = c.in_ok-vars.ensures.are;
      answer = c.ended.ensures f vars ends c.args.budget (subst (λ (vs : List ℕ). IsSoFar f vs ends c.go_on.new.joined) is c.in_ok-left.ensures.so_far)
          (subst (λ (vs : List ℕ). AreRefutedWithin f.clauses vs (length ends) c.args.budget) is c.in_ok-left.ensures.refuted_within)
          (omega (arith, c.len-in-Some.ensures, c.go_on.new.ends.ok.0)) both.0 both.1;
    }

pub close-requires : goal.close-requires
close-requires g c =
    let clauses = c.args.formula.now.clauses in
    let vars = c.in_ok-vars.vars.items in
    let back = sym c.deref-2.ensures.value in
    let inv = c.waves.invariant.so_far in
    let ends = c.waves.ends.items in
    let total : c.cubes_over-total.result ≡ 2 ^ length vars = c.cubes_over-total.ensures ∙ ap (λ (n : ℕ). 2 ^ n) (let e : c.len.result ≡ length vars = omega (arith, c.len.ensures, c.in_ok-vars.vars.ok.0) in e) in
    record {
      divides = subst (Divides clauses) back inv.divides;
      joint = subst (λ (vs : List ℕ). RefutesCubes clauses vs ends c.waves.joined.events) back inv.joint;
      all = subst (λ (vs : List ℕ). length ends ≡ 2 ^ length vs) back (omega (arith, total, c.waves-test.false, c.len-in-waves.ensures, c.waves.ends.ok.0, inv.within));
    }

pub returns : goal.returns
returns g c =
    let vars = c.in_ok-vars.vars.items in
    let inv = c.waves.invariant.so_far in
    let total : c.cubes_over-total.result ≡ 2 ^ length vars = c.cubes_over-total.ensures ∙ ap (λ (n : ℕ). 2 ^ n) (let e : c.len.result ≡ length vars = omega (arith, c.len.ensures, c.in_ok-vars.vars.ok.0) in e) in
    let all : length c.waves.ends.items ≡ 2 ^ length vars = omega (arith, total, c.waves-test.false, c.len-in-waves.ensures, c.waves.ends.ok.0, inv.within) in
    record {
      vars = vars;
      are = c.in_ok-vars.ensures.are;
      answer = (
        ends_unsat c.args.formula.now vars c.args.budget c.close.new.joined.events
            (subst (λ (n : ℕ). AreRefutedWithin c.args.formula.now.clauses vars n c.args.budget) all c.waves.invariant.refuted_within) c.in_ok-close.ensures.joined (c.in_ok-close.ensures.new inv.new) c.in_ok-close.ensures.ends,
        (c.in_ok-close.ensures.notes ∙ inv.notes, c.in_ok-close.ensures.base ∙ inv.base),
      );
    }
