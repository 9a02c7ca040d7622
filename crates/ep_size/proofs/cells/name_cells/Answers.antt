use Rattle.ep_size.proofs.Words.{◌≡◌, ℕ, ◌+◌, ◌-◌, ◌<◌, ap, refl, subst, sym, length, drop, ◌∙◌, arith, drop_all, err_from_is_err_and, env_of}
use Rattle.ep_size.proofs.CellSteps.{CellsSoFar, cells_begin, cells_more, cells_refused, finds_from}
use Rattle.ep_size.proofs.cells.name_cells.Goals as goal

pub loop-passed-init : goal.loop-passed-init
loop-passed-init c = record {
  cells =
      subst (CellsSoFar _ (env_of c.args.env.now) (env_of c.args.env.now))
      (sym (drop_all (length c.args.finds.now - 0) c.args.finds.now (omega arith))) (cells_begin (env_of c.args.env.now));
  mode = refl;
  told = omega arith;
}

pub loop-passed-preserved : goal.loop-passed-preserved
loop-passed-preserved c =
    let finds = c.args.finds.now in
    let k : ℕ = length finds - 1 - c.loop-passed.passed in
    let within : c.loop-passed.passed < length finds = c.loop-passed-test.true in
    let here : length finds - c.loop-passed.passed ≡ k + 1 = omega (arith, within) in
    let there : length finds - (c.loop-passed.passed + 1) ≡ k = omega (arith, within) in
    let cut = finds_from finds k c.index-finds-count.result _ (omega (arith, within)) c.index-finds-count.is in
    record {
      cells =
          subst (CellsSoFar c.in_ok-totals.totals (env_of c.name_find.new.env) (env_of c.args.env.now))
          (sym (ap (λ n. drop n finds) there ∙ cut))
          (cells_more c.loop-passed.totals c.in_ok-totals.totals (env_of c.loop-passed.env) (env_of c.name_find.new.env) (env_of c.args.env.now)
          c.index-finds-count.result (drop (k + 1) finds)
          (subst (λ n. CellsSoFar c.loop-passed.totals (env_of c.loop-passed.env) (env_of c.args.env.now) (drop n finds)) here c.loop-passed.invariant.cells)
          c.in_ok-totals.ensures.size c.in_ok-totals.ensures.within c.in_ok-totals.ensures.weight c.in_ok-name_find.ensures.known);
      mode = c.name_find.ensures.mode ∙ c.loop-passed.invariant.mode;
      told = omega (arith, c.in_ok-totals.ensures.weight);
    }

pub returns-in_err-totals-clause-cause : goal.returns-in_err-totals-clause-cause
returns-in_err-totals-clause-cause c =
    let finds = c.args.finds.now in
    let k : ℕ = length finds - 1 - c.loop-passed.passed in
    let within : c.loop-passed.passed < length finds = c.loop-passed-test.true in
    let here : length finds - c.loop-passed.passed ≡ k + 1 = omega (arith, within) in
    let p = err_from_is_err_and c.from_residual.result c.from_residual.ensures.1 in
    rw (p.1, p.2)
    (cells_refused finds k c.index-finds-count.result (drop (k + 1) finds) c.loop-passed.totals (env_of c.loop-passed.env) (env_of c.args.env.now) c.in_err-totals.field-0.0
    (finds_from finds k c.index-finds-count.result _ (omega (arith, within)) c.index-finds-count.is)
    (subst (λ n. CellsSoFar c.loop-passed.totals (env_of c.loop-passed.env) (env_of c.args.env.now) (drop n finds)) here c.loop-passed.invariant.cells)
    c.in_err-totals.ensures.cause)

pub returns-clause-known : goal.returns-clause-known
returns-clause-known c =
    let finds = c.args.finds.now in
    let none : length finds - c.loop-passed.passed ≡ 0 = omega (arith, c.loop-passed-test.false) in
    (subst (λ n. CellsSoFar c.loop-passed.totals (env_of c.loop-passed.env) (env_of c.args.env.now) (drop n finds)) none c.loop-passed.invariant.cells).known

pub returns-clause-cells : goal.returns-clause-cells
returns-clause-cells c =
    let finds = c.args.finds.now in
    let none : length finds - c.loop-passed.passed ≡ 0 = omega (arith, c.loop-passed-test.false) in
    (subst (λ n. CellsSoFar c.loop-passed.totals (env_of c.loop-passed.env) (env_of c.args.env.now) (drop n finds)) none c.loop-passed.invariant.cells).celled

pub with_cells-requires-clause-small : goal.with_cells-requires-clause-small
with_cells-requires-clause-small c = c.loop-passed.invariant.cells.celled.small

pub with_cells-requires-clause-told : goal.with_cells-requires-clause-told
with_cells-requires-clause-told c = c.loop-passed.invariant.told
