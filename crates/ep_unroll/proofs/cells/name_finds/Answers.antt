use Rattle.ep_unroll.proofs.Words.{◌≡◌, ℕ, ◌+◌, ◌-◌, ◌<◌, ap, refl, sym, length, drop, ◌∙◌, arith, map, drop_all, env_of, find_of, put_all, cells_bound}
use Rattle.ep_unroll.proofs.CellNames.{named_more, named_none}
use Rattle.ep_unroll.proofs.cells.name_finds.Goals as goal

pub loop-passed-init : goal.loop-passed-init
loop-passed-init c = record {
  known = named_none (env_of c.args.env.now) ∙ sym (ap (λ fs. put_all (cells_bound (map find_of fs)) (env_of c.args.env.now)) (drop_all (length c.args.finds.now - 0) c.args.finds.now (omega arith)));
  mode = refl;
}

pub loop-passed-preserved : goal.loop-passed-preserved
loop-passed-preserved c =
    let finds = c.args.finds.now in
    let start = env_of c.args.env.now in
    let k : ℕ = length finds - 1 - c.loop-passed.passed in
    let within : c.loop-passed.passed < length finds = c.loop-passed-test.true in
    let here : length finds - c.loop-passed.passed ≡ k + 1 = omega (arith, within) in
    let there : length finds - (c.loop-passed.passed + 1) ≡ k = omega (arith, within) in
    record {
      known =
          named_more finds k c.index-finds-count.result _ (env_of c.loop-passed.env) (env_of c.name_find.new.env) start (omega (arith, within)) c.index-finds-count.is
          (c.loop-passed.invariant.known ∙ ap (λ n. put_all (cells_bound (map find_of (drop n finds))) start) here) c.in_ok-name_find.ensures.known
          ∙ sym (ap (λ n. put_all (cells_bound (map find_of (drop n finds))) start) there);
      mode = c.name_find.ensures.mode ∙ c.loop-passed.invariant.mode;
    }

pub returns-clause-known : goal.returns-clause-known
returns-clause-known c =
    let finds = c.args.finds.now in
    let none : length finds - c.loop-passed.passed ≡ 0 = omega (arith, c.loop-passed-test.false) in
    c.loop-passed.invariant.known ∙ ap (λ n. put_all (cells_bound (map find_of (drop n finds))) (env_of c.args.env.now)) none
