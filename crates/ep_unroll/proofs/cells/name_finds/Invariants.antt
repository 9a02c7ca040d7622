use Rattle.ep_unroll.proofs.Words.{◌≡◌, ◌-◌, drop, length, map, env_of, find_of, put_all, cells_bound}
use Rattle.ep_unroll.proofs.cells.name_finds.Given as goal

abbrev pub invariant-loop-passed : goal.invariant-loop-passed
invariant-loop-passed l = record {
  known : env_of l.env ≡ put_all (cells_bound (map find_of (drop (length l.finds - l.passed) l.finds))) (env_of l.fn.env);
  mode : l.env.mode ≡ l.fn.env.mode;
}
