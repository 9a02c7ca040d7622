use Rattle.ep_size.proofs.Words.{◌≡◌, ◌≤◌, ◌-◌, drop, length, env_of, MOST_TOLD}
use Rattle.ep_size.proofs.CellSteps.{CellsSoFar}
use Rattle.ep_size.proofs.cells.name_cells.Given as goal

abbrev pub invariant-loop-passed : goal.invariant-loop-passed
invariant-loop-passed l = record {
  cells : CellsSoFar l.totals (env_of l.env) (env_of l.fn.env) (drop (length l.finds - l.passed) l.finds);
  mode : l.env.mode ≡ l.fn.env.mode;
  told : l.totals.weight ≤ MOST_TOLD;
}
