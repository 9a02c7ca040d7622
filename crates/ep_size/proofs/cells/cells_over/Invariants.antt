use Rattle.ep_size.proofs.Words.{◌≡◌, ◌*◌, ◌≤◌, drop, cell_count, MOST_TOLD, capped}
use Rattle.ep_size.proofs.cells.cells_over.Given as goal

abbrev pub invariant-loop-set : goal.invariant-loop-set
invariant-loop-set l = record {
  whole : capped (l.cells * cell_count (drop l.set-index l.indices)) ≡ capped (cell_count l.indices);
  told : l.cells ≤ MOST_TOLD;
}
