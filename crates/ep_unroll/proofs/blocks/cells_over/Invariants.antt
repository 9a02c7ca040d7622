use Rattle.ep_unroll.proofs.Words.{◌≡◌, ◌*◌, drop, cell_count}
use Rattle.ep_unroll.proofs.blocks.cells_over.Given as goal

abbrev pub invariant-loop-domain : goal.invariant-loop-domain
invariant-loop-domain l = l.count * cell_count (drop l.domain-index l.domains) ≡ cell_count l.domains
