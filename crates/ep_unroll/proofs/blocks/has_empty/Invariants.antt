use Rattle.ep_unroll.proofs.Words.{◌≡◌, ◌≤◌, drop, cell_count}
use Rattle.ep_unroll.proofs.blocks.has_empty.Given as goal

abbrev pub invariant-loop-domain : goal.invariant-loop-domain
invariant-loop-domain l = record {
  empty : cell_count (drop l.domain-index l.domains) ≡ 0 → cell_count l.domains ≡ 0;
  filled : 1 ≤ cell_count (drop l.domain-index l.domains) → 1 ≤ cell_count l.domains;
}
