-- What the sort and `dedup` leave.
use Rattle.cnf_core.proofs.Literals.{from_sort_and_dedup}
use Rattle.enc_atoms.proofs.clauses.in_order.Goals as goal

pub returns-clause-ordered : goal.returns-clause-ordered
returns-clause-ordered c = (from_sort_and_dedup _ _ _ c.sort_unstable.ensures.permutation c.sort_unstable.ensures.sorted c.dedup.ensures.filtered).0

pub returns-clause-same : goal.returns-clause-same
returns-clause-same c = (from_sort_and_dedup _ _ _ c.sort_unstable.ensures.permutation c.sort_unstable.ensures.sorted c.dedup.ensures.filtered).1
