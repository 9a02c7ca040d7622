use Rattle.std.proofs.Common.{◌≡◌, ◌++◌, take, vec_capacity}
use Rattle.sat_state.proofs.rows.append.Given as goal

abbrev pub invariant-loop-lit : goal.invariant-loop-lit
invariant-loop-lit l = (l.kept.items ≡ l.fn.kept.items ++ take l.lit-index l.lits) × (vec_capacity l.kept ≡ vec_capacity l.fn.kept)
