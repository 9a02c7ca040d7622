use Rattle.std.proofs.Common.{◌≡◌, ◌++◌, take, vec_capacity}
use Rattle.cnf_core.proofs.entries.append.Given as goal

abbrev pub invariant-loop-hint : goal.invariant-loop-hint
invariant-loop-hint l = (l.kept.items ≡ l.fn.kept.items ++ take l.hint-index l.hints) × (vec_capacity l.kept ≡ vec_capacity l.fn.kept)
