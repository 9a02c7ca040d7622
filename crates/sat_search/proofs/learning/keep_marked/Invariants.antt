use Rattle.std.proofs.Common.{take}
use Rattle.sat_search.specs.Analysis.{KeepsMarked}
use Rattle.sat_search.proofs.learning.keep_marked.Given as goal

abbrev pub invariant-loop-place : goal.invariant-loop-place
invariant-loop-place l = KeepsMarked (take l.place l.trail) l.marks l.fn.lits.items l.lits.items
