use Rattle.std.specs.Prelude.{List, [], ◌∷◌, ◌++◌, take}
use Rattle.cnf_core.specs.Literal.{Literal}
use Rattle.sat_split.specs.Found.{IsLeastAbove}
use Rattle.sat_split.proofs.variables.least_with.Given as goal

abbrev pub invariant-loop-lit : goal.invariant-loop-lit
invariant-loop-lit l =
    (clauses : List (List Literal)) → IsLeastAbove l.above clauses l.fn.so_far
    → IsLeastAbove l.above (clauses ++ take l.lit-index l.clause ∷ []) l.least
