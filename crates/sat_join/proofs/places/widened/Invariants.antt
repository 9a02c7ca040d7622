use Rattle.std.specs.Prelude.{◌≡◌, ◌++◌, map, take}
use Rattle.cnf_core.specs.Literal.{negation}
use Rattle.sat_join.proofs.places.widened.Given as goal

abbrev pub invariant-loop-lit : goal.invariant-loop-lit
invariant-loop-lit l = l.all.items ≡ map negation l.fn.literals ++ take l.lit-index l.clause
