use Rattle.std.specs.Prelude.{◌≡◌, map, take}
use Rattle.cnf_core.specs.Literal.{negation}
use Rattle.sat_join.proofs.places.negated.Given as goal

abbrev pub invariant-loop-lit : goal.invariant-loop-lit
invariant-loop-lit l = l.all.items ≡ map negation (take l.lit-index l.literals)
