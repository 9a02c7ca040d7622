use Rattle.std.specs.Prelude.{All, take}
use Rattle.cnf_core.specs.Events.{clauses_of}
use Rattle.sat_split.specs.Cubes.{IsFalseIn}
use Rattle.sat_join.proofs.places.find_false.Given as goal

abbrev pub invariant-loop-place : goal.invariant-loop-place
invariant-loop-place l = All (λ other. IsFalseIn l.literals other → ⊥) (clauses_of (take l.place l.events))
