use Rattle.std.specs.Prelude.{◌≡◌, take}
use Rattle.cnf_core.specs.Events.{clauses_of}
use Rattle.sat_merge.proofs.formulas.formula_of.Given as goal

abbrev pub invariant-loop-place : goal.invariant-loop-place
invariant-loop-place l = record {
  clauses : l.own.clauses ≡ clauses_of (take l.place l.events);
  vars : l.own.vars ≡ l.fn.vars;
}
