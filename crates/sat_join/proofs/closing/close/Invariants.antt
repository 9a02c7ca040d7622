use Rattle.std.specs.Prelude.{◌≡◌, length}
use Rattle.sat_join.specs.Joins.{Divides, IsClosing, KeepsNew}
use Rattle.sat_join.proofs.closing.close.Given as goal

abbrev pub invariant-loop-later : goal.invariant-loop-later
invariant-loop-later l = record {
  divides : Divides l.formula.clauses l.rest;
  closing : IsClosing l.formula.clauses l.rest l.ends.items l.joined.events;
  new_steps : KeepsNew l.fn.joined.events l.joined.events;
  notes : l.joined.notes ≡ l.fn.joined.notes;
  base : l.joined.base ≡ l.fn.joined.base;
}

abbrev pub decreases-loop-later : goal.decreases-loop-later
decreases-loop-later l = length l.rest
