use Rattle.std.specs.Prelude.{◌≡◌, ◌<◌, ℕ, ◌∷◌, List, All, length}
use Rattle.cnf_core.specs.Literal.{Literal}
use Rattle.sat_join.specs.Joins.{Divides, IsClosing}
use Rattle.sat_join.proofs.Pairs.{IsHalfDone}
use Rattle.sat_join.proofs.closing.halved.Given as goal

abbrev pub invariant-loop-cube : goal.invariant-loop-cube
invariant-loop-cube l = record {
  half : (clauses : List (List Literal)) (v : ℕ) → Divides clauses (v ∷ l.vars) → IsClosing clauses (v ∷ l.vars) l.ends l.fn.joined.events
      → IsHalfDone clauses v l.vars l.ends l.halves.items l.fn.joined.events l.joined.events;
  count : length l.halves.items ≡ l.cube;
  there : All (λ e. e < length l.joined.events) l.ends;
  notes : l.joined.notes ≡ l.fn.joined.notes;
  base : l.joined.base ≡ l.fn.joined.base;
}
