use Rattle.std.proofs.Common.{◌≡◌, ℕ, ◌+◌, ◌≤◌, length}
use Rattle.sat_text.specs.Words.{lines}
use Rattle.sat_text.specs.Cnf.{formula_from}
use Rattle.sat_text.specs.Heard.{Heard}
use Rattle.sat_text.specs.declared.notes.Comments.{Comments}
use Rattle.sat_text.proofs.formula.read_formula.Given as goal

abbrev pub invariant-loop-line : goal.invariant-loop-line
invariant-loop-line l =
    ((last : ℕ) → formula_from last (l.number + 1) (lines l.rest) ≡ formula_from last 1 (lines l.text))
    × (l.number + length l.rest ≤ length l.text)
    × ((new : Comments) → Heard l.said new (lines l.rest) → Heard l.initial.said new (lines l.text))

abbrev pub decreases-loop-line : goal.decreases-loop-line
decreases-loop-line l = length l.rest
