use Rattle.std.proofs.Common.{◌≡◌, ◌+◌, ◌≤◌, length}
use Rattle.sat_text.specs.Words.{lines}
use Rattle.sat_text.proofs.formula.last_line.Given as goal

abbrev pub invariant-loop-later : goal.invariant-loop-later
invariant-loop-later l = (l.count + length (lines l.rest) ≡ length (lines l.text)) × (l.count + length l.rest ≤ length l.text)

abbrev pub decreases-loop-later : goal.decreases-loop-later
decreases-loop-later l = length l.rest
