use Rattle.std.proofs.Common.{◌≡◌, ◌≤◌, length}
use Rattle.sat_text.specs.Words.{behind_line, first_line, words}
use Rattle.sat_text.proofs.words.behind_blanks.Given as goal

abbrev pub invariant-loop-rest : goal.invariant-loop-rest
invariant-loop-rest l = (words (first_line l.rest) ≡ words (first_line l.text)) × (behind_line l.rest ≡ behind_line l.text) × (length l.rest ≤ length l.text)

abbrev pub decreases-loop-rest : goal.decreases-loop-rest
decreases-loop-rest l = length l.rest
