use Rattle.std.proofs.Common.{◌≡◌, ℕ, ◌+◌, ◌≤◌, length}
use Rattle.sat_text.specs.Words.{lines, text_words}
use Rattle.sat_text.specs.Cnf.{first_word_line}
use Rattle.sat_text.proofs.formula.first_word.Given as goal

abbrev pub invariant-loop-line : goal.invariant-loop-line
invariant-loop-line l =
    ((last : ℕ) → first_word_line last (text_words (l.number + 1) (lines l.rest)) ≡ first_word_line last (text_words (l.before + 1) (lines l.text)))
    × (l.number + length l.rest ≤ l.before + length l.text)

abbrev pub decreases-loop-line : goal.decreases-loop-line
decreases-loop-line l = length l.rest
