use Rattle.std.proofs.Common.{◌≡◌, ◌+◌, ◌≤◌, length}
use Rattle.sat_text.specs.Words.{lines}
use Rattle.opb_text.specs.Words.{placed_opb_words, opb_text_words}
use Rattle.opb_text.specs.Reading.{start, run}
use Rattle.opb_text.specs.Views.{plain_reader}
use Rattle.opb_text.proofs.reading.take_text.Given as goal

abbrev pub invariant-loop-line : goal.invariant-loop-line
invariant-loop-line l =
    (run start (placed_opb_words l.text) ≡ run (plain_reader l.reader) (opb_text_words (l.number + 1) (lines l.rest)))
    × (l.number + length l.rest ≤ length l.text)
    × (l.number + length (lines l.rest) ≡ length (lines l.text))

abbrev pub decreases-loop-line : goal.decreases-loop-line
decreases-loop-line l = length l.rest
