use Rattle.std.proofs.Common.{◌≡◌, ◌++◌, List, length}
use Rattle.sat_text.specs.Words.{words_on, PlacedWord}
use Rattle.opb_text.specs.Words.{line_words}
use Rattle.opb_text.specs.Reading.{run}
use Rattle.opb_text.specs.Views.{plain_reader}
use Rattle.opb_text.proofs.reading.take_line.Given as goal

abbrev pub invariant-loop-word : goal.invariant-loop-word
invariant-loop-word l =
    (later : List PlacedWord) → run (plain_reader l.initial.reader) (words_on l.number (line_words l.line) ++ later)
    ≡ run (plain_reader l.reader) (words_on l.number (line_words l.rest) ++ later)

abbrev pub decreases-loop-word : goal.decreases-loop-word
decreases-loop-word l = length l.rest
