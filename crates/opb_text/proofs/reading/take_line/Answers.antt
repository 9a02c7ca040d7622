use Rattle.std.proofs.Common.{◌∙◌}
use Rattle.opb_text.specs.Words.{line_words}
use Rattle.opb_text.specs.Views.{plain_reader}
use Rattle.opb_text.proofs.ReadingSteps.{run_takes, run_stops, run_none}
use Rattle.opb_text.proofs.reading.take_line.Goals as goal

pub loop-word-preserved : goal.loop-word-preserved
loop-word-preserved c = λ later.
    c.loop-word.invariant later
    ∙ run_takes (plain_reader c.loop-word.reader) (plain_reader c.take_word.new.reader) c.args.number (line_words c.loop-word.rest.now) (line_words c.in-Some.after.now) c.in-Some.word.now later c.in-Some.ensures.cuts c.in-Ok.ensures

pub returns-in-Err-Wrong : goal.returns-in-Err-Wrong
returns-in-Err-Wrong c = λ later.
    let taken = c.in-Err-Wrong.ensures in
    c.loop-word.invariant later
    ∙ run_stops (plain_reader c.loop-word.reader) c.args.number (line_words c.loop-word.rest.now) (line_words c.in-Some.after.now) c.in-Some.word.now later c.in-Some.ensures.cuts (rw c.in-Err-Wrong.field-0-is at taken)

pub returns : goal.returns
returns c = λ later.
    c.loop-word.invariant later
    ∙ run_none (plain_reader c.loop-word.reader) c.args.number (line_words c.loop-word.rest.now) later c.in_default.ensures.cuts
