use Rattle.std.proofs.Common.{true, false, sym, ap, ◌∙◌}
use Rattle.sat_text.specs.Words.{has_no_word}
use Rattle.sat_text.proofs.LineSteps.{comment_silent, follows, words_silent}
use Rattle.sat_text.proofs.words.silent_line.Goals as goal

pub returns-then-is_comment_line : goal.returns-then-is_comment_line
returns-then-is_comment_line c = (comment_silent c.args.text.now (sym c.is_comment_line.ensures ∙ c.if-is_comment_line.true), c.split_line.ensures.later)

pub returns : goal.returns
returns c =
    let quiet = sym c.is_comment_line.ensures ∙ c.if-is_comment_line.false in
    follows c.line_end.result (words_silent c.args.text.now false quiet) (λ later h. (words_silent c.args.text.now true quiet (ap has_no_word h.0), h.1)) c.line_end.ensures
