use Rattle.std.proofs.Common.{sym, ap, ◌∙◌}
use Rattle.sat_text.specs.Proofs.{whole_at}
use Rattle.sat_text.specs.Words.{behind_line}
use Rattle.sat_text.proofs.Heads.{line_behind_word}
use Rattle.sat_text.proofs.LineSteps.{ahead, number_none, number_some}
use Rattle.sat_text.proofs.items.whole_at.Goals as goal

pub returns-in-Some-clause-value : goal.returns-in-Some-clause-value
returns-in-Some-clause-value c =
    ap whole_at (sym c.behind_blanks.ensures.words)
    ∙ number_some c.behind_blanks.result.now c.in-Some.found.1.now c.in-Some.found.0 (ahead c.behind_blanks.result.now c.behind_blanks.ensures.no_blank) c.in-Some.ensures.value.0 c.in-Some.ensures.value.1

pub returns-in-Some-clause-line : goal.returns-in-Some-clause-line
returns-in-Some-clause-line c = ap behind_line c.in-Some.ensures.value.1 ∙ line_behind_word c.behind_blanks.result.now ∙ c.behind_blanks.ensures.line

pub returns-in-None-clause-value : goal.returns-in-None-clause-value
returns-in-None-clause-value c =
    ap whole_at (sym c.behind_blanks.ensures.words)
    ∙ number_none c.behind_blanks.result.now (ahead c.behind_blanks.result.now c.behind_blanks.ensures.no_blank) c.in-None.ensures.value
