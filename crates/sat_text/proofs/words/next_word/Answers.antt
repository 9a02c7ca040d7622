use Rattle.std.proofs.Common.{sym}
use Rattle.sat_text.proofs.Cuts.{word_none, word_taken, word_last}
use Rattle.sat_text.proofs.words.next_word.Goals as goal

pub returns-in_err-start : goal.returns-in_err-start
returns-in_err-start c = rw c.from_residual.ensures (record { cuts = word_none c.args.line.now (sym c.in_err-start.ensures); shorter = tt })

pub returns-in-Some-clause-cuts : goal.returns-in-Some-clause-cuts
returns-in-Some-clause-cuts c =
    word_taken c.args.line.now c.split_at.result.1.now c.split_at-in-Some.result.1.now c.in_ok-start.start c.in-Some.end c.in_ok-start.ensures c.split_at.ensures.back c.in-Some.ensures c.split_at-in-Some.ensures.back

pub returns-in-None-clause-cuts : goal.returns-in-None-clause-cuts
returns-in-None-clause-cuts c = word_last c.args.line.now c.split_at.result.1.now c.in_ok-start.start c.in_ok-start.ensures c.split_at.ensures.back c.in-None.ensures
