use Rattle.std.proofs.Common.{sym, arith}
use Rattle.opb_text.proofs.Cutting.{no_word, starts_at, begins_word, next_cuts}
use Rattle.opb_text.proofs.words.next_word.Goals as goal

pub returns-in_err-start : goal.returns-in_err-start
returns-in_err-start c = rw c.from_residual.ensures (record { cuts = sym (no_word c.args.line.now c.in_err-start.ensures); shorter = tt })

pub word_length-end-requires : goal.word_length-end-requires
word_length-end-requires c =
    begins_word c.args.line.now c.split_at.result.1.now (starts_at c.args.line.now c.split_at.result.1.now c.in_ok-start.start c.in_ok-start.ensures c.split_at.ensures.back)

pub returns-clause-cuts : goal.returns-clause-cuts
returns-clause-cuts c =
    next_cuts c.args.line.now c.split_at.result.1.now c.split_at-2.result.0.now c.split_at-2.result.1.now c.word_length-end.result
    (starts_at c.args.line.now c.split_at.result.1.now c.in_ok-start.start c.in_ok-start.ensures c.split_at.ensures.back)
    c.word_length-end.ensures c.split_at-2.ensures.front c.split_at-2.ensures.back

pub returns-clause-shorter : goal.returns-clause-shorter
returns-clause-shorter c = omega (arith, c.split_at-2.ensures.back_len, c.split_at.ensures.back_len, c.word_length-end.ensures.some)
