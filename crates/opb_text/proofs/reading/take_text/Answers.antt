use Rattle.std.proofs.Common.{◌≡◌, ◌+◌, ◌∷◌, length, ap, sym, ◌∙◌, arith}
use Rattle.sat_text.specs.Words.{lines}
use Rattle.opb_text.specs.Views.{plain_reader}
use Rattle.opb_text.proofs.ReadingSteps.{run_comment, run_ends, last_is}
use Rattle.opb_text.proofs.reading.take_text.Goals as goal

pub loop-line-preserved : goal.loop-line-preserved
loop-line-preserved c =
    let one : length (lines c.loop-line.rest.now) ≡ length (c.in-Some.line.now ∷ lines c.in-Some.later.now) = ap length c.in-Some.ensures.cuts in (
      c.loop-line.invariant.0
          ∙ run_comment (plain_reader c.loop-line.reader) (c.loop-line.number + 1) (lines c.loop-line.rest.now) (lines c.in-Some.later.now) c.in-Some.line.now c.in-Some.ensures.cuts (sym c.is_comment_line.ensures ∙ c.if-not-is_comment_line.false),
      omega (arith, c.loop-line.invariant.1, c.in-Some.ensures.shorter),
      omega (arith, c.loop-line.invariant.2, one),
    )

pub returns : goal.returns
returns c =
    let none : length (lines c.loop-line.rest.now) ≡ 0 = ap length c.in_default.ensures.cuts in (
      c.loop-line.invariant.0 ∙ run_ends (plain_reader c.loop-line.reader) (c.loop-line.number + 1) (lines c.loop-line.rest.now) c.in_default.ensures.cuts,
      c.max.ensures ∙ last_is c.loop-line.number (length (lines c.args.text.now)) (omega (arith, c.loop-line.invariant.2, none)),
    )
