use Rattle.std.proofs.Common.{◌≡◌, ◌+◌, true, get_or, drop, sym, ap, ◌∙◌, arith}
use Rattle.ep_base.specs.Tokens.{separates, gap_len, place_after}
use Rattle.ep_lexer.proofs.PlaceSteps.{place_step, place_small, gap_goes_on}
use Rattle.ep_lexer.proofs.cursor.skip_gap.Goals as goal

pub after-place-requires-clause-line : goal.after-place-requires-clause-line
after-place-requires-clause-line c =
    let small = place_small c.args.text.now c.loop-offset.offset c.loop-offset.invariant.within in
    let same = ap (λ p. p.line) c.loop-offset.invariant.place in
    omega (arith, small.0)

pub after-place-requires-clause-column : goal.after-place-requires-clause-column
after-place-requires-clause-column c =
    let small = place_small c.args.text.now c.loop-offset.offset c.loop-offset.invariant.within in
    let same = ap (λ p. p.column) c.loop-offset.invariant.place in
    omega (arith, small.1)

pub loop-offset-preserved : goal.loop-offset-preserved
loop-offset-preserved c =
    let text = c.args.text.now in
    let i = c.loop-offset.offset in
    let here : separates c.loop-offset.in_comment (get_or text i 0) ≡ true = cc in
    let gap = gap_goes_on c.loop-offset.in_comment text i c.loop-offset-test.true here in
    let next = ap (λ b. gap_len b (drop (i + 1) text)) c.in_comment_after-in_comment.ensures in
    record {
      within = omega arith;
      place = c.after-place.ensures ∙ ap (λ p. place_after p (get_or text i 0)) c.loop-offset.invariant.place ∙ sym (place_step text i c.loop-offset-test.true);
      gap = omega arith;
    }
