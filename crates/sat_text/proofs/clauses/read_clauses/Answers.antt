use Rattle.std.proofs.Common.{◌+◌, ◌<◌, ℕ, List, [], length, sym, ap, subst, ◌∙◌, arith}
use Rattle.std.proofs.lemmas.Result.{err_from_is_err_and}
use Rattle.sat_text.specs.Words.{lines, behind_line, PlacedWord, text_words}
use Rattle.sat_text.specs.Cnf.{clauses_of_words, Completes}
use Rattle.sat_text.proofs.ClauseSteps.{clauses_done, clauses_wanting}
use Rattle.sat_text.proofs.Cuts.{some_bytes}
use Rattle.sat_text.proofs.Heads.{text_comment, text_line, behind_shorter, nothing_said}
use Rattle.sat_text.proofs.HeardSteps.{comment_heard, line_heard, all_heard}
use Rattle.sat_text.proofs.clauses.read_clauses.Goals as goal

pub loop-rest-smaller-then-is_comment_line : goal.loop-rest-smaller-then-is_comment_line
loop-rest-smaller-then-is_comment_line c =
    let some = some_bytes c.loop-rest.rest.now (sym c.loop-rest-test.true ∙ c.is_empty.ensures) in
    rw c.split_line.ensures.later (behind_shorter c.loop-rest.rest.now some)

pub loop-rest-preserved-then-is_comment_line : goal.loop-rest-preserved-then-is_comment_line
loop-rest-preserved-then-is_comment_line c =
    let some = some_bytes c.loop-rest.rest.now (sym c.loop-rest-test.true ∙ c.is_empty.ensures) in
    let shorter : length c.split_line.result.1.now < length c.loop-rest.rest.now = rw c.split_line.ensures.later (behind_shorter c.loop-rest.rest.now some) in (
      c.loop-rest.invariant.0,
      c.loop-rest.invariant.1,
      omega (arith, c.loop-rest.invariant.2, shorter),
      λ last.
          subst (λ (ws : List PlacedWord). Completes last c.loop-rest.f c.loop-rest.left c.loop-rest.begun.items ws (clauses_of_words last c.args.vars c.args.count [] (text_words (c.args.before + 1) (lines c.args.text.now))))
          (text_comment (c.loop-rest.number + 1) c.loop-rest.rest.now some (sym c.is_comment_line.ensures ∙ c.if-is_comment_line.true) ∙ ap (λ (t : List ℕ). text_words (c.loop-rest.number + 1 + 1) (lines t)) (sym c.split_line.ensures.later))
          (c.loop-rest.invariant.3 last),
      c.loop-rest.invariant.4,
      λ new h.
          c.loop-rest.invariant.5 new
          (comment_heard _ _ new c.loop-rest.rest.now c.split_line.result.0.now c.split_line.result.1.now some c.split_line.ensures.line c.split_line.ensures.later c.in_ok-hear.ensures h),
    )

pub returns-in_err-rest-clause-clauses : goal.returns-in_err-rest-clause-clauses
returns-in_err-rest-clause-clauses c = λ last.
    let some = some_bytes c.loop-rest.rest.now (sym c.loop-rest-test.true ∙ c.is_empty.ensures) in
    let p = err_from_is_err_and c.from_residual-in_err-rest.result c.from_residual-in_err-rest.ensures.1 in
    rw (p.1, p.2) (c.in_err-rest.ensures.next last (text_words (c.loop-rest.number + 1 + 1) (lines (behind_line c.loop-rest.rest.now))) (clauses_of_words last c.args.vars c.args.count [] (text_words (c.args.before + 1) (lines c.args.text.now)))
    (subst (λ (ws : List PlacedWord). Completes last c.loop-rest.f c.loop-rest.left c.loop-rest.begun.items ws (clauses_of_words last c.args.vars c.args.count [] (text_words (c.args.before + 1) (lines c.args.text.now))))
    (text_line (c.loop-rest.number + 1) c.loop-rest.rest.now some (sym c.is_comment_line.ensures ∙ c.if-is_comment_line.false)) (c.loop-rest.invariant.3 last)))

pub loop-rest-smaller : goal.loop-rest-smaller
loop-rest-smaller c =
    let some = some_bytes c.loop-rest.rest.now (sym c.loop-rest-test.true ∙ c.is_empty.ensures) in
    rw c.in_ok-rest.ensures.rest (behind_shorter c.loop-rest.rest.now some)

pub loop-rest-preserved : goal.loop-rest-preserved
loop-rest-preserved c =
    let some = some_bytes c.loop-rest.rest.now (sym c.loop-rest-test.true ∙ c.is_empty.ensures) in
    let shorter : length c.in_ok-rest.rest.now < length c.loop-rest.rest.now = rw c.in_ok-rest.ensures.rest (behind_shorter c.loop-rest.rest.now some) in (
      c.in_ok-rest.ensures.small,
      c.in_ok-rest.ensures.vars ∙ c.loop-rest.invariant.1,
      omega (arith, c.loop-rest.invariant.2, shorter),
      λ last.
          rw c.in_ok-rest.ensures.rest
          (c.in_ok-rest.ensures.next last (text_words (c.loop-rest.number + 1 + 1) (lines (behind_line c.loop-rest.rest.now))) (clauses_of_words last c.args.vars c.args.count [] (text_words (c.args.before + 1) (lines c.args.text.now)))
          (subst (λ (ws : List PlacedWord). Completes last c.loop-rest.f c.loop-rest.left c.loop-rest.begun.items ws (clauses_of_words last c.args.vars c.args.count [] (text_words (c.args.before + 1) (lines c.args.text.now))))
          (text_line (c.loop-rest.number + 1) c.loop-rest.rest.now some (sym c.is_comment_line.ensures ∙ c.if-is_comment_line.false)) (c.loop-rest.invariant.3 last))),
      c.in_ok-rest.ensures.origin ∙ c.loop-rest.invariant.4,
      λ new h. c.loop-rest.invariant.5 new (line_heard _ new c.loop-rest.rest.now c.in_ok-rest.rest.now some (sym c.is_comment_line.ensures ∙ c.if-is_comment_line.false) c.in_ok-rest.ensures.rest h),
    )

pub returns-then-left-eq0-clause-clauses : goal.returns-then-left-eq0-clause-clauses
returns-then-left-eq0-clause-clauses c = λ last.
    clauses_done last c.loop-rest.f c.loop-rest.left c.loop-rest.begun.items _ _ (c.loop-rest.invariant.3 last) (nothing_said (c.loop-rest.number + 1) c.loop-rest.rest.now (sym c.is_empty.ensures ∙ c.loop-rest-test.false)) c.if-left-eq0.true

pub returns-else-left-eq0-clause-clauses : goal.returns-else-left-eq0-clause-clauses
returns-else-left-eq0-clause-clauses c = λ last.
    clauses_wanting last c.loop-rest.f c.loop-rest.left c.loop-rest.begun.items _ _ (c.loop-rest.invariant.3 last) (nothing_said (c.loop-rest.number + 1) c.loop-rest.rest.now (sym c.is_empty.ensures ∙ c.loop-rest-test.false)) c.if-left-eq0.false

pub returns-then-left-eq0-clause-heard : goal.returns-then-left-eq0-clause-heard
returns-then-left-eq0-clause-heard c = c.loop-rest.invariant.5 _ (all_heard _ c.loop-rest.rest.now (sym c.is_empty.ensures ∙ c.loop-rest-test.false))
