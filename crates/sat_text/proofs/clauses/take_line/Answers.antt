use Rattle.std.proofs.Common.{ℕ, ℤ, List, ◌++◌, Some, refl, sym, ap, subst, ◌∙◌, arith}
use Rattle.std.proofs.lemmas.Result.{err_from_is_err_and}
use Rattle.sat_text.specs.Words.{words, first_line, behind_line, first_word, PlacedWord, words_on}
use Rattle.sat_text.specs.Cnf.{Completes}
use Rattle.sat_text.proofs.ItemSteps.{stored}
use Rattle.sat_text.proofs.ClauseSteps.{wrong_word}
use Rattle.sat_text.proofs.Heads.{word_next, line_behind_word}
use Rattle.sat_text.proofs.clauses.take_line.Goals as goal

pub returns-in_default-next_whole-clause-next : goal.returns-in_default-next_whole-clause-next
returns-in_default-next_whole-clause-next c = λ last later answer h.
    let rest : List ℕ = c.loop-rest.rest.now in
    let next = word_next c.args.number rest _ later (omega (arith, c.in-len1-up.len_at_least)) c.if-b-eq10.false (sym c.blank.ensures ∙ c.if-blank.false) refl in
    wrong_word last c.loop-rest.f c.loop-rest.left c.loop-rest.begun.items (record { line = c.args.number; bytes = first_word rest }) _ answer c.in_default-next_whole.ensures.value
    (subst (λ (ws : List PlacedWord). Completes last c.loop-rest.f c.loop-rest.left c.loop-rest.begun.items ws answer) next (c.loop-rest.invariant.2 last later answer h))

pub returns-in_err-take_number-clause-next : goal.returns-in_err-take_number-clause-next
returns-in_err-take_number-clause-next c = λ last later answer h.
    let rest : List ℕ = c.loop-rest.rest.now in
    let next = word_next c.args.number rest c.in-Some.after.now later (omega (arith, c.in-len1-up.len_at_least)) c.if-b-eq10.false (sym c.blank.ensures ∙ c.if-blank.false) c.in-Some.ensures.value.1 in
    let p = err_from_is_err_and c.from_residual.result c.from_residual.ensures.1 in
    rw (p.1, p.2) (c.in_err-take_number.ensures.next last (record { line = c.args.number; bytes = first_word rest }) (words_on c.args.number (words (first_line c.in-Some.after.now)) ++ later) answer refl
    (c.in-Some.ensures.value.0 ∙ ap (λ (m : ℤ). Some m) (sym (stored c.in-Some.found c.in-Some.ensures.small)))
    (subst (λ (ws : List PlacedWord). Completes last c.loop-rest.f c.loop-rest.left c.loop-rest.begun.items ws answer) next (c.loop-rest.invariant.2 last later answer h)))

pub loop-rest-preserved : goal.loop-rest-preserved
loop-rest-preserved c =
    let rest : List ℕ = c.loop-rest.rest.now in (
      c.in_ok-take_number.ensures.small,
      c.in_ok-take_number.ensures.vars ∙ c.loop-rest.invariant.1,
      λ last later answer h.
          let next = word_next c.args.number rest c.in-Some.after.now later (omega (arith, c.in-len1-up.len_at_least)) c.if-b-eq10.false (sym c.blank.ensures ∙ c.if-blank.false) c.in-Some.ensures.value.1 in
          c.in_ok-take_number.ensures.next last (record { line = c.args.number; bytes = first_word rest }) (words_on c.args.number (words (first_line c.in-Some.after.now)) ++ later) answer refl
          (c.in-Some.ensures.value.0 ∙ ap (λ (m : ℤ). Some m) (sym (stored c.in-Some.found c.in-Some.ensures.small)))
          (subst (λ (ws : List PlacedWord). Completes last c.loop-rest.f c.loop-rest.left c.loop-rest.begun.items ws answer) next (c.loop-rest.invariant.2 last later answer h)),
      c.in_ok-take_number.ensures.origin ∙ c.loop-rest.invariant.3,
      ap behind_line c.in-Some.ensures.value.1 ∙ line_behind_word rest ∙ c.loop-rest.invariant.4,
    )
