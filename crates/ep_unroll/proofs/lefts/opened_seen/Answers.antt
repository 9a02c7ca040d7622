use Rattle.ep_unroll.proofs.Words.{◌≡◌, ◌∙◌, Some, ap, arith, sym, w64, to_z, of_z, ints, to_z-of_z, held_value, seen_held, single, AreTerms, worth}
use Rattle.ep_unroll.proofs.FormValues.{if_ok}
use Rattle.ep_unroll.proofs.lefts.opened_seen.Goals as goal

pub returns-in-Number-clause-worth : goal.returns-in-Number-clause-worth
unfolding worth held_value
returns-in-Number-clause-worth c nodes numbers =
    let n = c.in-Number.number in
    let word : to_z w64 (of_z w64 n) ≡ n = to_z-of_z w64 n (omega (arith, ints)) in
    ap (λ m. Some (single m)) word ∙ ap (λ h. Some (held_value h)) (sym c.in-Number.is) ∙ ap seen_held (sym c.in-Some.is)

pub returns-in-Number-clause-terms : goal.returns-in-Number-clause-terms
unfolding AreTerms
returns-in-Number-clause-terms c count = tt

pub returns-in-Lent-clause-worth : goal.returns-in-Lent-clause-worth
unfolding held_value
returns-in-Lent-clause-worth c =
    if_ok c.opened_value.result _ _ (λ x h nodes numbers. h nodes numbers ∙ ap (λ y. Some (held_value y)) (sym c.in-Lent.is) ∙ ap seen_held (sym c.in-Some.is)) c.opened_value.ensures.worth

pub returns-in-Made-clause-worth : goal.returns-in-Made-clause-worth
unfolding held_value
returns-in-Made-clause-worth c =
    if_ok c.opened_value-in-Made.result _ _ (λ x h nodes numbers. h nodes numbers ∙ ap (λ y. Some (held_value y)) (sym c.in-Made.is) ∙ ap seen_held (sym c.in-Some.is)) c.opened_value-in-Made.ensures.worth

pub returns-in-None-clause-worth : goal.returns-in-None-clause-worth
unfolding worth
returns-in-None-clause-worth c nodes numbers = ap seen_held (sym c.in-None.is)

pub returns-in-None-clause-terms : goal.returns-in-None-clause-terms
unfolding AreTerms
returns-in-None-clause-terms c count = tt
