use Rattle.ep_unroll.proofs.Words.{ap, subst, sym, ◌∙◌, AreTerms, worth, cells_value}
use Rattle.ep_unroll.proofs.FormValues.{if_ok}
use Rattle.ep_unroll.proofs.entries.opened.Goals as goal

pub returns-in-Number-clause-worth : goal.returns-in-Number-clause-worth
returns-in-Number-clause-worth c nodes numbers = ap (worth nodes numbers) (sym c.in-Number.is)

pub returns-in-Number-clause-terms : goal.returns-in-Number-clause-terms
returns-in-Number-clause-terms c count known = subst (AreTerms count) c.in-Number.is known

pub returns-in-Some-clause-worth : goal.returns-in-Some-clause-worth
unfolding worth
returns-in-Some-clause-worth c =
    if_ok c.cells_opened.result _ _
    (λ x h nodes numbers. h nodes numbers ∙ ap (λ ds. cells_value numbers ds c.in-Cells.first) (sym c.in-Some.ensures.cases.0) ∙ ap (worth nodes numbers) (sym c.in-Cells.is)) c.cells_opened.ensures.worth

pub returns-in-Some-clause-terms : goal.returns-in-Some-clause-terms
returns-in-Some-clause-terms c = if_ok c.cells_opened.result _ _ (λ x h count known. h count) c.cells_opened.ensures.terms

pub returns-in-None-clause-worth : goal.returns-in-None-clause-worth
returns-in-None-clause-worth c nodes numbers = ap (worth nodes numbers) (sym c.in-Cells.is)

pub returns-in-None-clause-terms : goal.returns-in-None-clause-terms
returns-in-None-clause-terms c count known = subst (AreTerms count) c.in-Cells.is known

pub returns-in-Fixed-clause-worth : goal.returns-in-Fixed-clause-worth
unfolding worth
returns-in-Fixed-clause-worth c =
    if_ok c.opened_seen.result _ _ (λ x h nodes numbers. h nodes numbers ∙ ap (worth nodes numbers) (sym c.in-Fixed.is)) c.opened_seen.ensures.worth

pub returns-in-Fixed-clause-terms : goal.returns-in-Fixed-clause-terms
returns-in-Fixed-clause-terms c = if_ok c.opened_seen.result _ _ (λ x h count known. h count) c.opened_seen.ensures.terms
