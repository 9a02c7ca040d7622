use Rattle.ep_unroll.proofs.Words.{ap, sym, ◌∙◌, option_map, length-map, AreTerms, worth, worths}
use Rattle.ep_unroll.proofs.GrownParts.{matrix_worth, terms_matrix}
use Rattle.ep_unroll.proofs.PartListSteps.{matrix_lost, matrix_made, parts_counted}
use Rattle.ep_unroll.proofs.literals.matrix_of.Goals as goal

pub returns-in-Some-clause-value : goal.returns-in-Some-clause-value
returns-in-Some-clause-value c nodes numbers =
    let parts = c.args.parts in
    matrix_worth nodes numbers c.in-Some.own parts
    ∙ matrix_made c.args.set.now c.in-Some.own.items (worths nodes numbers parts.items) _ (c.len.ensures ∙ parts_counted parts ∙ sym (length-map parts.items (worth nodes numbers)))
    (ap (option_map (λ v. v.items)) (sym c.in-Some.is) ∙ c.in_ok-own.ensures)

pub returns-in-Some-clause-terms : goal.returns-in-Some-clause-terms
returns-in-Some-clause-terms c count h = terms_matrix count c.in-Some.own c.args.parts h

pub returns-clause-value : goal.returns-clause-value
unfolding worth
returns-clause-value c nodes numbers =
    let parts = c.args.parts in
    matrix_lost c.args.set.now (worths nodes numbers parts.items) _ (c.len.ensures ∙ parts_counted parts ∙ sym (length-map parts.items (worth nodes numbers)))
    (ap (option_map (λ v. v.items)) (sym c.in-None.is) ∙ c.in_ok-own.ensures)

pub returns-clause-terms : goal.returns-clause-terms
unfolding AreTerms
returns-clause-terms c count h = tt
