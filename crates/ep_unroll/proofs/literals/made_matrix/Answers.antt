use Rattle.ep_unroll.proofs.Words.{ap, sym, ◌∙◌, on_both, index_values, all_defined, with_indices, mode_in, index_at, AreTerms, worth, worths}
use Rattle.ep_unroll.proofs.FormValues.{if_ok}
use Rattle.ep_unroll.proofs.PartListSteps.{no_indices, parts_counted}
use Rattle.ep_unroll.proofs.literals.made_matrix.Goals as goal

pub returns-in-Some-clause-value : goal.returns-in-Some-clause-value
returns-in-Some-clause-value c =
    let d = index_at c.args.domain.now in
    let parts = c.args.parts in
    if_ok c.matrix_of.result _ _
    (λ x value n r nodes. value nodes r.numbers
    ∙ ap (λ o. on_both o (all_defined (worths nodes r.numbers parts.items)) with_indices) (sym (c.in_ok-set.ensures n r ∙ c.in-Some.is))
    ∙ ap (λ k. on_both (index_values (mode_in c.args.scope) r.values d k) (all_defined (worths nodes r.numbers parts.items)) with_indices) (c.len.ensures ∙ parts_counted parts))
    c.matrix_of.ensures.value

pub returns-clause-value : goal.returns-clause-value
unfolding worth
returns-clause-value c n r nodes =
    let d = index_at c.args.domain.now in
    let parts = c.args.parts in
    sym (no_indices (all_defined (worths nodes r.numbers parts.items)) with_indices)
    ∙ ap (λ o. on_both o (all_defined (worths nodes r.numbers parts.items)) with_indices) (sym (c.in_ok-set.ensures n r ∙ c.in-None.is))
    ∙ ap (λ k. on_both (index_values (mode_in c.args.scope) r.values d k) (all_defined (worths nodes r.numbers parts.items)) with_indices) (c.len.ensures ∙ parts_counted parts)

pub returns-clause-terms : goal.returns-clause-terms
unfolding AreTerms
returns-clause-terms c count h = tt
