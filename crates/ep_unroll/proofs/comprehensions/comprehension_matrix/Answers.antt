use Rattle.ep_unroll.proofs.Words.{ap, length, refl, sym, ◌∙◌, on_both, index_at, env_in, index_values, all_defined, with_indices, AreTerms, worth, parts_in, worths}
use Rattle.ep_unroll.proofs.PartListSteps.{comprehension_none, comprehension_some, if_both}
use Rattle.ep_unroll.proofs.comprehensions.comprehension_matrix.Goals as goal

pub returns-in-Some : goal.returns-in-Some
returns-in-Some c n old nodes p e gens conditions mode h =
    if_both c.made_matrix.result _ _ _
    (λ x value terms. comprehension_some n (env_in c.args.scope) old nodes p e gens conditions (index_at c.args.domain.now) (parts_in c.args.parts) c.in-Some.own.items x h (ap parts_in c.in-Some.is)
    (λ r. value n r nodes ∙ ap (λ m. on_both (index_values m r.values (index_at c.args.domain.now) (length c.in-Some.own.items)) (all_defined (worths nodes r.numbers c.in-Some.own.items)) with_indices) (sym mode))
    (terms (length nodes)))
    c.made_matrix.ensures.value c.made_matrix.ensures.terms

pub returns-in-None : goal.returns-in-None
unfolding worth AreTerms
returns-in-None c n old nodes p e gens conditions mode h =
    comprehension_none n (env_in c.args.scope) old nodes p e gens conditions (index_at c.args.domain.now) (parts_in c.args.parts) _ h (ap parts_in c.in-None.is) (λ numbers. refl) tt
