use Rattle.ep_unroll.proofs.Words.{◌∷◌, ap, sym, ◌∙◌, map, no_runs, any_index, index_in, indices_in}
use Rattle.ep_unroll.proofs.reads.+are_every.Goals as goal

pub returns-in-None-index : goal.returns-in-None-index
unfolding index_in
returns-in-None-index t c told =
    let cut = c.in-Some.ensures.cases.0 ∙ ap (λ i. i ∷ c.in-Some.rest.now) c.in-None-index.is in
    ap indices_in cut ∙ ap (λ is. any_index ∷ is) (c.are_every.ensures told) ∙ sym (ap (λ xs. map (λ i. any_index) xs) cut)

pub returns-in-None : goal.returns-in-None
returns-in-None t c told =
    let none = no_runs c.args.indices.now c.in-None.ensures.cases in
    ap indices_in none ∙ sym (ap (λ xs. map (λ i. any_index) xs) none)
