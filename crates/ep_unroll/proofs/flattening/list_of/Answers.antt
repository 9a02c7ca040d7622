use Rattle.ep_unroll.proofs.Words.{◌≡◌, length, pos, ap, ◌∙◌, option_map, counting, all_defined, as_parts, matrix, worths}
use Rattle.ep_unroll.proofs.GrownParts.{matrix_worth, terms_matrix}
use Rattle.ep_unroll.proofs.flattening.list_of.Goals as goal

pub returns-clause-value : goal.returns-clause-value
returns-clause-value c nodes numbers =
    let same : c.in_ok-indices.indices.items ≡ counting (pos 1) (length c.args.parts.items) = c.in_ok-indices.ensures ∙ ap (λ xs. counting (pos 1) (length xs)) c.deref.ensures.value in
    matrix_worth nodes numbers c.in_ok-indices.indices c.args.parts
    ∙ ap (λ is. option_map (λ vs. matrix is (as_parts vs)) (all_defined (worths nodes numbers c.args.parts.items))) same

pub returns-clause-terms : goal.returns-clause-terms
returns-clause-terms c count h = terms_matrix count c.in_ok-indices.indices c.args.parts h
