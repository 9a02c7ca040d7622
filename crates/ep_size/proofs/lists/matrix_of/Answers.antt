use Rattle.ep_size.proofs.Words.{◌≡◌, ap, subst, ◌∙◌, length, vec_len, rules, map, as_parts, matrix, grid_of, TellsExtent, Matrix, measured_indices}
use Rattle.ep_size.proofs.ListNodes.{listed_matrix}
use Rattle.ep_size.proofs.lists.matrix_of.Goals as goal

pub returns : goal.returns
returns c =
    let parts = c.args.parts in
    let many : vec_len parts ≡ length parts.items = search rules in (
      subst (λ l. TellsExtent (Matrix c.in_ok-indices.indices parts) (matrix l (as_parts (map grid_of parts.items))))
          (c.in_ok-indices.ensures.numbers ∙ ap (measured_indices c.args.set.now) (c.len.ensures ∙ many)) (listed_matrix c.in_ok-indices.indices parts),
      tt,
    )
