use Rattle.ep_size.proofs.Words.{ap, subst, ◌∙◌, [], map, as_parts, matrix, grid_of, TellsExtent, Matrix}
use Rattle.ep_size.proofs.ListNodes.{listed_matrix}
use Rattle.ep_size.proofs.slices.no_parts.Goals as goal

pub returns : goal.returns
unfolding as_parts
returns c =
    subst (TellsExtent (Matrix c.new.result c.new-2.result))
    (ap (λ l. matrix l (as_parts (map grid_of c.new-2.result.items))) c.new.ensures.items ∙ ap (λ l. matrix [] (as_parts (map grid_of l))) c.new-2.ensures.items)
    (listed_matrix c.new.result c.new-2.result)
