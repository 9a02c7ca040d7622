use Rattle.std.proofs.Common.{◌≡◌, ◌∙◌, ℤ, List, map, ap}
use Rattle.std.proofs.lemmas.List.{take_all}
use Rattle.ep_instance_parts.specs.Instances.{find_of}
use Rattle.ep_print.specs.Listings.{EndTree, ListingTree, end_tree, listing_tree}
use Rattle.ep_tree.specs.Binding.{Find}
use Rattle.ep_tree.specs.Solutions.{Assigned}
use Rattle.ep_tree.specs.Views.{assigned}
use Rattle.ep_solve.specs.Reading.{assignment_from, listing_from}
use Rattle.ep_solve.proofs.enumerating.listing_from.Goals as goal

pub returns : goal.returns
unfolding listing_tree listing_from
returns c =
    let finds : List Find = map find_of c.args.finds.now in
    let all : List (List ℤ) = map (λ cells. cells.items) c.args.listing.found.items in
    let read : map assigned c.loop-cells.found.items ≡ map (assignment_from finds) all =
    c.loop-cells.invariant
    ∙ ap (λ cs. map (assignment_from finds) (map (λ cells. cells.items) cs)) (take_all c.loop-cells.cells-index c.deref-cells-items.result.now c.loop-cells-test.false)
    ∙ ap (λ cs. map (assignment_from finds) (map (λ cells. cells.items) cs)) c.deref-cells-items.ensures.value in
    let make : List Assigned → EndTree → ListingTree = λ found ending. record { found = found; ending = ending } in
    ap (λ found. make found (end_tree c.end_from.result)) read ∙ ap (make (map (assignment_from finds) all)) c.end_from.ensures
