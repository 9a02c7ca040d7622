use Rattle.std.proofs.Common.{◌≡◌, map, take}
use Rattle.ep_instance_parts.specs.Instances.{find_of}
use Rattle.ep_tree.specs.Views.{assigned}
use Rattle.ep_solve.specs.Reading.{assignment_from}
use Rattle.ep_solve.proofs.enumerating.listing_from.Given as goal

abbrev pub invariant-loop-cells : goal.invariant-loop-cells
invariant-loop-cells l =
    map assigned l.found.items ≡ map (assignment_from (map find_of l.finds)) (map (λ cells. cells.items) (take l.cells-index l.cells-items))
