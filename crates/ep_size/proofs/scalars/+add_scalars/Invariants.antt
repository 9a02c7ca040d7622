use Rattle.ep_size.proofs.Words.{◌≡◌, ◌++◌, drop, map, scalars_of_all, grids_from, plain_span}
use Rattle.ep_size.proofs.scalars.+add_scalars.Given as goal

abbrev pub invariant-loop-part : goal.invariant-loop-part
invariant-loop-part l =
    map plain_span l.spans.items ++ scalars_of_all (grids_from (drop l.part-index l.part-items)) ≡ map plain_span l.fn.spans.items ++ scalars_of_all (grids_from l.part-items)
