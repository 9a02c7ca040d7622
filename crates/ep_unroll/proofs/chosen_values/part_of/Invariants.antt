use Rattle.ep_unroll.proofs.Words.{◌≡◌, drop, part_at, values_from}
use Rattle.ep_unroll.proofs.chosen_values.part_of.Given as goal

abbrev pub invariant-loop-own_index : goal.invariant-loop-own_index
invariant-loop-own_index l =
    part_at l.own (values_from l.parts) l.index ≡ part_at (drop l.own_index-index l.own) (values_from l.left) l.index
