use Rattle.ep_size.proofs.Words.{◌≡◌, drop, part_at, grids_from}
use Rattle.ep_size.proofs.picked.part_with.Given as goal

abbrev pub invariant-loop-place : goal.invariant-loop-place
invariant-loop-place l =
    part_at l.own (grids_from l.parts) l.index ≡ part_at (drop l.place l.own) (grids_from (drop l.place l.parts)) l.index
