use Rattle.ep_unroll.proofs.Words.{◌≡◌, drop, part_with}
use Rattle.ep_unroll.proofs.entries.part_with.Given as goal

abbrev pub invariant-loop-place : goal.invariant-loop-place
invariant-loop-place l = part_with l.own l.parts l.index ≡ part_with (drop l.place l.own) (drop l.place l.parts) l.index
