use Rattle.std.specs.Prelude.{◌≡◌}
use Rattle.sat_merge.specs.Proofs.{first_ids}
use Rattle.sat_merge.proofs.logs.ids_of.Given as goal

abbrev pub invariant-loop-place : goal.invariant-loop-place
invariant-loop-place l = l.ids.items ≡ first_ids l.place
