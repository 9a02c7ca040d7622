use Rattle.std.proofs.Common.{◌≡◌, ◌∷◌, drop}
use Rattle.ep_print.specs.Values.{runs_of, stretch_from}
use Rattle.ep_print.proofs.RunLaws.{begun_by}
use Rattle.ep_print.proofs.indices.first_run.Given as goal

abbrev pub invariant-loop-i : goal.invariant-loop-i
invariant-loop-i l = begun_by l.first (stretch_from l.last (runs_of (drop l.i l.others))) ≡ runs_of (l.first ∷ l.others)
