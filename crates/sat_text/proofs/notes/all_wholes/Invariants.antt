use Rattle.std.proofs.Common.{◌≡◌, eqb, length}
use Rattle.std.specs.List.{slice_split}
use Rattle.sat_text.specs.Notes.{are_wholes}
use Rattle.sat_text.proofs.notes.all_wholes.Given as goal

abbrev pub invariant-loop-later : goal.invariant-loop-later
invariant-loop-later l = are_wholes (slice_split (λ b. eqb b 44) l.rest) ≡ are_wholes (slice_split (λ b. eqb b 44) l.bytes)

abbrev pub decreases-loop-later : goal.decreases-loop-later
decreases-loop-later l = length l.rest
