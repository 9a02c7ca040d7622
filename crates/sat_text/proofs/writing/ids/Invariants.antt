use Rattle.sat_text.proofs.EventIds.{Numbering}
use Rattle.sat_text.proofs.writing.ids.Given as goal

abbrev pub invariant-loop-place : goal.invariant-loop-place
invariant-loop-place l = Numbering l.made.items l.given_id l.step_id l.place l.events
