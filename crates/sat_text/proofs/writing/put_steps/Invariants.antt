use Rattle.sat_text.proofs.EventIds.{Written}
use Rattle.sat_text.proofs.writing.put_steps.Given as goal

abbrev pub invariant-loop-place : goal.invariant-loop-place
invariant-loop-place l = Written l.initial.out.items l.out.items l.ids l.place l.events
