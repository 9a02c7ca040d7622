use Rattle.ep_outputs.proofs.Givens.{Taking}
use Rattle.ep_outputs.proofs.texts.given_clauses.Given as goal

abbrev pub invariant-loop-place : goal.invariant-loop-place
invariant-loop-place l = Taking l.clauses.items l.place l.events
