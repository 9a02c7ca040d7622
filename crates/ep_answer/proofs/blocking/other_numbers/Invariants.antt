use Rattle.ep_answer.specs.Searches.{BlocksFirst}
use Rattle.ep_answer.proofs.blocking.other_numbers.Given as goal

abbrev pub invariant-loop-place : goal.invariant-loop-place
invariant-loop-place l = BlocksFirst l.fn.layout l.fn.vars l.fn.cells l.place l.lits.items
