use Rattle.ep_eval.proofs.Words.{HasAscendingDomain, IsTypedBound, bound_of, StandsUnderName}
use Rattle.ep_eval.proofs.environments.Env.name_cells.Goals as goal

pub put-requires-clause-typed : goal.put-requires-clause-typed
unfolding IsTypedBound bound_of
put-requires-clause-typed c = tt

pub put-requires-clause-ascending : goal.put-requires-clause-ascending
unfolding HasAscendingDomain bound_of
put-requires-clause-ascending c = tt

pub put-requires-clause-named : goal.put-requires-clause-named
unfolding StandsUnderName
put-requires-clause-named c = tt

pub returns-clause-known : goal.returns-clause-known
unfolding bound_of
returns-clause-known c = c.put.ensures.known
