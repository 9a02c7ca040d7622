use Rattle.ep_eval.proofs.Words.{subst, numbers_ascend, IsAscending, HasAscendingDomain, IsTypedBound, bound_of, StandsUnderName}
use Rattle.ep_eval.proofs.environments.Env.name_domain.Goals as goal

pub put-requires-clause-typed : goal.put-requires-clause-typed
unfolding IsTypedBound bound_of
put-requires-clause-typed c = c.requires.scalar

pub put-requires-clause-ascending : goal.put-requires-clause-ascending
unfolding HasAscendingDomain bound_of
put-requires-clause-ascending c =
    subst (λ ns. IsAscending ns) c.runs.ensures.numbers (numbers_ascend c.runs.result.now c.runs.ensures.apart)

pub put-requires-clause-named : goal.put-requires-clause-named
unfolding StandsUnderName
put-requires-clause-named c = tt

pub returns-clause-known : goal.returns-clause-known
unfolding bound_of
returns-clause-known c = c.put.ensures.known
