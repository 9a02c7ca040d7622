use Rattle.ep_promise.proofs.Made.{known_as_bound, made_as_bound, none_as_refused, unknown_as_refused}
use Rattle.ep_promise.proofs.what_is_bound_is_made.Goals as goal

pub returns-clause-made : goal.returns-clause-made
returns-clause-made c = made_as_bound

pub returns-clause-not_made : goal.returns-clause-not_made
returns-clause-not_made c = none_as_refused

pub returns-clause-known : goal.returns-clause-known
returns-clause-known c = known_as_bound

pub returns-clause-unknown : goal.returns-clause-unknown
returns-clause-unknown c = unknown_as_refused
