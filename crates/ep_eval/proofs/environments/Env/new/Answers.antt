use Rattle.ep_eval.proofs.Words.{sym, subst, bytes_eq, lookup, HasAscendingDomain, IsTypedBound, StandsUnderName}
use Rattle.ep_eval.proofs.KnownNames.{entries_env}
use Rattle.ep_eval.proofs.environments.Env.new.Goals as goal

pub invariant_of-result : goal.invariant_of-result
unfolding IsTypedBound HasAscendingDomain StandsUnderName
invariant_of-result c = record {
  typed = λ name. subst (λ es. IsTypedBound (entries_env es name)) (sym c.new.ensures.empty) tt;
  ascending = λ name. subst (λ es. HasAscendingDomain (entries_env es name)) (sym c.new.ensures.empty) tt;
  named = λ name. subst (λ es. StandsUnderName name (lookup (bytes_eq name) es)) (sym c.new.ensures.empty) tt;
}
