use Rattle.ep_eval.proofs.Words.{subst, sym, HasAscendingDomain, has_value, with_number, of_scalar, single, HasAscendingDomains, with_all}
use Rattle.ep_eval.proofs.KnownNames.{kept_by}
use Rattle.ep_eval.proofs.domains.+ascends.Goals as goal

pub returns-in-Nothing : goal.returns-in-Nothing
unfolding with_all
returns-in-Nothing t c env h = subst (λ a. HasAscendingDomains (with_all env a)) (sym c.in-Nothing.is) h

pub returns-in-Number : goal.returns-in-Number
unfolding with_all with_number HasAscendingDomain
returns-in-Number t c env h =
    subst (λ a. HasAscendingDomains (with_all env a)) (sym c.in-Number.is)
    (λ other. kept_by HasAscendingDomain (with_all env c.in-Number.outer.now) c.in-Number.field-1.now (has_value (of_scalar c.in-Number.field-2) (single c.in-Number.field-3)) tt (c.ascends.ensures env h) other)
