use Rattle.ep_eval.proofs.Words.{sym, ap, number_in, seen_held}
use Rattle.ep_eval.proofs.held.number_of.Goals as goal

pub returns-in-None : goal.returns-in-None
unfolding number_in
returns-in-None c = ap (λ v. number_in (seen_held v)) (sym c.in-None.is)
