use Rattle.ep_unroll.proofs.Words.{ap, ◌∙◌, seen_held, worth}
use Rattle.ep_unroll.proofs.entries.is_nothing.Goals as goal

pub returns-in-None : goal.returns-in-None
unfolding worth
returns-in-None c told nodes numbers = ap (worth nodes numbers) c.in-Fixed.is ∙ ap seen_held c.in-None.is
