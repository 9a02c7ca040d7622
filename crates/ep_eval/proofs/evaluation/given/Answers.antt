use Rattle.ep_eval.proofs.Words.{ap, sym, ◌∙◌, Some, seen_held, seen_value}
use Rattle.ep_eval.proofs.evaluation.given.Goals as goal

pub returns-in_ok-value-in-Some : goal.returns-in_ok-value-in-Some
unfolding seen_value
returns-in_ok-value-in-Some c = ap Some c.in_ok-value-in-Some.ensures ∙ ap seen_held (sym c.in-Some.is)

pub returns-in-None : goal.returns-in-None
unfolding seen_value
returns-in-None c = ap seen_held (sym c.in-None.is)
