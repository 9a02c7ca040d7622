use Rattle.ep_eval.proofs.Words.{ap, sym, Some, of_bool, single, held_value}
use Rattle.ep_eval.proofs.held.held_truth.Goals as goal

pub returns-then-truth : goal.returns-then-truth
unfolding held_value of_bool
returns-then-truth c = ap (λ b. Some (single (of_bool b))) (sym c.if-truth.true)

pub returns : goal.returns
unfolding held_value of_bool
returns c = ap (λ b. Some (single (of_bool b))) (sym c.if-truth.false)
