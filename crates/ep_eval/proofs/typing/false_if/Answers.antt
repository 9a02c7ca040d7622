use Rattle.ep_eval.proofs.Words.{Some, None, pos, ap, sym, ◌∙◌, if◌then◌else◌, of_bool, single}
use Rattle.ep_eval.proofs.typing.false_if.Goals as goal

pub returns-then-asked : goal.returns-then-asked
unfolding of_bool
returns-then-asked c = c.held_truth.ensures ∙ sym (ap (λ b. if b then Some (single (pos 0)) else None) c.if-asked.true)

pub returns : goal.returns
returns c = sym (ap (λ b. if b then Some (single (pos 0)) else None) c.if-asked.false)
