use Rattle.ep_unroll.proofs.Words.{sym, ◌∙◌}
use Rattle.ep_unroll.proofs.forms.can_imply.Goals as goal

pub returns-in-Relational : goal.returns-in-Relational
returns-in-Relational c h is = c.are_both_total.ensures h

pub returns-in-Strict : goal.returns-in-Strict
returns-in-Strict c h is = absurd (let x = sym c.in-Strict.is ∙ c.mode.ensures.mode ∙ is in cc)
