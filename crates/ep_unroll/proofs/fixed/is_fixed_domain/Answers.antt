use Rattle.ep_unroll.proofs.Words.{sym, ◌∙◌, hidden_without}
use Rattle.ep_unroll.proofs.fixed.is_fixed_domain.Goals as goal

pub returns : goal.returns
unfolding hidden_without
returns c h = sym c.is_free_domain.ensures ∙ h
