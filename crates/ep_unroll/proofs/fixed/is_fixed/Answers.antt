use Rattle.ep_unroll.proofs.Words.{ap, sym, ◌∙◌, hidden_without}
use Rattle.ep_unroll.proofs.fixed.is_fixed.Goals as goal

pub returns : goal.returns
unfolding hidden_without
returns c h = ap (λ s. s.free) (sym c.standing_in-standing.ensures) ∙ h
