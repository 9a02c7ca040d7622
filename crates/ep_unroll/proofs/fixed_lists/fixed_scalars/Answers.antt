use Rattle.ep_unroll.proofs.Words.{ap, sym, ◌∙◌, scalars_in}
use Rattle.ep_unroll.proofs.fixed_lists.fixed_scalars.Goals as goal

pub fixed_value-requires : goal.fixed_value-requires
fixed_value-requires c = c.is_fixed.ensures c.if-not-is_fixed.false

pub returns : goal.returns
returns c n r = ap scalars_in (c.in_ok-seen.ensures n r) ∙ sym c.in_ok-parts.ensures
