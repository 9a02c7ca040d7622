use Rattle.ep_size.proofs.Words.{◌∷◌, None, Some, subst, sym, no_extent, measured_of, ReadsGrid}
use Rattle.ep_size.proofs.PartedSteps.{none_read_decided, none_read_stated, none_read_whole}
use Rattle.ep_size.proofs.parted.left_of_none.Goals as goal

pub returns-in-Stated : goal.returns-in-Stated
unfolding measured_of
returns-in-Stated c is =
    subst (λ i. ReadsGrid (measured_of i ∷ is) no_extent None) (sym c.in-Stated.is) (none_read_stated c.in-Stated.field-0 is)

pub returns-in-Every : goal.returns-in-Every
unfolding measured_of
returns-in-Every c is = subst (λ i. ReadsGrid (measured_of i ∷ is) no_extent (Some c.no_parts.result)) (sym c.in-Every.is) (none_read_whole is c.no_parts.result c.no_parts.ensures.grid)

pub returns-in-Decided : goal.returns-in-Decided
unfolding measured_of
returns-in-Decided c is = subst (λ i. ReadsGrid (measured_of i ∷ is) no_extent None) (sym c.in-Decided.is) (none_read_decided _ is)
