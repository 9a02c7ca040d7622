use Rattle.ep_unroll.proofs.Words.{ap, sym, ◌∙◌, is_some, number_in, worth}
use Rattle.ep_unroll.proofs.needs.is_number.Goals as goal

pub returns-in-Fixed : goal.returns-in-Fixed
unfolding worth
returns-in-Fixed c told nodes numbers =
    ap (λ x. is_some (number_in (worth nodes numbers x))) c.in-Fixed.is ∙ sym (c.is_some.ensures ∙ ap is_some c.number_of.ensures) ∙ told
