use Rattle.ep_size.proofs.Words.{ap, sym, ◌∙◌, arith, ints, false, option_map, unwrap_or, is_one, is_one_word}
use Rattle.ep_size.proofs.generating.is_one.Goals as goal

pub returns-in-Some : goal.returns-in-Some
returns-in-Some c =
    is_one_word c.in-Some.number (omega (arith, ints))
    ∙ ap (λ o. unwrap_or (option_map is_one o) false) (sym c.in-Some.is ∙ c.number_of.ensures)

pub returns-in-None : goal.returns-in-None
returns-in-None c = ap (λ o. unwrap_or (option_map is_one o) false) (sym c.in-None.is ∙ c.number_of.ensures)
