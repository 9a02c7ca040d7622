use Rattle.ep_eval.proofs.Words.{ap, sym, Some, ◌∙◌, arith, ints, option_map, is_one}
use Rattle.ep_eval.proofs.Reaches.{is_one_word}
use Rattle.ep_eval.proofs.held.truth_seen.Goals as goal

pub returns-in-Some : goal.returns-in-Some
returns-in-Some c = ap Some (is_one_word c.in-Some.number (omega (arith, ints))) ∙ ap (option_map is_one) (sym c.in-Some.is ∙ c.number_of.ensures)
