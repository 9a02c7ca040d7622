use Rattle.ep_eval.proofs.Words.{ap, sym, option_map, value_tree, held_value}
use Rattle.ep_eval.proofs.reads.made.Goals as goal

pub returns-in-Some : goal.returns-in-Some
unfolding held_value
returns-in-Some c = sym (ap (option_map value_tree) c.in-Some.is)
