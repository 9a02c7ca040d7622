use Rattle.ep_eval.proofs.Words.{arith, ints}
use Rattle.ep_eval.proofs.Reaches.{is_one_word}
use Rattle.ep_eval.proofs.binaries.is_true.Goals as goal

pub returns : goal.returns
returns c = is_one_word c.args.number (omega (arith, ints))
