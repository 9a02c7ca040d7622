use Rattle.std.proofs.Common.{arith}
use Rattle.std.proofs.lemmas.Int.{ints}
use Rattle.ep_eval.proofs.Reaches.{is_one_word}
use Rattle.ep_instance_parts.proofs.conditions.is_one.Goals as goal

pub returns : goal.returns
returns c = is_one_word c.args.number (omega (arith, ints))
