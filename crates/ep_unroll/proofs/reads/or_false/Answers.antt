use Rattle.ep_unroll.proofs.Words.{ap, sym, read_result, Mode, ValueType, held_value, seen_held}
use Rattle.ep_unroll.proofs.reads.or_false.Goals as goal

pub returns-in-Some : goal.returns-in-Some
unfolding read_result
returns-in-Some c = ap (λ s. read_result Mode.Relational ValueType.Bool (seen_held s)) (sym c.in-Some.is)

pub returns-in-None : goal.returns-in-None
unfolding read_result held_value
returns-in-None c = ap (λ s. read_result Mode.Relational ValueType.Bool (seen_held s)) (sym c.in-None.is)
