use Rattle.std.proofs.Common.{w64, rules}
use Rattle.std.proofs.lemmas.Int.{to_z-of_z}
use Rattle.enc_arith.proofs.Running.{before_first, before_other}
use Rattle.enc_arith.proofs.runs.before.Goals as goal

pub returns-then-place-eq0 : goal.returns-then-place-eq0
returns-then-place-eq0 c = before_first c.args.numbers.now c.args.place c.if-place-eq0.true

pub returns : goal.returns
returns c = before_other c.args.numbers.now c.args.place _ c.if-place-eq0.false (to_z-of_z w64 _ (search rules))
