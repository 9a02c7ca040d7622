use Rattle.std.proofs.Common.{arith}
use Rattle.cnf_core.proofs.Pieces.{start_behind, start_first}
use Rattle.cnf_core.proofs.lists.start.Goals as goal

pub returns-then-place-eq0 : goal.returns-then-place-eq0
returns-then-place-eq0 c = start_first 0 c.args.ends.now c.args.place c.if-place-eq0.true

pub returns-else-place-eq0 : goal.returns-else-place-eq0
returns-else-place-eq0 c = start_behind 0 c.args.ends.now c.args.place (omega (arith, c.if-place-eq0.false))
