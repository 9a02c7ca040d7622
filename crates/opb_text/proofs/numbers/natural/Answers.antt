use Rattle.std.proofs.Common.{arith, sym}
use Rattle.sat_text.proofs.Digits.{room, read_none, read_more, small_value}
use Rattle.opb_text.proofs.numbers.natural.Goals as goal

pub loop-b-init : goal.loop-b-init
loop-b-init c = read_none c.args.word.now

pub overflow_mul-number : goal.overflow_mul-number
overflow_mul-number c = omega (arith, room c.loop-b.b-index c.loop-b.number c.loop-b.invariant.small (omega arith))

pub overflow_add-number : goal.overflow_add-number
overflow_add-number c = omega (arith, room c.loop-b.b-index c.loop-b.number c.loop-b.invariant.small (omega arith), c.from.ensures, c.type_inv.word c.loop-b.b-index)

pub loop-b-preserved : goal.loop-b-preserved
loop-b-preserved c = rw c.from.ensures (read_more c.args.word.now c.loop-b.b-index c.loop-b.number c.loop-b.invariant c.loop-b-test.true (sym c.if-not-is_ascii_digit.ensures.value))

pub returns-clause-small : goal.returns-clause-small
returns-clause-small c = small_value c.args.word.now c.loop-b.b-index c.loop-b.number c.loop-b.invariant (omega arith) (omega arith)
