use Rattle.ep_size.proofs.Words.{arith, SFits, w128, ints, width}
use Rattle.ep_size.proofs.SumSteps.{width_few, width_many, width_none}
use Rattle.ep_size.proofs.sums.told_width.Goals as goal

pub returns-then-ends : goal.returns-then-ends
unfolding width
returns-then-ends c = width_none c.args.ends.low c.args.ends.high (omega (arith, ints)) (omega (arith, ints)) c.if-ends.true

pub returns-then-behind-gt20000000 : goal.returns-then-behind-gt20000000
unfolding width
returns-then-behind-gt20000000 c =
    let fits : SFits w128 c.saturating_sub-behind.result = record { sfits = c.saturating_sub-behind.type_inv } in
    width_many c.args.ends.low c.args.ends.high c.saturating_sub-behind.result (omega (arith, ints)) (omega (arith, ints)) fits
    c.saturating_sub-behind.ensures c.if-behind-gt20000000.true

pub returns : goal.returns
unfolding width
returns c =
    let fits : SFits w128 c.saturating_sub-behind.result = record { sfits = c.saturating_sub-behind.type_inv } in
    width_few c.args.ends.low c.args.ends.high c.saturating_sub-behind.result (omega (arith, ints)) (omega (arith, ints)) fits
    c.saturating_sub-behind.ensures c.if-ends.false c.if-behind-gt20000000.false
