use Rattle.std.proofs.Common.{arith}
use Rattle.std.proofs.lemmas.Int.{ints}
use Rattle.enc_linear.proofs.Ladders.{gives, less_falling_ok, less_rising_ok}
use Rattle.enc_linear.proofs.terms.less_than.Goals as goal

pub returns-then-term : goal.returns-then-term
returns-then-term c =
    let g = gives _ _ _ c.in_ok-below.below c.checked_sub.ensures c.in_ok-below.ensures.ok_part in
    less_rising_ok c.at_most.result c.args.term.now c.args.step _ c.if-term.true c.requires.ordered c.requires.step c.at_most.ensures (omega (arith, ints, g))

pub returns : goal.returns
returns c = less_falling_ok c.above.result c.args.term.now c.args.step _ c.if-term.false c.requires.ordered c.requires.step c.above.ensures (omega (arith, ints))
