use Rattle.std.proofs.Common.{get_or, ◌∙◌, arith, refl}
use Rattle.std.proofs.lemmas.List.{get_or_default, take_all}
use Rattle.ep_explain.proofs.Numbers.{left_turn}
use Rattle.ep_explain.proofs.left.all_left.Goals as goal

pub loop-number-preserved : goal.loop-number-preserved
loop-number-preserved c = left_turn _ _ _ _ _ _ c.in_ok-push.ensures.items refl refl c.loop-number-test.true (get_or_default c.args.numbers.now c.loop-number.number-index 0 (get_or c.args.numbers.now c.loop-number.number-index 0) c.loop-number-test.true) c.loop-number.invariant

pub returns-clause-numbers : goal.returns-clause-numbers
returns-clause-numbers c = c.loop-number.invariant.0 ∙ take_all c.loop-number.number-index c.args.numbers.now (omega (arith, c.loop-number-test.false))

pub returns-clause-unsettled : goal.returns-clause-unsettled
returns-clause-unsettled c = c.loop-number.invariant.1
