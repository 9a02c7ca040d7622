use Rattle.ep_unroll.proofs.Words.{ap, ◌∙◌, map, take_all}
use Rattle.ep_unroll.proofs.FormValues.{if_ok}
use Rattle.ep_unroll.proofs.SetSteps.{one_run, set_has}
use Rattle.ep_unroll.proofs.sets.set_of.Goals as goal

pub returns : goal.returns
returns c =
    let all = c.args.numbers.now in
    if_ok c.new.result _ _
    (λ set h. set_has set all c.loop-number.parts.items (c.loop-number.invariant ∙ ap (map one_run) (take_all c.loop-number.number-index all c.loop-number-test.false)) h) c.new.ensures.numbers
