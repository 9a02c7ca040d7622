use Rattle.ep_eval.proofs.SetSteps.{operation_is}
use Rattle.ep_eval.proofs.sets.operation.Goals as goal

pub returns : goal.returns
returns c up =
    operation_is c.args.op c.in_ok-set.set c.args.one.now c.args.other.now c.runs.result.now c.runs-2.result.now c.in_ok-parts.parts.items
    c.in_ok-set.ensures.ascending c.in_ok-set.ensures.numbers c.runs.ensures.numbers c.runs-2.ensures.numbers c.in_ok-parts.ensures up
