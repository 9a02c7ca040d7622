use Rattle.ep_base.proofs.RunEnds.{spanned_is, spanned_none}
use Rattle.ep_numbers.proofs.spans.span_of_set.Goals as goal

pub returns-in-Some : goal.returns-in-Some
returns-in-Some c =
    spanned_is c.runs-runs.result.now _ _ c.args.set.now _ _ c.in-Some.ensures.cases.0 c.runs-runs.ensures.apart.filled c.runs-runs.ensures.numbers
    c.span_from.ensures.low c.span_from.ensures.high

pub returns-in-None : goal.returns-in-None
returns-in-None c = spanned_none c.runs-runs.result.now c.args.set.now c.in-None.ensures.cases c.runs-runs.ensures.numbers
