use Rattle.ep_numbers.specs.Spans.{interval_of}
use Rattle.ep_simplify.proofs.Deciding.{apart_lacks, covered_has, open_member}
use Rattle.ep_simplify.proofs.truths.is_member.Goals as goal

pub returns-then-is_covered-clause-says : goal.returns-then-is_covered-clause-says
returns-then-is_covered-clause-says c = covered_has c.runs-runs.result.now c.args.numbers.now (interval_of c.args.x) c.runs-runs.ensures.numbers (c.is_covered.ensures.sound c.if-is_covered.true)

pub returns-then-is_apart-clause-says : goal.returns-then-is_apart-clause-says
returns-then-is_apart-clause-says c = apart_lacks c.runs-runs.result.now c.args.numbers.now (interval_of c.args.x) c.runs-runs.ensures.numbers (c.is_apart.ensures.sound c.if-is_apart.true)

pub returns-clause-undecided : goal.returns-clause-undecided
returns-clause-undecided c e filled =
    open_member c.runs-runs.result.now c.args.numbers.now (interval_of c.args.x) c.runs-runs.ensures.numbers
    (c.is_covered.ensures.complete c.if-is_covered.false c.runs-runs.ensures.apart filled) (c.is_apart.ensures.complete c.if-is_apart.false c.runs-runs.ensures.apart.filled filled)
