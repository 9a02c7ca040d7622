use Rattle.std.proofs.Common.{false, rules}
use Rattle.ep_numbers.specs.Spans.{interval_of}
use Rattle.ep_simplify.proofs.Deciding.{at_most_is, less_always, less_is, less_never, less_open, words_le, words_lt}
use Rattle.ep_simplify.proofs.truths.less.Goals as goal

pub returns-then-x-y-clause-says : goal.returns-then-x-y-clause-says
returns-then-x-y-clause-says c = less_always (interval_of c.args.x) (interval_of c.args.y) (words_lt c.args.x.high c.args.y.low (search rules) (search rules) c.if-x-y.true)

pub returns-then-y-x-clause-says : goal.returns-then-y-x-clause-says
returns-then-y-x-clause-says c = less_never (interval_of c.args.x) (interval_of c.args.y) (words_le c.args.y.high c.args.x.low (search rules) (search rules) c.if-y-x.true)

pub returns-clause-undecided : goal.returns-clause-undecided
returns-clause-undecided c e =
    less_open (interval_of c.args.x) (interval_of c.args.y) (less_is c.args.x.high c.args.y.low false (search rules) (search rules) c.if-x-y.false)
    (at_most_is c.args.y.high c.args.x.low false (search rules) (search rules) c.if-y-x.false)
