use Rattle.std.proofs.Common.{false, rules}
use Rattle.ep_numbers.specs.Spans.{interval_of}
use Rattle.ep_simplify.proofs.Deciding.{equal_always, equal_never, equal_never_too, equal_open_above, equal_open_below, less_is, not_past, words_lt}
use Rattle.ep_simplify.proofs.truths.equal.Goals as goal

pub returns-then-x-y-clause-says : goal.returns-then-x-y-clause-says
returns-then-x-y-clause-says c = equal_never (interval_of c.args.x) (interval_of c.args.y) (words_lt c.args.x.high c.args.y.low (search rules) (search rules) c.if-x-y.true)

pub returns-then-y-x-clause-says : goal.returns-then-y-x-clause-says
returns-then-y-x-clause-says c = equal_never_too (interval_of c.args.x) (interval_of c.args.y) (words_lt c.args.y.high c.args.x.low (search rules) (search rules) c.if-y-x.true)

pub returns-then-y-x-2-clause-undecided : goal.returns-then-y-x-2-clause-undecided
returns-then-y-x-2-clause-undecided c e =
    equal_open_above (interval_of c.args.x) (interval_of c.args.y) (less_is c.args.x.high c.args.y.low false (search rules) (search rules) c.if-x-y.false)
    (less_is c.args.y.high c.args.x.low false (search rules) (search rules) c.if-y-x.false) (words_lt c.args.y.low c.args.x.high (search rules) (search rules) c.if-y-x-2.true)

pub returns-then-x-y-2-clause-undecided : goal.returns-then-x-y-2-clause-undecided
returns-then-x-y-2-clause-undecided c e =
    equal_open_below (interval_of c.args.x) (interval_of c.args.y) (less_is c.args.x.high c.args.y.low false (search rules) (search rules) c.if-x-y.false)
    (less_is c.args.y.high c.args.x.low false (search rules) (search rules) c.if-y-x.false) (words_lt c.args.x.low c.args.y.high (search rules) (search rules) c.if-x-y-2.true)

pub returns-clause-says : goal.returns-clause-says
returns-clause-says c =
    equal_always (interval_of c.args.x) (interval_of c.args.y) (not_past c.args.x.high c.args.y.low (less_is c.args.y.low c.args.x.high false (search rules) (search rules) c.if-y-x-2.false))
    (not_past c.args.y.high c.args.x.low (less_is c.args.x.low c.args.y.high false (search rules) (search rules) c.if-x-y-2.false))
