use Rattle.std.proofs.Common.{false, rules}
use Rattle.ep_numbers.specs.Spans.{interval_of}
use Rattle.ep_simplify.proofs.Deciding.{less_is, run_above, run_below, run_meets, words_lt}
use Rattle.ep_simplify.proofs.truths.meets.Goals as goal

pub returns-then-run-x-clause-apart : goal.returns-then-run-x-clause-apart
returns-then-run-x-clause-apart c e = run_below (interval_of c.args.x) c.args.run (words_lt c.args.run.hi c.args.x.low (search rules) (search rules) c.if-run-x.true)

pub returns-then-x-run-clause-apart : goal.returns-then-x-run-clause-apart
returns-then-x-run-clause-apart c e = run_above (interval_of c.args.x) c.args.run (words_lt c.args.x.high c.args.run.lo (search rules) (search rules) c.if-x-run.true)

pub returns-clause-meets : goal.returns-clause-meets
returns-clause-meets c e filled some none =
    run_meets (interval_of c.args.x) c.args.run (less_is c.args.run.hi c.args.x.low false (search rules) (search rules) c.if-run-x.false)
    (less_is c.args.x.high c.args.run.lo false (search rules) (search rules) c.if-x-run.false) filled some none
