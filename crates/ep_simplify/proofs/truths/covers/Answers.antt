use Rattle.std.proofs.Common.{false, rules, true}
use Rattle.ep_numbers.specs.Spans.{interval_of}
use Rattle.ep_simplify.proofs.Deciding.{less_is, run_covers, run_ends_before, run_starts_behind}
use Rattle.ep_simplify.proofs.truths.covers.Goals as goal

pub returns-then-x-run-clause-complete : goal.returns-then-x-run-clause-complete
returns-then-x-run-clause-complete c e low high = run_starts_behind (interval_of c.args.x) c.args.run (less_is c.args.x.low c.args.run.lo true (search rules) (search rules) c.if-x-run.true) low

pub returns-then-run-x-clause-complete : goal.returns-then-run-x-clause-complete
returns-then-run-x-clause-complete c e low high = run_ends_before (interval_of c.args.x) c.args.run (less_is c.args.run.hi c.args.x.high true (search rules) (search rules) c.if-run-x.true) high

pub returns-clause-sound : goal.returns-clause-sound
returns-clause-sound c e n lies =
    run_covers (interval_of c.args.x) c.args.run n (less_is c.args.x.low c.args.run.lo false (search rules) (search rules) c.if-x-run.false)
    (less_is c.args.run.hi c.args.x.high false (search rules) (search rules) c.if-run-x.false) lies
