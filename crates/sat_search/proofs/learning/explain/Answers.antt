use Rattle.std.proofs.Common.{length, arith}
use Rattle.sat_state.specs.Trail.{literals}
use Rattle.sat_search.proofs.Tracing.{traced_conflict}
use Rattle.sat_search.proofs.Counting.{count_unmarked}
use Rattle.sat_search.proofs.learning.explain.Goals as goal

pub resolve_level-requires-clause-traced : goal.resolve_level-requires-clause-traced
resolve_level-requires-clause-traced c =
    rw (c.in_ok-resolve.ensures.hints, c.new-hints.ensures.items)
    (traced_conflict c.args.state.now.clauses (literals c.args.state.now.trail) c.begin.new.analysis.marks c.resolve.new.analysis.marks c.args.number
    c.requires.falsified.there c.requires.falsified.falsified c.in_ok-resolve.ensures.ordered c.in_ok-begin.ensures.unmarked c.in_ok-resolve.ensures.marks)

pub resolve_level-requires-clause-counted : goal.resolve_level-requires-clause-counted
resolve_level-requires-clause-counted c =
    let lits = literals c.args.state.now.trail in
    let none = count_unmarked lits c.begin.new.analysis.marks (length lits) (omega arith) c.in_ok-begin.ensures.unmarked in
    omega (arith, c.in_ok-resolve.ensures.counts (length lits) (omega arith), none)
