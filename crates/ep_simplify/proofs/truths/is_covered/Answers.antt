use Rattle.std.proofs.Common.{pos, refl, ◌≤ℤ◌}
use Rattle.ep_base.specs.Runs.{IsIn}
use Rattle.ep_base.specs.declared.run_lists.Run.{Run}
use Rattle.ep_numbers.specs.Spans.{interval_of}
use Rattle.ep_reach.proofs.Nodes.{all_next, all_whole}
use Rattle.ep_simplify.proofs.Deciding.{any_here, not_covered}
use Rattle.ep_simplify.proofs.truths.is_covered.Goals as goal

pub loop-run-preserved : goal.loop-run-preserved
loop-run-preserved c =
    all_next {A = Run} (λ run. run.lo ≤ℤ c.args.x.low → c.args.x.high ≤ℤ run.hi → ⊥) c.args.runs.now c.loop-run.run-index _ _ c.loop-run-test.true refl
    c.loop-run.invariant (c.covers.ensures.complete c.if-covers.false)

pub returns-then-covers-clause-sound : goal.returns-then-covers-clause-sound
returns-then-covers-clause-sound c e n lies = any_here (IsIn n) c.args.runs.now c.loop-run.run-index (record { lo = pos 0; hi = pos 0 }) c.loop-run-test.true (c.covers.ensures.sound c.if-covers.true n lies)

pub returns-clause-complete : goal.returns-clause-complete
returns-clause-complete c e apart filled all =
    not_covered c.args.runs.now (interval_of c.args.x) apart
    (all_whole {A = Run} (λ run. run.lo ≤ℤ c.args.x.low → c.args.x.high ≤ℤ run.hi → ⊥) c.args.runs.now c.loop-run.run-index c.loop-run-test.false c.loop-run.invariant) filled all
