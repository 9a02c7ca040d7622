use Rattle.std.proofs.Common.{rules, arith}
use Rattle.ep_base.proofs.PutSteps.{has_taken_more, rose_later}
use Rattle.ep_base.proofs.outside.put_all.Goals as goal

pub loop-rest-preserved : goal.loop-rest-preserved
loop-rest-preserved g c = record {
  part = has_taken_more _ _ _ _ _ _ c.loop-rest.invariant.part c.in_ok-count.ensures.within c.in_ok-count.ensures.takes;
  never_falls = omega (arith, c.loop-rest.invariant.never_falls, c.in_ok-count.ensures.never_falls);
}

pub returns-in_err-count-clause-failed : goal.returns-in_err-count-clause-failed
returns-in_err-count-clause-failed g c = λ e. rose_later _ _ _ c.loop-rest.invariant.never_falls (c.in_err-count.ensures.failed (search rules))

pub returns-in_err-count-clause-never_falls : goal.returns-in_err-count-clause-never_falls
returns-in_err-count-clause-never_falls g c = omega (arith, c.loop-rest.invariant.never_falls, c.in_err-count.ensures.never_falls)

pub returns-clause-never_falls : goal.returns-clause-never_falls
returns-clause-never_falls g c = c.loop-rest.invariant.never_falls
