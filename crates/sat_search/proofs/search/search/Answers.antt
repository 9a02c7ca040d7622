use Rattle.std.proofs.Common.{refl, subst}
use Rattle.cnf_core.specs.Steps.{IsAtEnd}
use Rattle.sat_state.specs.Trail.{literals}
use Rattle.sat_search.proofs.Values.{satisfies_givens}
use Rattle.sat_search.proofs.Continued.{continued_trans}
use Rattle.sat_search.proofs.search.search.Goals as goal

pub returns-in-None-clause-answer : goal.returns-in-None-clause-answer
returns-in-None-clause-answer c =
    satisfies_givens c.args.vars c.decide_all.new.state.trail c.conflicts.state.clauses c.conflicts.log.events c.conflicts.invariant.clauses
    (subst (IsAtEnd (literals c.decide_all.new.state.trail)) c.decide_all.ensures.clauses (c.in-None.ensures.propagated refl)) (c.in-None.ensures.values refl) c.conflicts.invariant.known.names

pub returns-in_err-outcome-in-Some-clause-continued : goal.returns-in_err-outcome-in-Some-clause-continued
returns-in_err-outcome-in-Some-clause-continued c =
    continued_trans c.args.budget c.args.log.now c.conflicts.log c.learn.new.log c.conflicts.invariant.continued c.learn.ensures.continued

pub returns-in-Some-2-clause-continued : goal.returns-in-Some-2-clause-continued
returns-in-Some-2-clause-continued c =
    continued_trans c.args.budget c.args.log.now c.conflicts.log c.learn.new.log c.conflicts.invariant.continued c.learn.ensures.continued

pub conflicts-preserved : goal.conflicts-preserved
conflicts-preserved c = record {
  known = c.in_ok-outcome-in-Some.ensures.known;
  clauses = c.in_ok-outcome-in-Some.ensures.clauses;
  continued = continued_trans c.args.budget c.args.log.now c.conflicts.log c.learn.new.log c.conflicts.invariant.continued c.learn.ensures.continued;
}
