use Rattle.std.proofs.Common.{All, List, arith, subst}
use Rattle.cnf_core.specs.Literal.{IsVariable, Literal}
use Rattle.cnf_core.specs.declared.lit.TheConstants.{MOST_VARIABLE}
use Rattle.ep_outputs.proofs.Givens.{all-up-to, next-up-to, none-up-to, one-up-to, variables-up-to}
use Rattle.ep_outputs.proofs.texts.greatest_variable.Goals as goal

pub loop-clause-init : goal.loop-clause-init
loop-clause-init c = (none-up-to c.args.clauses.now, omega arith, (λ n all. omega arith))

pub loop-clause-preserved : goal.loop-clause-preserved
loop-clause-preserved c =
    let clause = c.clause-item.result in
    let V : List Literal → Type 0 = λ ls. All (λ l. IsVariable l.var) ls in
    let variables : V clause = subst V c.lits-lits.ensures.value c.lits-lits.ensures.variables in (
      next-up-to c.loop-clause.most c.greatest_variable.result c.greater-most.result c.loop-clause.clause-index c.args.clauses.now clause
          c.loop-clause.invariant.0 c.greater-most.ensures.first c.greater-most.ensures.second c.loop-clause-test.true c.clause-item.is c.greatest_variable.ensures.none_above,
      c.greater-most.ensures.least MOST_VARIABLE c.loop-clause.invariant.1 (c.greatest_variable.ensures.least MOST_VARIABLE (variables-up-to clause variables)),
      (λ n all. c.greater-most.ensures.least n (c.loop-clause.invariant.2 n all)
          (c.greatest_variable.ensures.least n (one-up-to n c.loop-clause.clause-index c.args.clauses.now clause c.loop-clause-test.true c.clause-item.is all))),
    )

pub returns-clause-none_above : goal.returns-clause-none_above
returns-clause-none_above c =
    all-up-to c.loop-clause.most c.loop-clause.clause-index c.args.clauses.now c.loop-clause.invariant.0 c.loop-clause-test.false
