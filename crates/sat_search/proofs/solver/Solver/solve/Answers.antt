use Rattle.std.proofs.Common.{◌≡◌}
use Rattle.sat_search.specs.declared.outcome.Outcome.TheVariants.{Spent, Unsat}
use Rattle.sat_search.proofs.Continued.{spent_few, unsat_none}
use Rattle.sat_search.proofs.solver.Solver.solve.Goals as goal

pub returns-clause-spent_few : goal.returns-clause-spent_few
returns-clause-spent_few c = λ e vars names.
    let spent : c.in_ok-outcome.outcome ≡ Spent = cc in
    spent_few c.args.budget _ c.search.new.log.events c.in_ok-outcome.outcome c.in_ok-outcome.ensures.answer spent c.in_ok-outcome.ensures.continued.sound vars names

pub returns-clause-unsat_none : goal.returns-clause-unsat_none
returns-clause-unsat_none c = λ e s satisfied.
    let unsat : c.in_ok-outcome.outcome ≡ Unsat = cc in
    unsat_none c.args.budget _ c.search.new.log.events c.in_ok-outcome.outcome c.in_ok-outcome.ensures.answer unsat c.in_ok-outcome.ensures.continued.sound s satisfied
