use Rattle.std.proofs.Common.{◌≡◌, ℕ, List, IfSome, IsSomeAnd, Ok, Err, ap, ◌∙◌, subst, sym, arith}
use Rattle.std.proofs.lemmas.Bool.{false≢true}
use Rattle.cnf_core.specs.Literal.{Literal}
use Rattle.cnf_core.specs.Clauses.{Satisfies}
use Rattle.cnf_core.specs.Events.{givens, nonempty_steps}
use Rattle.sat_search.specs.View.{SolverView, value_in}
use Rattle.sat_search.specs.declared.outcome.Outcome.{Outcome}
use Rattle.sat_search.specs.declared.outcome.SolveError.{SolveError}
use Rattle.sat_split.specs.Cubes.{cube_literals, cube_log}
use Rattle.sat_cubes.specs.Solving.{AreValues}
use Rattle.sat_cubes.proofs.Models.{some_and, begins_given, begins_without_steps, model_found, given_in_cube, refuted_is, spent_is}
use Rattle.sat_cubes.proofs.solving.solve_cube.Goals as goal

pub solve-requires-clause-sound : goal.solve-requires-clause-sound
solve-requires-clause-sound c = c.in_ok-solver.ensures.sound (begins_given c.args.formula.now.clauses _ c.in_ok-log.log c.in_ok-log.ensures)

pub solve-requires-clause-budget : goal.solve-requires-clause-budget
solve-requires-clause-budget c =
    let none : nonempty_steps c.in_ok-log.log.events ≡ 0 = begins_without_steps c.args.formula.now.clauses _ c.in_ok-log.log c.in_ok-log.ensures in
    omega (arith, none)

pub values_of-requires : goal.values_of-requires
values_of-requires c = some_and (λ trues. Satisfies (value_in trues) (givens c.solve.new.log.events)) c.solve.new.self.kept (c.solve.ensures.sat (c.in-Ok.is ∙ ap (λ (o : Outcome). Ok o) c.in-Sat.is))

pub returns-in-Sat : goal.returns-in-Sat
returns-in-Sat c =
    let f = c.args.formula.now in
    let vars = c.args.vars.now in
    let literals = cube_literals c.args.cube vars in
    let kept = c.solve.new.self.kept in
    let is = c.in_ok-log.ensures ∙ ap (cube_log f.clauses) (c.deref.ensures.value ∙ c.in_ok-literals.ensures) in
    model_found f vars c.args.cube c.clauses-clauses.ensures.clauses c.clauses-clauses.ensures.names c.requires kept c.in_ok-values_of-in-Sat.field-0.items
    (subst (λ (cs : List (List Literal)). IsSomeAnd kept (λ trues. Satisfies (value_in trues) cs)) (given_in_cube f.clauses literals c.in_ok-log.log c.solve.new.log is c.solve.ensures.givens)
    (c.solve.ensures.sat (c.in-Ok.is ∙ ap (λ (o : Outcome). Ok o) c.in-Sat.is)))
    (subst (λ (n : ℕ). IfSome kept (λ trues. AreValues trues n c.in_ok-values_of-in-Sat.field-0.items)) c.vars.ensures.value c.in_ok-values_of-in-Sat.ensures)

pub returns-in-Unsat : goal.returns-in-Unsat
returns-in-Unsat c =
    let f = c.args.formula.now in
    let ends = c.in-Ok.is ∙ ap (λ (o : Outcome). Ok o) c.in-Unsat.is in (
      refuted_is f (cube_literals c.args.cube c.args.vars.now) c.in_ok-log.log c.solve.new.log
          (c.in_ok-log.ensures ∙ ap (cube_log f.clauses) (c.deref.ensures.value ∙ c.in_ok-literals.ensures))
          c.solve.ensures.steps c.solve.ensures.givens c.solve.ensures.sound (c.solve.ensures.unsat ends) (c.solve.ensures.unsat_none ends),
      c.solve.ensures.within,
    )

pub returns : goal.returns
returns c =
    let f = c.args.formula.now in
    let ends = c.in-Ok.is ∙ ap (λ (o : Outcome). Ok o) c.in-Spent.is in
    spent_is f (cube_literals c.args.cube c.args.vars.now) c.args.budget c.in_ok-log.log c.solve.new.log
    (c.in_ok-log.ensures ∙ ap (cube_log f.clauses) (c.deref.ensures.value ∙ c.in_ok-literals.ensures))
    c.solve.ensures.steps c.solve.ensures.sound (c.solve.ensures.spent ends) (c.solve.ensures.spent_open ends)

pub unreachable-requires : goal.unreachable-requires
unreachable-requires c =
    false≢true
    (sym (ap (λ (s : SolverView). s.broken) c.in_ok-solver.ensures.made)
    ∙ c.solve.ensures.broken.0 (c.in-Err-Broken.is ∙ ap (λ (e : SolveError). Err e) c.in-Err-Broken.field-0-is))
