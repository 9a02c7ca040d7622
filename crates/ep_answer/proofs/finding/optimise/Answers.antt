use Rattle.std.proofs.Common.{◌≡◌, ◌∙◌, ℤ, List, Option, Ok, Some, ap, refl, sym, subst, arith}
use Rattle.std.specs.Prelude.{option_map}
use Rattle.cnf_core.specs.Events.{givens}
use Rattle.ep_answer.specs.Answered.{AnswersCells, Improves}
use Rattle.ep_answer.specs.AnswerViews.{plain_problem}
use Rattle.ep_answer.specs.Searches.{HasFound, IsImproved, kept_values}
use Rattle.ep_answer.specs.Problems.{ProblemState}
use Rattle.ep_answer.proofs.Searching.{answers_end, answers_spent, falls, has_found, improved_same, improves_end, improves_spent, kept_satisfies, not_broken, objective_there, pursued_first, pursued_more, pursued_on, stays_whole}
use Rattle.ep_answer.proofs.finding.optimise.Goals as goal

pub solutions-init : goal.solutions-init
solutions-init c = record {
  pursued = pursued_first (plain_problem c.args.p.now) c.args.budget c.args.log.now c.requires.can_search;
  problem = refl;
  whole = c.requires.can_search.is_whole;
  clauses = c.requires.can_search.clauses;
}

pub improve-requires : goal.improve-requires
improve-requires c =
    let p = plain_problem c.args.p.now in
    let old = c.args.log.now in
    let now = c.solve.new.log in
    let solver = c.solve.new.self in
    let best : Option (ℤ × List ℤ) = option_map (λ one. (one.0, one.1.items)) c.solutions.best in
    let is = c.in-Ok.is ∙ ap Ok c.in-Sat.is in
    let whole = stays_whole solver.broken c.in-Ok.outcome c.solve.result c.solve.ensures.breaks.0 c.in-Ok.is in
    subst (λ q. HasFound q c.in-Some.var now) (sym (ap {A = ProblemState} (λ q. record q { solver = solver }) c.solutions.invariant.problem))
    (has_found p c.args.budget old now best solver c.in-Some.sense c.in-Some.var c.requires.can_search c.in-Some.is
    (pursued_on p c.args.budget old c.solutions.log now best c.solutions.invariant.pursued c.solve.ensures.steps c.solve.ensures.sound c.solve.ensures.within)
    whole (c.solve.ensures.clauses whole) (c.solve.ensures.sat is))

pub solutions-smaller : goal.solutions-smaller
solutions-smaller c =
    let p = plain_problem c.args.p.now in
    let old = c.args.log.now in
    let now = c.solve.new.log in
    let solver = c.solve.new.self in
    let best : Option (ℤ × List ℤ) = option_map (λ one. (one.0, one.1.items)) c.solutions.best in
    let is = c.in-Ok.is ∙ ap Ok c.in-Sat.is in
    let found = c.in_ok-improve-in-Sat.field-0 in
    falls p c.args.budget old now c.improve.new.log best c.in-Some.sense c.in-Some.var (kept_values solver) found.0 found.1.items c.requires.can_search c.in-Some.is
    (pursued_on p c.args.budget old c.solutions.log now best c.solutions.invariant.pursued c.solve.ensures.steps c.solve.ensures.sound c.solve.ensures.within)
    (kept_satisfies solver (givens now.events) (c.solve.ensures.sat is))
    (improved_same p solver c.in-Some.sense c.in-Some.var (kept_values solver) now c.improve.new.log found.0 found.1.items
    (subst (λ q. IsImproved q c.in-Some.sense c.in-Some.var (kept_values solver) now c.improve.new.log found.0 found.1.items) (ap {A = ProblemState} (λ q. record q { solver = solver }) c.solutions.invariant.problem) c.in_ok-improve-in-Sat.ensures.improved))

pub solutions-preserved : goal.solutions-preserved
solutions-preserved c =
    let p = plain_problem c.args.p.now in
    let old = c.args.log.now in
    let now = c.solve.new.log in
    let next = c.improve.new.log in
    let solver = c.solve.new.self in
    let best : Option (ℤ × List ℤ) = option_map (λ one. (one.0, one.1.items)) c.solutions.best in
    let is = c.in-Ok.is ∙ ap Ok c.in-Sat.is in
    let found = c.in_ok-improve-in-Sat.field-0 in
    let stated : p.variables.objective ≡ Some (c.in-Some.sense, c.in-Some.var) = c.in-Some.is in
    record {
      pursued = pursued_more p c.args.budget old now next best c.in-Some.sense c.in-Some.var (kept_values solver) found.0 found.1.items c.requires.can_search stated (objective_there p c.in-Some.sense c.in-Some.var old c.requires.can_search stated)
          (pursued_on p c.args.budget old c.solutions.log now best c.solutions.invariant.pursued c.solve.ensures.steps c.solve.ensures.sound c.solve.ensures.within)
          (kept_satisfies solver (givens now.events) (c.solve.ensures.sat is))
          (improved_same p solver c.in-Some.sense c.in-Some.var (kept_values solver) now next found.0 found.1.items
          (subst (λ q. IsImproved q c.in-Some.sense c.in-Some.var (kept_values solver) now next found.0 found.1.items) (ap {A = ProblemState} (λ q. record q { solver = solver }) c.solutions.invariant.problem) c.in_ok-improve-in-Sat.ensures.improved))
          c.improve.ensures.sound (omega (arith, c.improve.ensures.steps, c.solve.ensures.within));
      problem = c.improve.ensures.problem ∙ ap {A = ProblemState} (λ q. record q { solver = c.improve.new.p.solver }) c.solutions.invariant.problem;
      whole = c.in_ok-improve-in-Sat.ensures.whole;
      clauses = c.improve.ensures.clauses c.in_ok-improve-in-Sat.ensures.whole;
    }

pub returns-in-Unsat-clause-answers : goal.returns-in-Unsat-clause-answers
returns-in-Unsat-clause-answers c =
    let p = plain_problem c.args.p.now in
    let old = c.args.log.now in
    let now = c.solve.new.log in
    let best : Option (ℤ × List ℤ) = option_map (λ one. (one.0, one.1.items)) c.solutions.best in
    let unsat = c.in-Ok.is ∙ ap Ok c.in-Unsat.is in
    subst (AnswersCells p c.args.budget now) (sym c.best_of_all.ensures)
    (answers_end p c.args.budget old now best c.requires.can_search.is_base
    (pursued_on p c.args.budget old c.solutions.log now best c.solutions.invariant.pursued c.solve.ensures.steps c.solve.ensures.sound c.solve.ensures.within)
    (c.solve.ensures.unsat unsat) (c.solve.ensures.unsat_none unsat))

pub returns-in-Unsat-clause-improves : goal.returns-in-Unsat-clause-improves
returns-in-Unsat-clause-improves c =
    let p = plain_problem c.args.p.now in
    let old = c.args.log.now in
    let now = c.solve.new.log in
    let best : Option (ℤ × List ℤ) = option_map (λ one. (one.0, one.1.items)) c.solutions.best in
    subst (Improves p old now) (sym c.best_of_all.ensures)
    (improves_end p c.args.budget old now best c.requires.can_search.is_base
    (pursued_on p c.args.budget old c.solutions.log now best c.solutions.invariant.pursued c.solve.ensures.steps c.solve.ensures.sound c.solve.ensures.within))

pub returns-in-Spent-clause-answers : goal.returns-in-Spent-clause-answers
returns-in-Spent-clause-answers c =
    let p = plain_problem c.args.p.now in
    let old = c.args.log.now in
    let now = c.solve.new.log in
    let best : Option (ℤ × List ℤ) = option_map (λ one. (one.0, one.1.items)) c.solutions.best in
    let spent = c.in-Ok.is ∙ ap Ok c.in-Spent.is in
    answers_spent p c.args.budget old now best c.requires.can_search.is_base
    (pursued_on p c.args.budget old c.solutions.log now best c.solutions.invariant.pursued c.solve.ensures.steps c.solve.ensures.sound c.solve.ensures.within)
    (c.solve.ensures.spent spent) (c.solve.ensures.spent_open spent)

pub returns-in-Spent-clause-improves : goal.returns-in-Spent-clause-improves
returns-in-Spent-clause-improves c =
    let p = plain_problem c.args.p.now in
    let old = c.args.log.now in
    let now = c.solve.new.log in
    let best : Option (ℤ × List ℤ) = option_map (λ one. (one.0, one.1.items)) c.solutions.best in
    improves_spent p c.args.budget old now best c.requires.can_search.is_base
    (pursued_on p c.args.budget old c.solutions.log now best c.solutions.invariant.pursued c.solve.ensures.steps c.solve.ensures.sound c.solve.ensures.within)

pub refusal-requires : goal.refusal-requires
refusal-requires c = not_broken c.solutions.p.solver.broken c.solve.result c.in-Err.error c.solutions.invariant.whole c.solve.ensures.broken.0 c.in-Err.is
