use Rattle.std.proofs.Common.{◌∙◌, ℕ, List, None, Ok, ap, subst, sym}
use Rattle.ep_flat.specs.Cons.{numbers_of_vars}
use Rattle.enc_var.specs.Layouts.{decoded_values}
use Rattle.cnf_core.specs.Events.{givens}
use Rattle.sat_search.proofs.Continued.{sound_givens}
use Rattle.ep_answer.specs.AnswerViews.{plain_problem}
use Rattle.ep_answer.specs.Problems.{AllMean}
use Rattle.ep_answer.specs.Searches.{kept_values}
use Rattle.ep_answer.proofs.Searching.{answers_end, answers_found, answers_spent, kept_satisfies, means_now, not_broken, pursued_first, pursued_on, within_any}
use Rattle.ep_answer.proofs.finding.find_one.Goals as goal

pub solve-requires-clause-sound : goal.solve-requires-clause-sound
solve-requires-clause-sound c = sound_givens c.args.log.now.events c.requires.can_search.are_givens

pub solve-requires-clause-budget : goal.solve-requires-clause-budget
solve-requires-clause-budget c = within_any c.args.budget c.args.log.now.events c.requires.can_search.are_givens

pub read_back-requires-clause-meaning : goal.read_back-requires-clause-meaning
read_back-requires-clause-meaning c =
    let p = plain_problem c.args.p.now in
    let old = c.args.log.now in
    let now = c.solve.new.log in
    let first = pursued_first p c.args.budget old c.requires.can_search in
    subst (λ (xs : List ℕ). AllMean (kept_values c.solve.new.self) p.layout xs) (sym c.as_slice.ensures.value)
    (means_now p c.args.budget old now None (kept_values c.solve.new.self) c.requires.can_search (pursued_on p c.args.budget old old now None first c.solve.ensures.steps c.solve.ensures.sound c.solve.ensures.within)
    (kept_satisfies c.solve.new.self (givens now.events) (c.solve.ensures.sat (c.in-Ok.is ∙ ap Ok c.in-Sat.is)))).cells

pub returns-in_ok-cells-in-Sat-clause-answers : goal.returns-in_ok-cells-in-Sat-clause-answers
returns-in_ok-cells-in-Sat-clause-answers c =
    let p = plain_problem c.args.p.now in
    let old = c.args.log.now in
    let now = c.solve.new.log in
    let first = pursued_first p c.args.budget old c.requires.can_search in
    answers_found p c.args.budget old now (kept_values c.solve.new.self) c.in_ok-cells-in-Sat.cells.items c.requires.can_search.is_base c.requires.no_objective
    (pursued_on p c.args.budget old old now None first c.solve.ensures.steps c.solve.ensures.sound c.solve.ensures.within)
    (kept_satisfies c.solve.new.self (givens now.events) (c.solve.ensures.sat (c.in-Ok.is ∙ ap Ok c.in-Sat.is)))
    (c.in_ok-cells-in-Sat.ensures ∙ ap (numbers_of_vars (decoded_values p.layout (kept_values c.solve.new.self))) c.as_slice.ensures.value)

pub returns-in-Unsat-clause-answers : goal.returns-in-Unsat-clause-answers
returns-in-Unsat-clause-answers c =
    let p = plain_problem c.args.p.now in
    let old = c.args.log.now in
    let now = c.solve.new.log in
    let first = pursued_first p c.args.budget old c.requires.can_search in
    let unsat = c.in-Ok.is ∙ ap Ok c.in-Unsat.is in
    answers_end p c.args.budget old now None c.requires.can_search.is_base (pursued_on p c.args.budget old old now None first c.solve.ensures.steps c.solve.ensures.sound c.solve.ensures.within)
    (c.solve.ensures.unsat unsat) (c.solve.ensures.unsat_none unsat)

pub returns-in-Spent-clause-answers : goal.returns-in-Spent-clause-answers
returns-in-Spent-clause-answers c =
    let p = plain_problem c.args.p.now in
    let old = c.args.log.now in
    let now = c.solve.new.log in
    let first = pursued_first p c.args.budget old c.requires.can_search in
    let spent = c.in-Ok.is ∙ ap Ok c.in-Spent.is in
    answers_spent p c.args.budget old now None c.requires.can_search.is_base (pursued_on p c.args.budget old old now None first c.solve.ensures.steps c.solve.ensures.sound c.solve.ensures.within)
    (c.solve.ensures.spent spent) (c.solve.ensures.spent_open spent)

pub refusal-requires : goal.refusal-requires
refusal-requires c = not_broken c.args.p.now.solver.broken c.solve.result c.in-Err.error c.requires.can_search.is_whole c.solve.ensures.broken.0 c.in-Err.is
