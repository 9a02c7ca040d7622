use Rattle.std.proofs.Common.{◌≡◌, ◌∙◌, ◌+◌, ◌<◌, ℤ, List, Ok, ap, refl, sym, subst, length, arith}
use Rattle.std.specs.Prelude.{map}
use Rattle.std.proofs.lemmas.List.{length-map, length_push, map-append}
use Rattle.cnf_core.specs.Events.{givens}
use Rattle.ep_answer.specs.AnswerViews.{plain_problem}
use Rattle.ep_answer.specs.Problems.{ProblemState}
use Rattle.ep_answer.specs.Searches.{HasCells, IsBlocked, ListsNumbers, kept_values}
use Rattle.ep_answer.proofs.Searching.{kept_satisfies, not_broken, stays_whole}
use Rattle.ep_answer.proofs.Listing.{blocked_same, has_cells, listed_first, listed_more, listed_on, lists, right_complete, right_spent, right_stopped}
use Rattle.ep_answer.proofs.finding.enumerate.Goals as goal

pub solutions-init : goal.solutions-init
solutions-init c = record {
  listed = subst (ListsNumbers (plain_problem c.args.p.now) c.args.budget c.args.log.now c.args.log.now) (sym (ap (map (λ cells. cells.items)) c.new-found.ensures.items)) (listed_first (plain_problem c.args.p.now) c.args.budget c.args.log.now c.requires);
  problem = refl;
  whole = c.requires.is_whole;
  clauses = c.requires.clauses;
  few = omega (arith, ap length c.new-found.ensures.items);
}

pub block-requires : goal.block-requires
block-requires c =
    let p = plain_problem c.args.p.now in
    let old = c.args.log.now in
    let now = c.solve.new.log in
    let solver = c.solve.new.self in
    let found : List (List ℤ) = map (λ cells. cells.items) c.solutions.found.items in
    let is = c.in-Ok.is ∙ ap Ok c.in-Sat.is in
    let whole = stays_whole solver.broken c.in-Ok.outcome c.solve.result c.solve.ensures.breaks.0 c.in-Ok.is in
    subst (λ q. HasCells q now) (sym (ap {A = ProblemState} (λ q. record q { solver = solver }) c.solutions.invariant.problem))
    (has_cells p c.args.budget old now found solver c.requires
    (listed_on p c.args.budget old c.solutions.log now found c.solutions.invariant.listed c.solve.ensures.steps c.solve.ensures.sound c.solve.ensures.within)
    whole (c.solve.ensures.clauses whole) (c.solve.ensures.sat is))

pub solutions-preserved : goal.solutions-preserved
solutions-preserved c =
    let p = plain_problem c.args.p.now in
    let old = c.args.log.now in
    let now = c.solve.new.log in
    let next = c.block.new.log in
    let solver = c.solve.new.self in
    let found : List (List ℤ) = map (λ cells. cells.items) c.solutions.found.items in
    let is = c.in-Ok.is ∙ ap Ok c.in-Sat.is in
    let cells = c.in_ok-block-in-Sat.field-0 in
    let grown : length c.push.new.self.items ≡ length c.solutions.found.items + 1 = ap length c.in_ok-push-in-Sat.ensures.items ∙ length_push c.solutions.found.items cells in
    record {
      listed = subst (ListsNumbers p c.args.budget old next) (sym (map-append (λ one. one.items) c.solutions.found.items _) ∙ sym (ap (map (λ one. one.items)) c.in_ok-push-in-Sat.ensures.items))
          (listed_more p c.args.budget old now next found (kept_values solver) cells.items c.requires
          (listed_on p c.args.budget old c.solutions.log now found c.solutions.invariant.listed c.solve.ensures.steps c.solve.ensures.sound c.solve.ensures.within)
          (kept_satisfies solver (givens now.events) (c.solve.ensures.sat is))
          (blocked_same p solver (kept_values solver) now next cells.items
          (subst (λ q. IsBlocked q (kept_values solver) now next cells.items) (ap {A = ProblemState} (λ q. record q { solver = solver }) c.solutions.invariant.problem) c.in_ok-block-in-Sat.ensures.blocked))
          c.block.ensures.sound (omega (arith, c.block.ensures.steps, c.solve.ensures.within)));
      problem = c.block.ensures.problem ∙ ap {A = ProblemState} (λ q. record q { solver = c.block.new.p.solver }) c.solutions.invariant.problem;
      whole = c.in_ok-block-in-Sat.ensures.whole;
      clauses = c.block.ensures.clauses c.in_ok-block-in-Sat.ensures.whole;
      few = let n = grown in omega (arith, n, c.solutions-test.true);
    }

pub solutions-smaller : goal.solutions-smaller
solutions-smaller c =
    let grown : length c.push.new.self.items ≡ length c.solutions.found.items + 1 = ap length c.in_ok-push-in-Sat.ensures.items ∙ length_push c.solutions.found.items c.in_ok-block-in-Sat.field-0 in
    omega (arith, grown, c.solutions-test.true)

pub returns-in-Unsat-clause-lists : goal.returns-in-Unsat-clause-lists
returns-in-Unsat-clause-lists c =
    let p = plain_problem c.args.p.now in
    let old = c.args.log.now in
    let now = c.solve.new.log in
    let found : List (List ℤ) = map (λ cells. cells.items) c.solutions.found.items in
    let unsat = c.in-Ok.is ∙ ap Ok c.in-Unsat.is in
    let listed = listed_on p c.args.budget old c.solutions.log now found c.solutions.invariant.listed c.solve.ensures.steps c.solve.ensures.sound c.solve.ensures.within in
    let few : length found < c.args.most = omega (arith, length-map c.solutions.found.items (λ cells. cells.items)) in
    lists p c.args.budget c.args.most old now found _ c.requires listed
    (right_complete p c.args.budget c.args.most old now found c.requires listed few (c.solve.ensures.unsat unsat) (c.solve.ensures.unsat_none unsat))

pub returns-in-Spent-clause-lists : goal.returns-in-Spent-clause-lists
returns-in-Spent-clause-lists c =
    let p = plain_problem c.args.p.now in
    let old = c.args.log.now in
    let now = c.solve.new.log in
    let found : List (List ℤ) = map (λ cells. cells.items) c.solutions.found.items in
    let is = c.in-Ok.is ∙ ap Ok c.in-Spent.is in
    let listed = listed_on p c.args.budget old c.solutions.log now found c.solutions.invariant.listed c.solve.ensures.steps c.solve.ensures.sound c.solve.ensures.within in
    let few : length found < c.args.most = omega (arith, length-map c.solutions.found.items (λ cells. cells.items)) in
    lists p c.args.budget c.args.most old now found _ c.requires listed
    (right_spent p c.args.budget c.args.most now found few (c.solve.ensures.spent is) (c.solve.ensures.spent_open is))

pub returns-clause-lists : goal.returns-clause-lists
returns-clause-lists c =
    let p = plain_problem c.args.p.now in
    let old = c.args.log.now in
    let found : List (List ℤ) = map (λ cells. cells.items) c.solutions.found.items in
    let all : length found ≡ c.args.most = omega (arith, length-map c.solutions.found.items (λ cells. cells.items)) in
    lists p c.args.budget c.args.most old c.solutions.log found _ c.requires c.solutions.invariant.listed
    (right_stopped p c.args.budget c.args.most c.solutions.log found all)

pub refusal-requires : goal.refusal-requires
refusal-requires c = not_broken c.solutions.p.solver.broken c.solve.result c.in-Err.error c.solutions.invariant.whole c.solve.ensures.broken.0 c.in-Err.is
