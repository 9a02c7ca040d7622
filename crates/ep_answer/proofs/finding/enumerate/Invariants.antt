use Rattle.std.proofs.Common.{◌≡◌, ◌≤◌, ◌-◌, false, length}
use Rattle.std.specs.Prelude.{map}
use Rattle.cnf_core.specs.Events.{clauses_of}
use Rattle.ep_answer.specs.AnswerViews.{plain_problem}
use Rattle.ep_answer.specs.Searches.{ListsNumbers}
use Rattle.ep_answer.proofs.finding.enumerate.Given as goal

abbrev pub invariant-solutions : goal.invariant-solutions
invariant-solutions l = record {
  listed : ListsNumbers (plain_problem l.fn.p) l.fn.budget l.fn.log l.log (map (λ cells. cells.items) l.found.items);
  problem : plain_problem l.p ≡ record (plain_problem l.fn.p) { solver = l.p.solver };
  whole : l.p.solver.broken ≡ false;
  clauses : l.p.solver.clauses ≡ clauses_of l.log.events;
  few : length l.found.items ≤ l.fn.most;
}

abbrev pub decreases-solutions : goal.decreases-solutions
decreases-solutions l = l.fn.most - length l.found.items
