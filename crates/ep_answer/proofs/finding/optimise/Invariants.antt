use Rattle.std.proofs.Common.{◌≡◌, ℤ, List, false}
use Rattle.std.specs.Prelude.{option_map}
use Rattle.cnf_core.specs.Events.{clauses_of}
use Rattle.enc_var.specs.Layouts.{literals_at}
use Rattle.ep_answer.specs.AnswerViews.{plain_problem}
use Rattle.ep_answer.specs.Searches.{IsPursued, numbers_left}
use Rattle.ep_answer.proofs.finding.optimise.Given as goal

abbrev pub invariant-solutions : goal.invariant-solutions
invariant-solutions l = record {
  pursued : IsPursued (plain_problem l.fn.p) l.fn.budget l.fn.log l.log (option_map (λ one. (one.0, one.1.items)) l.best);
  problem : plain_problem l.p ≡ record (plain_problem l.fn.p) { solver = l.p.solver };
  whole : l.p.solver.broken ≡ false;
  clauses : l.p.solver.clauses ≡ clauses_of l.log.events;
}

abbrev pub decreases-solutions : goal.decreases-solutions
decreases-solutions l = numbers_left l.sense (literals_at l.fn.p.layout l.var).domain (option_map (λ (one : ℤ × List ℤ). one.0) (option_map (λ one. (one.0, one.1.items)) l.best))
