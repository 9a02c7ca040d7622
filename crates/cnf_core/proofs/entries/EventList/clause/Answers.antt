use Rattle.std.proofs.Common.{◌<◌, List, length, sym, ap, ◌∙◌, arith}
use Rattle.cnf_core.specs.Events.{LogEvent, clause_of, event_at}
use Rattle.cnf_core.proofs.EventLists.{clause_there, count_is}
use Rattle.cnf_core.proofs.entries.EventList.clause.Goals as goal

pub clause-requires : goal.clause-requires
clause-requires c = omega (arith, c.requires, ap length c.self.view_is, count_is c.self.inside c.self.invariant)

pub returns-clause-value : goal.returns-clause-value
returns-clause-value c =
    let lt : c.args.place < length c.self.inside.clauses = omega (arith, c.requires, ap length c.self.view_is, count_is c.self.inside c.self.invariant) in
    c.clause.ensures.value ∙ sym (clause_there c.self.inside c.args.place c.self.invariant lt) ∙ ap (λ (es : List LogEvent). clause_of (event_at es c.args.place)) c.self.view_is
