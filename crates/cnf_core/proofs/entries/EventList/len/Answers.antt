use Rattle.std.proofs.Common.{length, sym, ap, ◌∙◌, arith}
use Rattle.cnf_core.proofs.EventLists.{count_is}
use Rattle.cnf_core.proofs.entries.EventList.len.Goals as goal

pub returns-clause-value : goal.returns-clause-value
returns-clause-value c = c.len.ensures ∙ sym (count_is c.self.inside c.self.invariant) ∙ ap length c.self.view_is

pub returns-clause-few : goal.returns-clause-few
returns-clause-few c =
    let ends = c.self.inside.ends in
    omega (arith, c.len.ensures, c.self.invariant.ended, ends.ok.0, ends.ok.1, ends.small)
