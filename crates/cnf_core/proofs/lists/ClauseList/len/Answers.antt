use Rattle.std.proofs.Common.{◌≡◌, length, rules, sym, ap, ◌∙◌}
use Rattle.cnf_core.proofs.Pieces.{lists_length}
use Rattle.cnf_core.proofs.lists.ClauseList.len.Goals as goal

pub returns : goal.returns
returns c =
    let count : c.len.result ≡ length c.self.inside.ends.items = search rules in
    count ∙ sym (lists_length c.self.inside.literals.items 0 c.self.inside.ends.items) ∙ ap length c.self.view_is
