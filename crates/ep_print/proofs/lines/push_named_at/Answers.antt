use Rattle.std.proofs.Common.{rules, append_assoc}
use Rattle.ep_print.proofs.lines.push_named_at.Goals as goal

pub returns : goal.returns
returns c = search (rules, append_assoc)
