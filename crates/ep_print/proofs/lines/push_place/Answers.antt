use Rattle.std.proofs.Common.{rules, append_assoc}
use Rattle.ep_print.specs.Refusals.{place_text}
use Rattle.ep_print.proofs.lines.push_place.Goals as goal

pub returns : goal.returns
unfolding place_text
returns c = search (rules, append_assoc)
