use Rattle.ep_parse_trees.proofs.JunctionTurns.{part_added, part_is}
use Rattle.ep_parse_trees.proofs.operators.push_part.Goals as goal

pub returns : goal.returns
returns g c = record { read = part_added _ _ _ c.in_ok-part.part _ _ c.push.ensures.pushed c.push.ensures.counted (part_is _ _ _ _ _ _ _ _ c.in_ok-word.ensures.read c.in_ok-part.ensures.read.0) }
