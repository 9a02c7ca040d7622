use Rattle.std.proofs.Common.{refl}
use Rattle.ep_parse_parts.specs.Gathered.{end_tree}
use Rattle.ep_tree.specs.Heights.{end_height}
use Rattle.ep_parse_parts.proofs.parts.End.found.Goals as goal

pub returns : goal.returns
unfolding end_tree end_height
returns c = record { counted = record { high = c.requires.found.height }; end = refl }
