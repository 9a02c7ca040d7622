use Rattle.std.proofs.Common.{refl}
use Rattle.ep_parse_parts.specs.Founds.{told}
use Rattle.ep_parse_parts.specs.Gathered.{end_tree}
use Rattle.ep_tree.specs.Heights.{end_height}
use Rattle.ep_parse_parts.proofs.parts.End.none.Goals as goal

pub returns : goal.returns
unfolding told end_tree end_height
returns c = record { counted = record { high = refl }; end = refl }
