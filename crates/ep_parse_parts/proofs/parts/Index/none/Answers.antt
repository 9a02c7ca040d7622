use Rattle.std.proofs.Common.{refl}
use Rattle.ep_parse_parts.specs.Founds.{told}
use Rattle.ep_parse_parts.specs.Gathered.{index_tree}
use Rattle.ep_tree.specs.Heights.{index_height}
use Rattle.ep_parse_parts.proofs.parts.Index.none.Goals as goal

pub returns : goal.returns
unfolding told index_tree index_height
returns c = record { domain = refl; counted = record { high = refl } }
