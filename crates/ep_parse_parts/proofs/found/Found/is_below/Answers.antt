use Rattle.std.proofs.Common.{rules}
use Rattle.ep_parse_parts.proofs.ToldHeights.{told_below}
use Rattle.ep_parse_parts.proofs.found.Found.is_below.Goals as goal

pub returns : goal.returns
returns c = record { low = told_below _ _ _ c.requires.measured.height (search rules) }
