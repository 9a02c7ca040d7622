use Rattle.ep_parse_parts.proofs.ToldHeights.{told_more}
use Rattle.ep_parse_parts.proofs.found.above.Goals as goal

pub returns : goal.returns
returns c = record { more = λ h e. told_more h _ _ e c.saturating_add.ensures }
