use Rattle.std.proofs.Common.{◌∙◌}
use Rattle.ep_parse_parts.proofs.ToldHeights.{told_max}
use Rattle.ep_parse_parts.proofs.found.higher.Goals as goal

pub returns : goal.returns
returns c = record { greater = λ h k e f. c.max.ensures ∙ told_max h k _ _ e f }
