use Rattle.opb_text.proofs.FlatLaws.{both_ok, truth_set}
use Rattle.opb_text.proofs.flat.truth_domain.Goals as goal

pub returns : goal.returns
returns c = both_ok c.span.result c.span.ensures.has c.span.ensures.ascending (λ set has up. truth_set set has up)
