use Rattle.ep_unroll.proofs.Words.{length}
use Rattle.ep_unroll.proofs.FlatSteps.{flatten_is}
use Rattle.ep_unroll.proofs.PartListSteps.{if_both}
use Rattle.ep_unroll.proofs.flattening.flattened.Goals as goal

pub returns : goal.returns
returns c n cells nodes new p e h =
    if_both c.list_of.result _ _ _
    (λ y value terms. flatten_is n cells nodes new p e c.args.known y c.in_ok-parts.parts.items h c.in_ok-parts.ensures (value new) (terms (length new))) c.list_of.ensures.value c.list_of.ensures.terms
