use Rattle.ep_print.proofs.Appends.{three}
use Rattle.ep_print.proofs.answers.push_unknown.Goals as goal

pub returns : goal.returns
returns c = three _ _ _ _ _ _ _ c.in_ok-extend_from_slice.ensures.items c.in_ok-push_natural.ensures c.in_ok-extend_from_slice-2.ensures.items
