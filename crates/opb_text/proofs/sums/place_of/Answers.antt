use Rattle.opb_text.proofs.Placed.{not_found}
use Rattle.opb_text.proofs.sums.place_of.Goals as goal

pub unreachable-requires : goal.unreachable-requires
unreachable-requires c = not_found c.args.vars.now c.args.var c.in-Err.field-0 c.requires.ascending c.requires.there c.in-Err.ensures.position
