use Rattle.std.proofs.Common.{rules}
use Rattle.sat_merge.proofs.Placing.{not_found}
use Rattle.sat_merge.proofs.places.place_of.Goals as goal

pub returns-in-Err-clause-none : goal.returns-in-Err-clause-none
returns-in-Err-clause-none c = not_found c.args.ids.now c.args.hint _ c.in-Err.field-0 c.requires c.in-Err.ensures.position (search rules)
