use Rattle.std.proofs.Common.{map, take}
use Rattle.ep_flat.specs.FlatViews.{plain_con}
use Rattle.opb_text.specs.Sums.{AreConsOf}
use Rattle.opb_text.specs.Views.{plain_row}
use Rattle.opb_text.proofs.flat.row_cons.Given as goal

abbrev pub invariant-loop-row : goal.invariant-loop-row
invariant-loop-row l = AreConsOf l.vars (map plain_row (take l.row-index l.rows)) (map plain_con l.cons.items)
