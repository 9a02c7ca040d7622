use Rattle.std.proofs.Common.{◌≤◌, take}
use Rattle.std.specs.Prelude.{All}
use Rattle.opb_text.specs.Views.{plain_row}
use Rattle.opb_text.specs.Weights.{row_reach, most_reach}
use Rattle.opb_text.proofs.measure.are_within_reach.Given as goal

abbrev pub invariant-loop-row : goal.invariant-loop-row
invariant-loop-row l = All (λ row. row_reach (plain_row row) ≤ most_reach) (take l.row-index l.rows)
