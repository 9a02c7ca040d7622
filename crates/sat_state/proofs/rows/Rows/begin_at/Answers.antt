use Rattle.std.proofs.Common.{refl, ap, ◌∙◌}
use Rattle.sat_state.specs.Rowed.{Rowed}
use Rattle.sat_state.proofs.RowsKept.{rows_set}
use Rattle.sat_state.proofs.rows.Rows.begin_at.Goals as goal

pub returns : goal.returns
returns c =
    rows_set c.self.inside.lits.items c.self.inside.rows.items c.args.number _ c.index-row.result.now refl refl c.index-row.result.now c.index-row.ensures
    ∙ ap (λ (r : Rowed). r.lists) c.self.view_is
