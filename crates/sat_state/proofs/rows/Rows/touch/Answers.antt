use Rattle.std.proofs.Common.{ℕ, ◌-◌, refl, ap, ◌∙◌}
use Rattle.std.specs.Prelude.{vec_capacity}
use Rattle.std.proofs.lemmas.List.{length-set}
use Rattle.sat_state.proofs.RowsKept.{rows_set, rowed_same}
use Rattle.sat_state.proofs.rows.Rows.touch.Goals as goal

pub returns-then-row : goal.returns-then-row
returns-then-row c =
    rowed_same _ _ _ _ _
    (rows_set c.self.inside.lits.items c.self.inside.rows.items c.args.number _ c.index-row.result.now refl refl c.index-row.result.now c.index-row.ensures)
    (ap (λ (n : ℕ). vec_capacity c.self.inside.rows - n) (length-set c.self.inside.rows.items c.args.number _))
    ∙ c.self.view_is
