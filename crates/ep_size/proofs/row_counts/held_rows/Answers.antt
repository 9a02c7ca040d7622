use Rattle.ep_size.proofs.Words.{ap, subst, sym, ◌≡◌, length, Some, fixed_span, map_grid, rows_of, held_value, fixed_grid, capped}
use Rattle.ep_size.proofs.MatrixSteps.{known_none}
use Rattle.ep_size.proofs.row_counts.held_rows.Goals as goal

pub returns-in-Number : goal.returns-in-Number
unfolding held_value map_grid
returns-in-Number c =
    known_none (fixed_span (Some c.in-Number.field-0)) (fixed_grid (held_value c.args.held.now)) (ap (λ h. fixed_grid (held_value h)) c.in-Number.is)

pub returns-in-Lent : goal.returns-in-Lent
unfolding held_value
returns-in-Lent c = subst (λ h. c.value_rows.result ≡ capped (length (rows_of (fixed_grid (held_value h))))) (sym c.in-Lent.is) c.value_rows.ensures

pub returns-in-Made : goal.returns-in-Made
unfolding held_value
returns-in-Made c =
    subst (λ h. c.value_rows-in-Made.result ≡ capped (length (rows_of (fixed_grid (held_value h))))) (sym c.in-Made.is) c.value_rows-in-Made.ensures
