use Rattle.ep_size.proofs.Words.{Some, ap, subst, sym, ◌∙◌, no_runs, has_cells, filled, TellsValue, grid_of, plain_span, wide_interval, Keeps}
use Rattle.ep_size.proofs.NamedSteps.{cell_finished, cell_refused, cells_finished}
use Rattle.ep_size.proofs.named.cells_with.Goals as goal

pub returns-in-Some : goal.returns-in-Some
unfolding grid_of TellsValue
returns-in-Some c mode env name p t h same =
    let d = c.args.domain.now in
    let cut = sym c.as_slice.ensures.value ∙ c.in-Some.ensures.cases.0 in
    cells_finished mode env name p t d.of _ _ d.values _ c.args.span (h ∙ ap (λ l. Some (has_cells d.of l d.values)) cut) same
    (ap (filled (plain_span c.args.span)) (c.deref.ensures.value ∙ cut)) (λ held. held)

pub returns-in-Ok : goal.returns-in-Ok
returns-in-Ok c mode env name p t h same =
    let d = c.args.domain.now in
    let none = sym c.as_slice.ensures.value ∙ no_runs c.as_slice.result.now c.in-None.ensures.cases in
    let kept = subst (Keeps (wide_interval c.widened.result)) c.in-Ok.is c.near.ensures in
    cell_finished mode env name p t d.of d.values c.args.span (wide_interval c.widened.result) (h ∙ ap (λ l. Some (has_cells d.of l d.values)) none) same
    c.widened.ensures kept.1

pub returns-in-Err : goal.returns-in-Err
returns-in-Err c mode env name p t h same =
    let d = c.args.domain.now in
    let none = sym c.as_slice.ensures.value ∙ no_runs c.as_slice.result.now c.in-None.ensures.cases in
    cell_refused mode env name p t d.of d.values c.args.span (wide_interval c.widened.result) c.in-Err.refused
    (h ∙ ap (λ l. Some (has_cells d.of l d.values)) none) same c.widened.ensures (subst (Keeps (wide_interval c.widened.result)) c.in-Err.is c.near.ensures)
