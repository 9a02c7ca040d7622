use Rattle.ep_unroll.proofs.Words.{◌+◌, ap, length, sym, no_runs, cell_count, cells_value, each_from}
use Rattle.ep_unroll.proofs.FormValues.{if_ok}
use Rattle.ep_unroll.proofs.WholeSteps.{cells_parts, matrix_whole, whole_same}
use Rattle.ep_unroll.proofs.wholes.+cells_guarded.Goals as goal

pub returns-in_ok-indices-in-Some : goal.returns-in_ok-indices-in-Some
returns-in_ok-indices-in-Some t c =
    let old = c.args.arena.now in
    let new = c.cells_guarded.new.arena in
    let own = c.in-Some.own.now in
    let inner = c.in-Some.inner.now in
    let start = c.args.start in
    let behind = c.in_ok-parts-in-Some.ensures in
    matrix_whole old new c.args.others.items own (λ numbers. cells_value numbers inner start) (λ numbers. cells_value numbers c.args.domains.now start)
    (λ numbers. each_from (cells_value numbers inner) (cell_count inner) (start + cell_count inner) behind.later) c.in_ok-indices-in-Some.indices c.in_ok-parts-in-Some.parts c.in_ok-first-in-Some.first c.in_ok-first-in-Some.ensures c.in_ok-indices-in-Some.ensures
    (λ numbers. behind.worths new numbers) (behind.terms (length new) c.in_ok-first-in-Some.ensures.known)
    (λ numbers. cells_parts numbers c.args.domains.now own inner start behind.index behind.later c.in-Some.ensures.cases.0 behind.cut)

pub returns-in-None : goal.returns-in-None
returns-in-None t c =
    if_ok c.cell_guarded.result _ _
    (λ x h. whole_same c.args.arena.now c.cell_guarded.new.arena c.args.others.items _ (λ numbers. cells_value numbers c.args.domains.now c.args.start) x
    (λ numbers. ap (λ ds. cells_value numbers ds c.args.start) (sym (no_runs c.args.domains.now c.in-None.ensures.cases))) h) c.cell_guarded.ensures
