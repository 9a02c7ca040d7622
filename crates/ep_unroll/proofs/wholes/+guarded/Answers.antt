use Rattle.ep_unroll.proofs.Words.{◌∷◌, ◌++◌, ◌∙◌, ap, length, sym, worth, worths}
use Rattle.ep_unroll.proofs.FormValues.{if_ok}
use Rattle.ep_unroll.proofs.GrownParts.{have_kept, worths_kept}
use Rattle.ep_unroll.proofs.WholeSteps.{known_parts, later_terms, matrix_whole, whole_same}
use Rattle.ep_unroll.proofs.wholes.+guarded.Goals as goal

pub returns-in-Number : goal.returns-in-Number
unfolding worth
returns-in-Number t c =
    let old = c.args.arena.now in
    if_ok c.term_guarded.result _ _
    (λ x h known. whole_same old c.term_guarded.new.arena c.args.others.items _ (λ numbers. worth old numbers c.args.known.now) x (λ numbers. ap (worth old numbers) (sym c.in-Number.is)) h) c.term_guarded.ensures

pub returns-in-Cells : goal.returns-in-Cells
unfolding worth
returns-in-Cells t c =
    let old = c.args.arena.now in
    if_ok c.cells_guarded.result _ _
    (λ x h known. whole_same old c.cells_guarded.new.arena c.args.others.items _ (λ numbers. worth old numbers c.args.known.now) x (λ numbers. ap (worth old numbers) (sym c.in-Cells.is)) h) c.cells_guarded.ensures

pub returns-in-Fixed : goal.returns-in-Fixed
unfolding worth
returns-in-Fixed t c =
    let old = c.args.arena.now in
    if_ok c.seen_guarded.result _ _
    (λ x h known. whole_same old c.seen_guarded.new.arena c.args.others.items _ (λ numbers. worth old numbers c.args.known.now) x (λ numbers. ap (worth old numbers) (sym c.in-Fixed.is)) h) c.seen_guarded.ensures

pub returns-in_ok-extend_from_slice-in-Matrix : goal.returns-in_ok-extend_from_slice-in-Matrix
returns-in_ok-extend_from_slice-in-Matrix t c known =
    let old = c.args.arena.now in
    let new = c.guarded.new.arena in
    let own = c.in-Matrix.own in
    let inner = c.in-Matrix.inner in
    let part = c.in-Some.part.now in
    let later = c.in-Some.later.now in
    let cut = sym c.deref.ensures.value ∙ c.in-Some.ensures.cases.0 in
    let both = later_terms (length old) part c.args.known.now own inner later known c.in-Matrix.is cut in
    let first = c.in_ok-first-in-Matrix.ensures both.0 in
    let has = both.1 in
    matrix_whole old new c.args.others.items own.items (λ numbers. worth old numbers part) (λ numbers. worth old numbers c.args.known.now) (λ numbers. worths old numbers later) c.extend_from_slice.new.self
    c.in_ok-parts-in-Matrix.parts c.in_ok-first-in-Matrix.first first
    (c.in_ok-extend_from_slice-in-Matrix.ensures.items ∙ ap (λ l. l ++ c.deref-in-Matrix.result.now) c.new-indices.ensures.items ∙ c.deref-in-Matrix.ensures.value)
    (λ numbers. c.in_ok-parts-in-Matrix.ensures.worths new numbers ∙ ap (λ os. worth new numbers c.in_ok-first-in-Matrix.first ∷ os) (worths_kept old new numbers later first.grows has))
    (c.in_ok-parts-in-Matrix.ensures.terms (length new) first.known (have_kept old new later first.grows has))
    (λ numbers. known_parts old numbers part c.args.known.now own inner later c.in-Matrix.is cut)
