use Rattle.ep_size.proofs.Words.{◌≡◌, ◌∷◌, ◌++◌, ◌+◌, ◌∙◌, ℕ, List, None, Some, ap, arith, drop, map, rules, subst, sym, w64, to_z, of_z, option_map, ints, to_z-of_z, drop_all, drop_more, no_runs, fixed_span, filled, matrix, part_at, read_value, grid_of, grids_from, plain_span, measured_of, ReadsGrid, Stated}
use Rattle.ep_size.proofs.ExtentViews.{grid_of-matrix}
use Rattle.ep_size.proofs.PartedSteps.{left_begin, left_done, left_more, left_none, nothing_read, number_read, part_read, stated_nowhere, stated_read}
use Rattle.ep_size.proofs.ListNodes.{if_ok}
use Rattle.ep_size.specs.declared.extents.Extent.{Extent}
use Rattle.ep_size.proofs.parted.+leaving.Goals as goal

pub left_at-returns-in-Some-clause-read : goal.left_at-returns-in-Some-clause-read
left_at-returns-in-Some-clause-read t c =
    let own = c.args.own.now in
    let parts = c.args.parts.now in
    let n : to_z w64 (of_z w64 c.args.stated) ≡ c.args.stated = to_z-of_z w64 c.args.stated (omega (arith, ints)) in
    let some : part_at own (grids_from parts) c.args.stated ≡ Some (grid_of c.in-Some.part.now) =
    sym (ap (option_map (λ p. grid_of p.now)) (sym c.in-Some.is) ∙ c.part_with.ensures ∙ ap (part_at own (grids_from parts)) n) in
    if_ok c.left_of.result _ _ c.left_of.ensures.read (λ o h. stated_read (map measured_of c.args.rest.now) c.args.stated own parts c.in-Some.part.now o some h)

pub left_at-returns-in-None-clause-read : goal.left_at-returns-in-None-clause-read
left_at-returns-in-None-clause-read t c =
    let own = c.args.own.now in
    let parts = c.args.parts.now in
    let n : to_z w64 (of_z w64 c.args.stated) ≡ c.args.stated = to_z-of_z w64 c.args.stated (omega (arith, ints)) in
    stated_nowhere (map measured_of c.args.rest.now) c.args.stated own parts
    (sym (ap (option_map (λ p. grid_of p.now)) (sym c.in-None.is) ∙ c.part_with.ensures ∙ ap (part_at own (grids_from parts)) n))

pub left_in-returns-in-Some-clause-read : goal.left_in-returns-in-Some-clause-read
unfolding measured_of
left_in-returns-in-Some-clause-read t c =
    let n = c.in-Some.stated in
    let word : to_z w64 (of_z w64 n) ≡ n = to_z-of_z w64 n (search rules) in
    let is = c.in-Stated.is ∙ ap Stated (c.in-Some.is ∙ ap Some (sym word)) in
    if_ok c.left_at.result _ _ c.left_at.ensures.read
    (λ o h. subst (λ i. ReadsGrid (measured_of i ∷ map measured_of c.args.rest.now) (matrix c.args.own.now (grids_from c.args.parts.now)) o) (sym is) h)

pub left_in-returns-in-Every-clause-read : goal.left_in-returns-in-Every-clause-read
unfolding measured_of
left_in-returns-in-Every-clause-read t c =
    if_ok c.left_of_each.result _ _ c.left_of_each.ensures.read
    (λ o h. subst (λ i. ReadsGrid (measured_of i ∷ map measured_of c.args.rest.now) (matrix c.args.own.now (grids_from c.args.parts.now)) o) (sym c.in-Every.is) h)

pub left_of-returns-in-Cells-clause-read : goal.left_of-returns-in-Cells-clause-read
unfolding grid_of
left_of-returns-in-Cells-clause-read t c =
    if_ok c.cells_part.result _ _ c.cells_part.ensures.read
    (λ o h. subst (λ y. ReadsGrid (map measured_of c.args.indices.now) (grid_of y) o) (sym c.in-Cells.is)
    (λ js told. part_read o (read_value js (filled (plain_span c.in-Cells.span) c.in-Cells.domains.now)) (h js told)))

pub left_of-returns-in-Fixed-clause-read : goal.left_of-returns-in-Fixed-clause-read
unfolding grid_of
left_of-returns-in-Fixed-clause-read t c =
    if_ok c.left_of_held.result _ _ c.left_of_held.ensures.read
    (λ o h. subst (λ is. ReadsGrid (map measured_of is) (grid_of c.args.known.now) o) (sym c.in-Some.ensures.cases.0)
    (subst (λ y. ReadsGrid (measured_of c.in-Some.index.now ∷ map measured_of c.in-Some.rest.now) (grid_of y) o) (sym c.in-Fixed.is) h))

pub left_of-returns-in-Matrix-clause-read : goal.left_of-returns-in-Matrix-clause-read
left_of-returns-in-Matrix-clause-read t c =
    let own = c.in-Matrix.own in
    let parts = c.in-Matrix.parts in
    let grid =
    ap (λ l. matrix l (grids_from c.deref-in-Matrix.result.now)) c.deref.ensures.value ∙ ap (λ l. matrix own.items (grids_from l)) c.deref-in-Matrix.ensures.value
    ∙ sym (grid_of-matrix own parts) ∙ ap grid_of (sym c.in-Matrix.is) in
    if_ok c.left_in.result _ _ c.left_in.ensures.read
    (λ o h. subst (λ is. ReadsGrid (map measured_of is) (grid_of c.args.known.now) o) (sym c.in-Some.ensures.cases.0)
    (subst (λ g. ReadsGrid (measured_of c.in-Some.index.now ∷ map measured_of c.in-Some.rest.now) g o) grid h))

pub left_of-returns-in-NoParts-clause-read : goal.left_of-returns-in-NoParts-clause-read
unfolding grid_of
left_of-returns-in-NoParts-clause-read t c =
    subst (λ is. ReadsGrid (map measured_of is) (grid_of c.args.known.now) c.left_of_none.result) (sym c.in-Some.ensures.cases.0)
    (subst (λ y. ReadsGrid (measured_of c.in-Some.index.now ∷ map measured_of c.in-Some.rest.now) (grid_of y) c.left_of_none.result) (sym c.in-NoParts.is) (c.left_of_none.ensures (map measured_of c.in-Some.rest.now)))

pub left_of-returns-in-Number-clause-read : goal.left_of-returns-in-Number-clause-read
unfolding grid_of
left_of-returns-in-Number-clause-read t c =
    subst (λ is. ReadsGrid (map measured_of is) (grid_of c.args.known.now) None) (sym c.in-Some.ensures.cases.0)
    (subst (λ y. ReadsGrid (measured_of c.in-Some.index.now ∷ map measured_of c.in-Some.rest.now) (grid_of y) None) (sym c.in-Number.is)
    (number_read (measured_of c.in-Some.index.now) (map measured_of c.in-Some.rest.now) (plain_span c.in-Number.field-0)))

pub left_of-returns-in-Nothing-clause-read : goal.left_of-returns-in-Nothing-clause-read
unfolding grid_of
left_of-returns-in-Nothing-clause-read t c =
    subst (λ is. ReadsGrid (map measured_of is) (grid_of c.args.known.now) None) (sym c.in-Some.ensures.cases.0)
    (subst (λ y. ReadsGrid (measured_of c.in-Some.index.now ∷ map measured_of c.in-Some.rest.now) (grid_of y) None) (sym c.in-Nothing.is)
    (number_read (measured_of c.in-Some.index.now) (map measured_of c.in-Some.rest.now) (fixed_span None)))

pub left_of-returns-in_ok-copy-in-None-clause-read : goal.left_of-returns-in_ok-copy-in-None-clause-read
left_of-returns-in_ok-copy-in-None-clause-read t c =
    subst (λ is. ReadsGrid (map measured_of is) (grid_of c.args.known.now) (Some c.in_ok-copy-in-None.copy)) (sym (no_runs c.args.indices.now c.in-None.ensures.cases))
    (nothing_read (grid_of c.args.known.now) c.in_ok-copy-in-None.copy c.in_ok-copy-in-None.ensures.grid)

pub left_of_each-loop-part-init : goal.left_of_each-loop-part-init
left_of_each-loop-part-init t c = left_begin (map measured_of c.args.rest.now) c.args.parts.now c.new-lefts.result.items c.new-lefts.ensures.items

pub left_of_each-returns-in-None-clause-read : goal.left_of_each-returns-in-None-clause-read
left_of_each-returns-in-None-clause-read t c =
    let all : List Extent = c.args.parts.now in
    let k : ℕ = c.loop-part.part-index in
    let part : Extent = c.part-item.result in
    let cut : drop k all ≡ part ∷ drop (k + 1) all = drop_more all k part c.loop-part-test.true ∙ ap (λ r. r ∷ drop (k + 1) all) (sym c.part-item.is) in
    left_none (map measured_of c.args.rest.now) c.args.own.now all (drop k all) (drop (k + 1) all) c.loop-part.lefts.items part c.in_ok-left.left c.loop-part.invariant cut c.in-None.is
    c.in_ok-left.ensures.read

pub left_of_each-loop-part-preserved : goal.left_of_each-loop-part-preserved
left_of_each-loop-part-preserved t c =
    let all : List Extent = c.args.parts.now in
    let k : ℕ = c.loop-part.part-index in
    let part : Extent = c.part-item.result in
    let cut : drop k all ≡ part ∷ drop (k + 1) all = drop_more all k part c.loop-part-test.true ∙ ap (λ r. r ∷ drop (k + 1) all) (sym c.part-item.is) in
    left_more (map measured_of c.args.rest.now) all (drop k all) (drop (k + 1) all) c.loop-part.lefts.items c.push.new.self.items part c.in-Some.known c.in_ok-left.left c.loop-part.invariant cut
    c.in_ok-push-in-Some.ensures.items c.in-Some.is c.in_ok-left.ensures.read

pub left_of_each-returns-clause-read : goal.left_of_each-returns-clause-read
left_of_each-returns-clause-read t c =
    let all : List Extent = c.args.parts.now in
    left_done (map measured_of c.args.rest.now) c.args.own.now all (drop c.loop-part.part-index all) c.extend_from_slice.new.self c.loop-part.lefts c.loop-part.invariant
    (drop_all c.loop-part.part-index all c.loop-part-test.false) (c.in_ok-extend_from_slice.ensures.items ∙ ap (λ l. l ++ c.args.own.now) c.new-indices.ensures.items)

pub left_of_held-returns-in-Matrix-clause-read : goal.left_of_held-returns-in-Matrix-clause-read
left_of_held-returns-in-Matrix-clause-read t c =
    let own = c.in-Matrix.own in
    let parts = c.in-Matrix.parts in
    let grid =
    ap (λ l. matrix l (grids_from c.deref-in-Matrix.result.now)) c.deref.ensures.value ∙ ap (λ l. matrix own.items (grids_from l)) c.deref-in-Matrix.ensures.value
    ∙ sym (grid_of-matrix own parts) ∙ ap grid_of (sym c.in-Matrix.is) ∙ c.in_ok-known.ensures.grid in
    if_ok c.left_in.result _ _ c.left_in.ensures.read (λ o h. subst (λ g. ReadsGrid (measured_of c.args.index ∷ map measured_of c.args.rest.now) g o) grid h)
