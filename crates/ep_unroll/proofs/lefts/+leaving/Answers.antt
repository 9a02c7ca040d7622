use Rattle.ep_unroll.proofs.Words.{◌≡◌, ◌∷◌, ◌++◌, ◌+◌, ◌∙◌, ℕ, List, None, Some, ap, arith, drop, refl, subst, sym, w64, to_z, of_z, option_map, ints, to_z-of_z, drop_all, drop_more, no_runs, index_in, indices_in, read_value, IsWorth, block_under, IsLeft, AreTerms, worth, HaveTerms, part_with, parts_worth, cells_value, Unrolled, Cells, Fixed}
use Rattle.ep_unroll.proofs.EntrySteps.{part_terms}
use Rattle.ep_unroll.proofs.FormValues.{if_ok}
use Rattle.ep_unroll.proofs.GrownParts.{matrix_terms, matrix_worth}
use Rattle.ep_unroll.proofs.LeftSteps.{left_begin, left_done, left_more, left_nowhere, left_part, left_terms, nothing_of_number, nothing_seen, number_left, some_worth}
use Rattle.ep_unroll.proofs.PartSteps.{inner_left, nothing_left}
use Rattle.ep_unroll.proofs.lefts.+leaving.Goals as goal

pub left_at-returns-in-Some-clause-worth : goal.left_at-returns-in-Some-clause-worth
unfolding index_in
left_at-returns-in-Some-clause-worth t c =
    let own = c.args.own.now in
    let parts = c.args.parts.now in
    let index : to_z w64 (of_z w64 c.args.index) ≡ c.args.index = to_z-of_z w64 c.args.index (omega (arith, ints)) in
    let some : part_with own parts c.args.index ≡ Some c.in-Some.part.now = sym (ap (option_map (λ p. p.now)) (sym c.in-Some.is) ∙ c.part_with.ensures ∙ ap (part_with own parts) index) in
    if_ok c.left_of.result _ _ (λ x h. left_part own parts c.args.index c.in-Some.part.now x (indices_in c.args.rest.now) some h) c.left_of.ensures.worth

pub left_at-returns-in-Some-clause-terms : goal.left_at-returns-in-Some-clause-terms
left_at-returns-in-Some-clause-terms t c =
    let own = c.args.own.now in
    let parts = c.args.parts.now in
    let index : to_z w64 (of_z w64 c.args.index) ≡ c.args.index = to_z-of_z w64 c.args.index (omega (arith, ints)) in
    let some : part_with own parts c.args.index ≡ Some c.in-Some.part.now = sym (ap (option_map (λ p. p.now)) (sym c.in-Some.is) ∙ c.part_with.ensures ∙ ap (part_with own parts) index) in
    if_ok c.left_of.result _ _ (λ x h count known. h count (part_terms count own parts c.args.index c.in-Some.part.now known some)) c.left_of.ensures.terms

pub left_at-returns-in-None-clause-worth : goal.left_at-returns-in-None-clause-worth
unfolding index_in worth IsWorth
left_at-returns-in-None-clause-worth t c =
    let own = c.args.own.now in
    let parts = c.args.parts.now in
    let index : to_z w64 (of_z w64 c.args.index) ≡ c.args.index = to_z-of_z w64 c.args.index (omega (arith, ints)) in
    left_nowhere own parts c.args.index (indices_in c.args.rest.now) (λ nodes numbers. worth nodes numbers (Fixed None))
    (sym (ap (option_map (λ p. p.now)) (sym c.in-None.is) ∙ c.part_with.ensures ∙ ap (part_with own parts) index)) (λ nodes numbers. refl)

pub left_at-returns-in-None-clause-terms : goal.left_at-returns-in-None-clause-terms
unfolding AreTerms
left_at-returns-in-None-clause-terms t c count known = tt

pub left_in-returns-in-None-clause-worth : goal.left_in-returns-in-None-clause-worth
unfolding index_in
left_in-returns-in-None-clause-worth t c =
    if_ok c.left_of_each.result _ _
    (λ x h. subst (λ i. IsLeft (λ nodes numbers. parts_worth c.args.own.now nodes numbers c.args.parts.now) (index_in i ∷ indices_in c.args.rest.now) x) (sym c.in-None.is) h) c.left_of_each.ensures.worth

pub left_of-returns-in-Number-clause-worth : goal.left_of-returns-in-Number-clause-worth
left_of-returns-in-Number-clause-worth t c =
    subst (λ is. IsLeft (λ nodes numbers. worth nodes numbers c.args.known.now) (indices_in is) (Fixed None)) (sym c.in-Some.ensures.cases.0)
    (number_left c.args.known.now c.in-Number.field-0 (index_in c.in-Some.index.now) (indices_in c.in-Some.rest.now) c.in-Number.is)

pub left_of-returns-in-Number-clause-terms : goal.left_of-returns-in-Number-clause-terms
unfolding AreTerms
left_of-returns-in-Number-clause-terms t c count known = tt

pub left_of-returns-in-Cells-clause-worth : goal.left_of-returns-in-Cells-clause-worth
unfolding worth
left_of-returns-in-Cells-clause-worth t c =
    if_ok c.left_of_cells.result _ _
    (λ x h. subst (λ is. IsLeft (λ nodes numbers. worth nodes numbers c.args.known.now) (indices_in is) x) (sym c.in-Some.ensures.cases.0)
    (subst (λ y. IsLeft (λ nodes numbers. worth nodes numbers y) (index_in c.in-Some.index.now ∷ indices_in c.in-Some.rest.now) x) (sym c.in-Cells.is) h)) c.left_of_cells.ensures.worth

pub left_of_cells-returns-in-Some-part-clause-worth : goal.left_of_cells-returns-in-Some-part-clause-worth
unfolding index_in worth
left_of_cells-returns-in-Some-part-clause-worth t c =
    let b = c.args.block in
    let i = c.in-Some.stated in
    let rest = indices_in c.args.rest.now in
    let index : to_z w64 (of_z w64 i) ≡ i = to_z-of_z w64 i (omega (arith, ints)) in
    let some = ap (option_map (λ part. (part.first, part.domains.now))) (sym c.in-Some-part.is) ∙ c.in_ok-part-in-Some.ensures ∙ ap (block_under b.first b.domains.now) index in
    if_ok c.left_of.result _ _
    (λ x h. subst (λ j. IsLeft (λ nodes numbers. cells_value numbers b.domains.now b.first) (index_in j ∷ rest) x) (sym c.in-Some.is)
    (λ nodes numbers v e. inner_left nodes numbers b.first b.domains.now i v rest x c.in-Some-part.inner.first c.in-Some-part.inner.domains.now e some (h nodes numbers))) c.left_of.ensures.worth

pub left_of_cells-returns-in-Some-part-clause-terms : goal.left_of_cells-returns-in-Some-part-clause-terms
unfolding AreTerms
left_of_cells-returns-in-Some-part-clause-terms t c = if_ok c.left_of.result _ _ (λ x h count. h count tt) c.left_of.ensures.terms

pub left_of_cells-returns-in-Some-clause-worth : goal.left_of_cells-returns-in-Some-clause-worth
unfolding index_in
left_of_cells-returns-in-Some-clause-worth t c =
    let b = c.args.block in
    let i = c.in-Some.stated in
    let rest = indices_in c.args.rest.now in
    let index : to_z w64 (of_z w64 i) ≡ i = to_z-of_z w64 i (omega (arith, ints)) in
    subst (λ j. IsLeft (λ nodes numbers. cells_value numbers b.domains.now b.first) (index_in j ∷ rest) (Fixed None)) (sym c.in-Some.is)
    (λ nodes numbers v e. nothing_left nodes numbers b.first b.domains.now i v rest (Fixed None) e
    (ap (option_map (λ part. (part.first, part.domains.now))) (sym c.in-None-part.is) ∙ c.in_ok-part-in-Some.ensures ∙ ap (block_under b.first b.domains.now) index) refl)

pub left_of_cells-returns-in-Some-clause-terms : goal.left_of_cells-returns-in-Some-clause-terms
unfolding AreTerms
left_of_cells-returns-in-Some-clause-terms t c count = tt

pub left_of_cells-returns-then-leaves_all-clause-worth : goal.left_of_cells-returns-then-leaves_all-clause-worth
unfolding index_in IsWorth
left_of_cells-returns-then-leaves_all-clause-worth t c =
    let b = c.args.block in
    subst (λ j. IsLeft (λ nodes numbers. cells_value numbers b.domains.now b.first) (index_in j ∷ indices_in c.args.rest.now) (Cells b.first b.domains)) (sym c.in-None.is)
    (λ nodes numbers v e. (v, c.leaves_all.ensures c.if-leaves_all.true numbers v e, e))

pub left_of_cells-returns-then-leaves_all-clause-terms : goal.left_of_cells-returns-then-leaves_all-clause-terms
unfolding AreTerms
left_of_cells-returns-then-leaves_all-clause-terms t c count = tt

pub left_of_cells-returns-in-Matrix-clause-worth : goal.left_of_cells-returns-in-Matrix-clause-worth
unfolding index_in
left_of_cells-returns-in-Matrix-clause-worth t c =
    let b = c.args.block in
    let own = c.in-Matrix.indices in
    let parts = c.in-Matrix.parts in
    if_ok c.left_of_each.result _ _
    (λ x h. subst (λ j. IsLeft (λ nodes numbers. cells_value numbers b.domains.now b.first) (index_in j ∷ indices_in c.args.rest.now) x) (sym c.in-None.is)
    (λ nodes numbers v e. h nodes numbers v
    (ap (λ l. parts_worth l nodes numbers c.deref-in-Matrix.result.now) c.deref.ensures.value ∙ ap (parts_worth own.items nodes numbers) c.deref-in-Matrix.ensures.value
    ∙ sym (ap (worth nodes numbers) c.in-Matrix.is ∙ matrix_worth nodes numbers own parts) ∙ c.in_ok-whole-in-Some-split.ensures.worth nodes numbers
    ∙ ap (λ ds. cells_value numbers ds b.first) (sym c.in-Some-split.ensures.cases.0) ∙ e))) c.left_of_each.ensures.worth

pub left_of_cells-returns-in-Matrix-clause-terms : goal.left_of_cells-returns-in-Matrix-clause-terms
left_of_cells-returns-in-Matrix-clause-terms t c =
    if_ok c.left_of_each.result _ _
    (λ x h count. h count
    (subst (HaveTerms count) (sym c.deref-in-Matrix.ensures.value) (matrix_terms count c.in-Matrix.indices c.in-Matrix.parts (subst (AreTerms count) c.in-Matrix.is (c.in_ok-whole-in-Some-split.ensures.terms count)))))
    c.left_of_each.ensures.terms

pub left_of_cells-returns-clause-worth : goal.left_of_cells-returns-clause-worth
unfolding index_in IsWorth
left_of_cells-returns-clause-worth t c =
    let b = c.args.block in
    subst (λ j. IsLeft (λ nodes numbers. cells_value numbers b.domains.now b.first) (index_in j ∷ indices_in c.args.rest.now) (Fixed None)) (sym c.in-None.is)
    (λ nodes numbers v e. nothing_of_number nodes numbers b.domains.now b.first v (indices_in c.args.rest.now) None (no_runs b.domains.now c.in-None-split.ensures.cases) e refl)

pub left_of_cells-returns-clause-terms : goal.left_of_cells-returns-clause-terms
unfolding AreTerms
left_of_cells-returns-clause-terms t c count = tt

pub left_of-returns-in-Fixed-clause-worth : goal.left_of-returns-in-Fixed-clause-worth
unfolding worth
left_of-returns-in-Fixed-clause-worth t c =
    if_ok c.left_of_seen.result _ _
    (λ x h. subst (λ is. IsLeft (λ nodes numbers. worth nodes numbers c.args.known.now) (indices_in is) x) (sym c.in-Some.ensures.cases.0)
    (subst (λ y. IsLeft (λ nodes numbers. worth nodes numbers y) (index_in c.in-Some.index.now ∷ indices_in c.in-Some.rest.now) x) (sym c.in-Fixed.is) h)) c.left_of_seen.ensures.worth

pub left_of-returns-in-Matrix-clause-worth : goal.left_of-returns-in-Matrix-clause-worth
left_of-returns-in-Matrix-clause-worth t c =
    let own = c.in-Matrix.own in
    let parts = c.in-Matrix.parts in
    if_ok c.left_in.result _ _
    (λ x h. subst (λ is. IsLeft (λ nodes numbers. worth nodes numbers c.args.known.now) (indices_in is) x) (sym c.in-Some.ensures.cases.0)
    (λ nodes numbers v e. h nodes numbers v
    (ap (λ l. parts_worth l nodes numbers c.deref-in-Matrix.result.now) c.deref.ensures.value ∙ ap (parts_worth own.items nodes numbers) c.deref-in-Matrix.ensures.value
    ∙ sym (ap (worth nodes numbers) c.in-Matrix.is ∙ matrix_worth nodes numbers own parts) ∙ e))) c.left_in.ensures.worth

pub left_of-returns-in-Matrix-clause-terms : goal.left_of-returns-in-Matrix-clause-terms
left_of-returns-in-Matrix-clause-terms t c =
    if_ok c.left_in.result _ _
    (λ x h count known. h count (subst (HaveTerms count) (sym c.deref-in-Matrix.ensures.value) (matrix_terms count c.in-Matrix.own c.in-Matrix.parts (subst (AreTerms count) c.in-Matrix.is known))))
    c.left_in.ensures.terms

pub left_of-returns-in-None-clause-worth : goal.left_of-returns-in-None-clause-worth
unfolding read_value
left_of-returns-in-None-clause-worth t c =
    if_ok c.copied.result _ _
    (λ x h nodes numbers v e. subst (IsWorth nodes numbers x) (ap (λ is. read_value (indices_in is) v) (sym (no_runs c.args.indices.now c.in-None.ensures.cases)))
    (some_worth nodes numbers x v (h nodes numbers ∙ e))) c.copied.ensures.worth

pub left_of_each-loop-part-init : goal.left_of_each-loop-part-init
left_of_each-loop-part-init t c = left_begin (indices_in c.args.rest.now) c.args.parts.now c.args.parts.now c.new-lefts.result.items refl c.new-lefts.ensures.items

pub left_of_each-loop-part-preserved : goal.left_of_each-loop-part-preserved
left_of_each-loop-part-preserved t c =
    let all : List Unrolled = c.args.parts.now in
    let k : ℕ = c.loop-part.part-index in
    let part : Unrolled = c.part-item.result in
    let cut : drop k all ≡ part ∷ drop (k + 1) all = drop_more all k part c.loop-part-test.true ∙ ap (λ r. r ∷ drop (k + 1) all) (sym c.part-item.is) in
    left_more (indices_in c.args.rest.now) all (drop k all) (drop (k + 1) all) c.loop-part.lefts.items c.push.new.self.items part c.in_ok-left.left c.loop-part.invariant cut c.in_ok-push.ensures.items
    c.in_ok-left.ensures.worth c.in_ok-left.ensures.terms

pub left_of_each-returns-clause-worth : goal.left_of_each-returns-clause-worth
left_of_each-returns-clause-worth t c =
    let all : List Unrolled = c.args.parts.now in
    left_done (indices_in c.args.rest.now) c.args.own.now all (drop c.loop-part.part-index all) c.extend_from_slice.new.self c.loop-part.lefts c.loop-part.invariant
    (drop_all c.loop-part.part-index all c.loop-part-test.false) (c.in_ok-extend_from_slice.ensures.items ∙ ap (λ l. l ++ c.args.own.now) c.new-indices.ensures.items)

pub left_of_each-returns-clause-terms : goal.left_of_each-returns-clause-terms
left_of_each-returns-clause-terms t c =
    let all : List Unrolled = c.args.parts.now in
    left_terms (indices_in c.args.rest.now) all (drop c.loop-part.part-index all) c.extend_from_slice.new.self c.loop-part.lefts c.loop-part.invariant

pub left_of_seen-returns-in-Matrix-clause-worth : goal.left_of_seen-returns-in-Matrix-clause-worth
left_of_seen-returns-in-Matrix-clause-worth t c =
    let own = c.in-Matrix.own in
    let parts = c.in-Matrix.parts in
    if_ok c.left_in.result _ _
    (λ x h nodes numbers v e. h nodes numbers v
    (ap (λ l. parts_worth l nodes numbers c.deref-in-Matrix.result.now) c.deref.ensures.value ∙ ap (parts_worth own.items nodes numbers) c.deref-in-Matrix.ensures.value
    ∙ sym (ap (worth nodes numbers) c.in-Matrix.is ∙ matrix_worth nodes numbers own parts) ∙ c.in_ok-known.ensures.worth nodes numbers ∙ e)) c.left_in.ensures.worth

pub left_of_seen-returns-in-Matrix-clause-terms : goal.left_of_seen-returns-in-Matrix-clause-terms
left_of_seen-returns-in-Matrix-clause-terms t c =
    if_ok c.left_in.result _ _
    (λ x h count. h count
    (subst (HaveTerms count) (sym c.deref-in-Matrix.ensures.value) (matrix_terms count c.in-Matrix.own c.in-Matrix.parts (subst (AreTerms count) c.in-Matrix.is (c.in_ok-known.ensures.terms count)))))
    c.left_in.ensures.terms

pub left_of_seen-returns-then-is_none-clause-worth : goal.left_of_seen-returns-then-is_none-clause-worth
left_of_seen-returns-then-is_none-clause-worth t c nodes numbers v e = nothing_seen c.args.seen.now v c.if-is_none.ensures e

pub left_of_seen-returns-then-is_none-clause-terms : goal.left_of_seen-returns-then-is_none-clause-terms
unfolding AreTerms
left_of_seen-returns-then-is_none-clause-terms t c count = tt
