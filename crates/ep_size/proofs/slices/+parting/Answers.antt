use Rattle.ep_size.proofs.Words.{ap, arith, length, refl, subst, sym, w64, ◌∙◌, ◌∷◌, ◌++◌, [], ◌≡◌, to_z, of_z, ints, to_z-of_z, IsWalkBehind, before_rest, numbers_left, grid_of, measured_of, map}
use Rattle.ep_size.proofs.ListNodes.{if_ok}
use Rattle.ep_size.proofs.SliceParts.{each_all, each_begins, each_more, each_none, every_reads, kept_part, none_reads, one_reads}
use Rattle.ep_size.proofs.slices.+parting.Goals as goal

pub cells_part-returns-then-keeps_each-clause-read : goal.cells_part-returns-then-keeps_each-clause-read
unfolding grid_of
cells_part-returns-then-keeps_each-clause-read t c =
    kept_part (map measured_of c.args.indices.now) c.args.span c.args.domains c.args.domains.now refl (c.keeps_each.ensures c.if-keeps_each.true)

pub cells_part-cells_each-requires : goal.cells_part-cells_each-requires
cells_part-cells_each-requires t c = let long = ap length c.in-Some.ensures.cases.0 in (omega (arith, long, c.decreases), tt)

pub cells_part-cells_part-requires : goal.cells_part-cells_part-requires
cells_part-cells_part-requires t c = let long = ap length c.in-Some.ensures.cases.0 in (omega (arith, long, c.decreases), tt)

pub cells_part-returns-then-keeps_all-clause-read : goal.cells_part-returns-then-keeps_all-clause-read
cells_part-returns-then-keeps_all-clause-read t c =
    if_ok c.cells_each.result _ _ c.cells_each.ensures.read
    (λ o h. every_reads c.args.indices.now c.in-Some.rest.now c.in-Some.index.now c.args.domains.now c.in-Some-split_first.inner.now c.in-Some-split_first.domain.now c.args.span o
    c.in-Some.ensures.cases.0 c.in-Some-split_first.ensures.cases.0 (sym c.keeps_all.ensures ∙ c.if-keeps_all.true) h)

pub cells_part-returns-then-names_one-clause-read : goal.cells_part-returns-then-names_one-clause-read
cells_part-returns-then-names_one-clause-read t c =
    if_ok c.cells_part.result _ _ c.cells_part.ensures.read
    (λ o h. one_reads c.args.indices.now c.in-Some.rest.now c.in-Some.index.now c.args.domains.now c.in-Some-split_first.inner.now c.in-Some-split_first.domain.now c.args.span o
    c.in-Some.ensures.cases.0 c.in-Some-split_first.ensures.cases.0 (sym c.names_one.ensures ∙ c.if-names_one.true) h)

pub cells_part-returns-else-names_one-clause-read : goal.cells_part-returns-else-names_one-clause-read
cells_part-returns-else-names_one-clause-read t c =
    none_reads c.args.indices.now c.in-Some.rest.now c.in-Some.index.now c.args.domains.now c.in-Some-split_first.inner.now c.in-Some-split_first.domain.now c.args.span
    c.in-Some.ensures.cases.0 c.in-Some-split_first.ensures.cases.0 (sym c.keeps_all.ensures ∙ c.if-keeps_all.false) (sym c.names_one.ensures ∙ c.if-names_one.false)

pub cells_each-loop-number-init : goal.cells_each-loop-number-init
cells_each-loop-number-init t c = (
  c.walk_of-walk.ensures.walk,
  each_begins c.args.rest.now c.args.inner.now c.args.domain.now c.args.span c.new-numbers.result.items (numbers_left c.walk_of-walk.result) c.new-parts.result.items
      (c.walk_of-walk.ensures.numbers ∙ c.runs.ensures.numbers) c.new-numbers.ensures.items c.new-parts.ensures.items,
)

pub cells_each-next_number-requires : goal.cells_each-next_number-requires
cells_each-next_number-requires t c = c.loop-number.invariant.0

pub cells_each-cells_part-requires : goal.cells_each-cells_part-requires
cells_each-cells_part-requires t c = (omega (arith, c.decreases), tt)

pub cells_each-loop-number-smaller : goal.cells_each-loop-number-smaller
unfolding before_rest
cells_each-loop-number-smaller t c =
    let cut : numbers_left c.loop-number.walk ≡ c.in-Some.number ∷ numbers_left c.in-Some.behind = c.next_number.ensures.numbers ∙ ap before_rest c.in-Some.is in
    let longer = ap length cut in
    omega (arith, longer)

pub cells_each-loop-number-preserved : goal.cells_each-loop-number-preserved
unfolding before_rest IsWalkBehind
cells_each-loop-number-preserved t c =
    let n = c.in-Some.number in
    let cut : numbers_left c.loop-number.walk ≡ n ∷ numbers_left c.in-Some.behind = c.next_number.ensures.numbers ∙ ap before_rest c.in-Some.is in
    let same : to_z w64 (of_z w64 n) ≡ n = to_z-of_z w64 n (omega (arith, ints)) in (
      subst IsWalkBehind c.in-Some.is c.next_number.ensures.walk,
      each_more c.args.rest.now c.args.inner.now c.args.domain.now c.args.span c.loop-number.numbers.items _ (numbers_left c.loop-number.walk) (numbers_left c.in-Some.behind)
          c.loop-number.parts.items _ n c.in-Some-part.known c.in_ok-part.part c.loop-number.invariant.1 cut c.in_ok-part.ensures.read c.in-Some-part.is c.in_ok-push-in-Some-part.ensures.items
          (c.in_ok-push.ensures.items ∙ ap (λ m. c.loop-number.numbers.items ++ m ∷ []) same),
    )

pub cells_each-returns-in-None-clause-read : goal.cells_each-returns-in-None-clause-read
unfolding before_rest
cells_each-returns-in-None-clause-read t c =
    let n = c.in-Some.number in
    let cut : numbers_left c.loop-number.walk ≡ n ∷ numbers_left c.in-Some.behind = c.next_number.ensures.numbers ∙ ap before_rest c.in-Some.is in
    each_none c.args.rest.now c.args.inner.now c.args.domain.now c.args.span c.loop-number.numbers.items (numbers_left c.loop-number.walk) (numbers_left c.in-Some.behind)
    c.loop-number.parts.items n c.in_ok-part.part c.loop-number.invariant.1 cut c.in_ok-part.ensures.read c.in-None.is

pub cells_each-returns-clause-read : goal.cells_each-returns-clause-read
unfolding before_rest
cells_each-returns-clause-read t c =
    each_all c.args.rest.now c.args.inner.now c.args.domain.now c.args.span (numbers_left c.loop-number.walk) c.loop-number.numbers c.loop-number.parts
    c.loop-number.invariant.1 (c.next_number.ensures.numbers ∙ ap before_rest c.in_default.is)
