use Rattle.ep_size.proofs.Words.{◌≡◌, ◌∷◌, ◌+◌, ℕ, ℤ, pos, List, drop, get_or, rules, ap, sym, ◌∙◌, arith, w64, to_z, of_z, ints, to_z-of_z, drop_all, drop_more, compare_holds, CompareOp, part_at, grids_from}
use Rattle.ep_size.proofs.KnownParts.{known_next, known_short, known_unlisted}
use Rattle.ep_size.specs.declared.extents.Extent.{Extent}
use Rattle.ep_size.specs.declared.extents.Extent.TheVariants.{Nothing}
use Rattle.ep_size.proofs.picked.part_with.Goals as goal

pub loop-place-preserved : goal.loop-place-preserved
loop-place-preserved c =
    let own : List ℤ = c.args.own.now in
    let parts : List Extent = c.args.parts.now in
    let k : ℕ = c.loop-place.place in
    let x : ℤ = get_or own k (pos 0) in
    let n : ℤ = to_z w64 (of_z w64 c.args.index) in
    let word : to_z w64 (of_z w64 x) ≡ x = to_z-of_z w64 x (search rules) in
    c.loop-place.invariant
    ∙ known_next (drop k own) (drop (k + 1) own) (drop k parts) (drop (k + 1) parts) x n (get_or parts k Nothing) _ (drop_more own k (pos 0) c.loop-place-test.true)
    (drop_more parts k Nothing c.if-place-count.false)
    (sym (c.is_same.ensures ∙ ap (compare_holds CompareOp.Equal n) word) ∙ c.if-is_same.false)

pub returns-then-is_same : goal.returns-then-is_same
returns-then-is_same c =
    let own : List ℤ = c.args.own.now in
    let parts : List Extent = c.args.parts.now in
    let k : ℕ = c.loop-place.place in
    let x : ℤ = get_or own k (pos 0) in
    let n : ℤ = to_z w64 (of_z w64 c.args.index) in
    let part : Extent = c.index-parts-place.result in
    let word : to_z w64 (of_z w64 x) ≡ x = to_z-of_z w64 x (search rules) in
    let same = to_z-of_z w64 c.args.index (omega (arith, ints)) in
    sym (ap (part_at own (grids_from parts)) (sym same) ∙ c.loop-place.invariant
    ∙ known_next (drop k own) (drop (k + 1) own) (drop k parts) (drop (k + 1) parts) x n part _ (drop_more own k (pos 0) c.loop-place-test.true)
    (drop_more parts k part c.if-place-count.false ∙ ap (λ y. y ∷ drop (k + 1) parts) (sym c.index-parts-place.is))
    (sym (c.is_same.ensures ∙ ap (compare_holds CompareOp.Equal n) word) ∙ c.if-is_same.true))

pub returns-then-place-count : goal.returns-then-place-count
returns-then-place-count c =
    let own : List ℤ = c.args.own.now in
    let parts : List Extent = c.args.parts.now in
    let k : ℕ = c.loop-place.place in
    let same = to_z-of_z w64 c.args.index (omega (arith, ints)) in
    sym (ap (part_at own (grids_from parts)) (sym same) ∙ c.loop-place.invariant
    ∙ known_short (drop k own) (drop (k + 1) own) (drop k parts) (get_or own k (pos 0)) _ (drop_more own k (pos 0) c.loop-place-test.true)
    (drop_all k parts c.if-place-count.true))

pub returns : goal.returns
returns c =
    let own : List ℤ = c.args.own.now in
    let k : ℕ = c.loop-place.place in
    let same = to_z-of_z w64 c.args.index (omega (arith, ints)) in
    sym (ap (part_at own (grids_from c.args.parts.now)) (sym same) ∙ c.loop-place.invariant
    ∙ known_unlisted (drop k own) (drop k c.args.parts.now) _ (drop_all k own c.loop-place-test.false))
