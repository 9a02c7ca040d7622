use Rattle.ep_unroll.proofs.Words.{◌≡◌, ◌∷◌, ◌+◌, ℕ, ℤ, pos, List, None, drop, get_or, rules, ap, sym, ◌∙◌, arith, w64, to_z, of_z, int_eq, ints, to_z-of_z, drop_all, drop_more, part_with, Unrolled, Fixed}
use Rattle.ep_unroll.proofs.EntrySteps.{with_next, with_short, with_unlisted}
use Rattle.ep_unroll.proofs.entries.part_with.Goals as goal

pub loop-place-preserved : goal.loop-place-preserved
loop-place-preserved c =
    let own : List ℤ = c.args.own.now in
    let parts : List Unrolled = c.args.parts.now in
    let k : ℕ = c.loop-place.place in
    let x : ℤ = get_or own k (pos 0) in
    let n : ℤ = to_z w64 (of_z w64 c.args.index) in
    let word : to_z w64 (of_z w64 x) ≡ x = to_z-of_z w64 x (search rules) in
    c.loop-place.invariant
    ∙ with_next (drop k own) (drop (k + 1) own) (drop k parts) (drop (k + 1) parts) x n (get_or parts k (Fixed None)) _ (drop_more own k (pos 0) c.loop-place-test.true)
    (drop_more parts k (Fixed None) c.if-place-count.false) (sym (c.is_index.ensures ∙ ap (int_eq n) word) ∙ c.if-is_index.false)

pub returns-then-is_index : goal.returns-then-is_index
returns-then-is_index c =
    let own : List ℤ = c.args.own.now in
    let parts : List Unrolled = c.args.parts.now in
    let k : ℕ = c.loop-place.place in
    let x : ℤ = get_or own k (pos 0) in
    let n : ℤ = to_z w64 (of_z w64 c.args.index) in
    let part : Unrolled = c.index-parts-place.result in
    let word : to_z w64 (of_z w64 x) ≡ x = to_z-of_z w64 x (search rules) in
    let same = to_z-of_z w64 c.args.index (omega (arith, ints)) in
    sym (ap (part_with own parts) (sym same) ∙ c.loop-place.invariant
    ∙ with_next (drop k own) (drop (k + 1) own) (drop k parts) (drop (k + 1) parts) x n part _ (drop_more own k (pos 0) c.loop-place-test.true)
    (drop_more parts k part c.if-place-count.false ∙ ap (λ y. y ∷ drop (k + 1) parts) (sym c.index-parts-place.is))
    (sym (c.is_index.ensures ∙ ap (int_eq n) word) ∙ c.if-is_index.true))

pub returns-then-place-count : goal.returns-then-place-count
returns-then-place-count c =
    let own : List ℤ = c.args.own.now in
    let parts : List Unrolled = c.args.parts.now in
    let k : ℕ = c.loop-place.place in
    let same = to_z-of_z w64 c.args.index (omega (arith, ints)) in
    sym (ap (part_with own parts) (sym same) ∙ c.loop-place.invariant
    ∙ with_short (drop k own) (drop (k + 1) own) (drop k parts) (get_or own k (pos 0)) _ (drop_more own k (pos 0) c.loop-place-test.true) (drop_all k parts c.if-place-count.true))

pub returns : goal.returns
returns c =
    let own : List ℤ = c.args.own.now in
    let k : ℕ = c.loop-place.place in
    let same = to_z-of_z w64 c.args.index (omega (arith, ints)) in
    sym (ap (part_with own c.args.parts.now) (sym same) ∙ c.loop-place.invariant ∙ with_unlisted (drop k own) (drop k c.args.parts.now) _ (drop_all k own c.loop-place-test.false))
