use Rattle.ep_eval.proofs.Words.{◌≡◌, ◌+◌, ◌<◌, ◌∷◌, [], ℕ, ℤ, List, pos, drop, length, get_or, sym, ap, ◌∙◌, w64, to_z, of_z, arith, rules, int_eq, to_z-of_z, at_drop_all, at_drop_more, same_numbers}
use Rattle.ep_eval.proofs.ListLaws.{same_fails, same_lengths, same_none, same_step}
use Rattle.ep_eval.proofs.counts.are_same.Goals as goal

both_go_on : (xs ys : List ℤ) (i : ℕ) → i < length xs → i < length ys → same_numbers xs ys ≡ same_numbers (drop i xs) (drop i ys)
    → same_numbers xs ys ≡ same_numbers (get_or xs i (pos 0) ∷ drop (i + 1) xs) (get_or ys i (pos 0) ∷ drop (i + 1) ys)
both_go_on xs ys i h k so_far =
    so_far ∙ at_drop_more (λ l. same_numbers l (drop i ys)) xs i (pos 0) h ∙ at_drop_more (same_numbers (get_or xs i (pos 0) ∷ drop (i + 1) xs)) ys i (pos 0) k

pub loop-i-preserved : goal.loop-i-preserved
loop-i-preserved c =
    let xs : List ℤ = c.args.left.now in
    let ys : List ℤ = c.args.right.now in
    let i : ℕ = c.loop-i.i in
    let x : ℤ = get_or xs i (pos 0) in
    let y : ℤ = get_or ys i (pos 0) in
    let word : to_z w64 (of_z w64 x) ≡ x = to_z-of_z w64 x (search rules) in
    let other : to_z w64 (of_z w64 y) ≡ y = to_z-of_z w64 y (search rules) in
    both_go_on xs ys i c.loop-i-test.true (omega (arith, c.loop-i-test.true, c.if-left-right.false)) c.loop-i.invariant
    ∙ same_step x y (drop (i + 1) xs) (drop (i + 1) ys)
    (ap (λ m. int_eq m y) (sym word) ∙ ap (int_eq (to_z w64 (of_z w64 x))) (sym other) ∙ sym c.are_equal.ensures ∙ c.if-not-are_equal.false)

pub returns-then-not-are_equal : goal.returns-then-not-are_equal
returns-then-not-are_equal c =
    let xs : List ℤ = c.args.left.now in
    let ys : List ℤ = c.args.right.now in
    let i : ℕ = c.loop-i.i in
    let x : ℤ = get_or xs i (pos 0) in
    let y : ℤ = get_or ys i (pos 0) in
    let word : to_z w64 (of_z w64 x) ≡ x = to_z-of_z w64 x (search rules) in
    let other : to_z w64 (of_z w64 y) ≡ y = to_z-of_z w64 y (search rules) in
    sym (both_go_on xs ys i c.loop-i-test.true (omega (arith, c.loop-i-test.true, c.if-left-right.false)) c.loop-i.invariant
    ∙ same_fails x y (drop (i + 1) xs) (drop (i + 1) ys)
    (ap (λ m. int_eq m y) (sym word) ∙ ap (int_eq (to_z w64 (of_z w64 x))) (sym other) ∙ sym c.are_equal.ensures ∙ c.if-not-are_equal.true))

pub returns-then-left-right : goal.returns-then-left-right
returns-then-left-right c = sym (same_lengths c.args.left.now c.args.right.now c.if-left-right.true)

pub returns : goal.returns
returns c =
    let xs : List ℤ = c.args.left.now in
    let ys : List ℤ = c.args.right.now in
    let i : ℕ = c.loop-i.i in
    let so_far : same_numbers xs ys ≡ same_numbers (drop i xs) (drop i ys) = c.loop-i.invariant in
    sym (so_far ∙ at_drop_all (λ l. same_numbers l (drop i ys)) xs i c.loop-i-test.false
    ∙ at_drop_all (same_numbers []) ys i (omega (arith, c.loop-i-test.false, c.if-left-right.false)) ∙ same_none)
