use Rattle.ep_eval.proofs.Words.{◌≡◌, ◌+◌, ◌<◌, ◌≤◌, ℕ, ℤ, List, ◌∷◌, pos, true, false, drop, length, get_or, sym, ap, ◌∙◌, w64, to_z, of_z, arith, rules, int_lt, nat_lt, to_z-of_z, at_drop_all, at_drop_more, length-drop, lex_less}
use Rattle.ep_eval.proofs.ListLaws.{lex_less_there, lex_longer, lex_more_there, lex_prefix, lex_step}
use Rattle.ep_eval.proofs.orders.is_less.Goals as goal

-- both lists go on
both_go_on : (xs ys : List ℤ) (i : ℕ) → i < length xs → i < length ys → lex_less xs ys ≡ lex_less (drop i xs) (drop i ys)
    → lex_less xs ys ≡ lex_less (get_or xs i (pos 0) ∷ drop (i + 1) xs) (get_or ys i (pos 0) ∷ drop (i + 1) ys)
both_go_on xs ys i h k so_far =
    so_far ∙ at_drop_more (λ l. lex_less l (drop i ys)) xs i (pos 0) h ∙ at_drop_more (lex_less (get_or xs i (pos 0) ∷ drop (i + 1) xs)) ys i (pos 0) k

pub loop-i-preserved : goal.loop-i-preserved
loop-i-preserved c =
    let xs : List ℤ = c.args.left.now in
    let ys : List ℤ = c.args.right.now in
    let i : ℕ = c.loop-i.i in
    let x : ℤ = get_or xs i (pos 0) in
    let y : ℤ = get_or ys i (pos 0) in
    let word : to_z w64 (of_z w64 x) ≡ x = to_z-of_z w64 x (search rules) in
    let other : to_z w64 (of_z w64 y) ≡ y = to_z-of_z w64 y (search rules) in
    record {
      within = omega (arith, c.if-i-right.false);
      same =
          both_go_on xs ys i c.loop-i-test.true c.if-i-right.false c.loop-i.invariant.same
          ∙ lex_step x y (drop (i + 1) xs) (drop (i + 1) ys)
          (ap (λ m. int_lt m y) (sym word) ∙ ap (int_lt (to_z w64 (of_z w64 x))) (sym other) ∙ c.if-x-right.false)
          (ap (λ m. int_lt m x) (sym other) ∙ ap (int_lt (to_z w64 (of_z w64 y))) (sym word) ∙ c.if-x-right-2.false);
    }

pub returns-then-x-right : goal.returns-then-x-right
returns-then-x-right c =
    let xs : List ℤ = c.args.left.now in
    let ys : List ℤ = c.args.right.now in
    let i : ℕ = c.loop-i.i in
    let x : ℤ = get_or xs i (pos 0) in
    let y : ℤ = get_or ys i (pos 0) in
    let word : to_z w64 (of_z w64 x) ≡ x = to_z-of_z w64 x (search rules) in
    let other : to_z w64 (of_z w64 y) ≡ y = to_z-of_z w64 y (search rules) in
    sym (both_go_on xs ys i c.loop-i-test.true c.if-i-right.false c.loop-i.invariant.same
    ∙ lex_less_there x y (drop (i + 1) xs) (drop (i + 1) ys)
    (ap (λ m. int_lt m y) (sym word) ∙ ap (int_lt (to_z w64 (of_z w64 x))) (sym other) ∙ c.if-x-right.true))

pub returns-then-x-right-2 : goal.returns-then-x-right-2
returns-then-x-right-2 c =
    let xs : List ℤ = c.args.left.now in
    let ys : List ℤ = c.args.right.now in
    let i : ℕ = c.loop-i.i in
    let x : ℤ = get_or xs i (pos 0) in
    let y : ℤ = get_or ys i (pos 0) in
    let word : to_z w64 (of_z w64 x) ≡ x = to_z-of_z w64 x (search rules) in
    let other : to_z w64 (of_z w64 y) ≡ y = to_z-of_z w64 y (search rules) in
    sym (both_go_on xs ys i c.loop-i-test.true c.if-i-right.false c.loop-i.invariant.same
    ∙ lex_more_there x y (drop (i + 1) xs) (drop (i + 1) ys)
    (ap (λ m. int_lt m y) (sym word) ∙ ap (int_lt (to_z w64 (of_z w64 x))) (sym other) ∙ c.if-x-right.false)
    (ap (λ m. int_lt m x) (sym other) ∙ ap (int_lt (to_z w64 (of_z w64 y))) (sym word) ∙ c.if-x-right-2.true))

pub returns-then-i-right : goal.returns-then-i-right
returns-then-i-right c =
    let xs : List ℤ = c.args.left.now in
    let ys : List ℤ = c.args.right.now in
    let i : ℕ = c.loop-i.i in
    sym (c.loop-i.invariant.same ∙ at_drop_more (λ l. lex_less l (drop i ys)) xs i (pos 0) c.loop-i-test.true
    ∙ at_drop_all (lex_less (get_or xs i (pos 0) ∷ drop (i + 1) xs)) ys i c.if-i-right.true ∙ lex_longer (get_or xs i (pos 0)) (drop (i + 1) xs))

shorter : (m n : ℕ) → m < n → nat_lt m n ≡ true
shorter m n h = grind arith

no_shorter : (m n : ℕ) → n ≤ m → nat_lt m n ≡ false
no_shorter m n h = grind arith

pub returns : goal.returns
returns c =
    let xs : List ℤ = c.args.left.now in
    let ys : List ℤ = c.args.right.now in
    let i : ℕ = c.loop-i.i in
    let l = length-drop i ys in
    lex_prefix (drop i ys) (nat_lt (length xs) (length ys))
    (λ h. shorter (length xs) (length ys) (omega (arith, h, l, c.loop-i.auto.i-end, c.loop-i-test.false)))
    (λ h. no_shorter (length xs) (length ys) (omega (arith, h, l, c.loop-i.auto.i-end, c.loop-i-test.false)))
    ∙ sym (c.loop-i.invariant.same ∙ at_drop_all (λ a. lex_less a (drop i ys)) xs i c.loop-i-test.false)
