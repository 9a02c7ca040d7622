-- Clauses that are left out one by one.
use Rattle.std.proofs.Common.{◌≡◌, ℕ, zero, suc, ◌+◌, ◌<◌, ◌≤◌, ◌==◌, Bool, true, false, not, List, [], ◌∷◌, drop, length, take, get_or, set, refl, sym, ap, ◌∙◌, subst, arith}
use Rattle.std.specs.Prelude.{IsSome, None, Option, Some, filter, if◌then◌else◌, is_some}
use Rattle.std.specs.List.{All, AllPairs, Contains, list_any, remove}
use Rattle.std.proofs.lemmas.Bool.{eqb-true}
use Rattle.std.proofs.lemmas.Bool.Decides.{Decides-eqb}
use Rattle.std.proofs.lemmas.List.{drop-set, drop_all, drop_at, drop_more, get_or_default, length-map, length-set, length-take-le}
use Rattle.std.proofs.lemmas.List.Edits.{length-remove}
use Rattle.std.proofs.lemmas.List.Elements.{All-cons, All-from_get_or, All-head, All-nil, All-tail}
use Rattle.std.proofs.lemmas.List.Folds.{list_any_at}
use Rattle.std.proofs.lemmas.List.Kept.{AllPairs-from_increasing}
use Rattle.ep_restrict.specs.Restricted.{restricted}
use Rattle.ep_tree.specs.Binding.{Instance}
use Rattle.ep_tree.specs.declared.values.Mode.{Mode}
use Rattle.ep_tree.specs.Views.{assigned}
use Rattle.ep_tree.specs.declared.values.Assignment.{Assignment}
use Rattle.ep_explain.proofs.Leaving.{left_filtered, left_settled}
use Rattle.ep_explain.specs.Explained.{HasNoSolution, IsWrittenSolution, all_but}
use Rattle.ep_explain.specs.Narrowing.{IsAllSettled, AreLeft, left_numbers}
use Rattle.ep_explain.specs.declared.left.Left.{Left}

-- ---- numbers that some numbers contain

pub none_among : (ns : List ℕ) (x : ℕ) (r : Bool) → r ≡ list_any (λ y. y == x) ns → r ≡ false → Contains ns x → ⊥
none_among ns x r is failing at =
    let found : list_any (λ y. y == x) ns ≡ true = list_any_at (λ y. y == x) ns at.0 x at.1 ((Decides-eqb (get_or ns at.0 x) x).1 at.2) in
    let bad : false ≡ true = sym failing ∙ is ∙ found in
    absurd cc

-- ---- the clause at a place, by its number

differs : (n k : ℕ) → n < k → (b : Bool) → (k == n) ≡ b → not b ≡ true
differs n k below true is = (let same : k ≡ n = eqb-true k n is in absurd (omega (arith, below, same)))
differs n k below false is = refl

number_at : (xs : List Left) (k : ℕ) (x : Left) (d : ℕ) → k < length xs → get_or (left_numbers xs) k d ≡ (get_or xs k x).clause
number_at [] k x d within = absurd (omega (arith, within))
number_at (y ∷ ys) zero x d within = refl
number_at (y ∷ ys) (suc k) x d within = number_at ys k x d (omega (arith, within))

pairs_tail : (n : ℕ) (ns : List ℕ) → AllPairs (λ a b. a < b) (n ∷ ns) → AllPairs (λ a b. a < b) ns
pairs_tail n ns h i j d below within = h (suc i) (suc j) d (omega (arith, below)) (omega (arith, within))

pairs_head : (n : ℕ) (ns : List ℕ) → AllPairs (λ a b. a < b) (n ∷ ns) → All (λ k. n < k) ns
pairs_head n ns h = All-from_get_or (λ k. n < k) ns 0 (λ i within. h 0 (suc i) 0 (omega arith) (omega (arith, within)))

others_pass : (n : ℕ) (xs : List Left) → All (λ k. n < k) (left_numbers xs) → filter (λ (one : Left). not (one.clause == n)) xs ≡ xs
others_pass n [] h = refl
others_pass n (x ∷ xs) h =
    ap (λ b. if b then x ∷ filter (λ (one : Left). not (one.clause == n)) xs else filter (λ (one : Left). not (one.clause == n)) xs)
    (differs n x.clause (All-head (λ k. n < k) x.clause (left_numbers xs) h) (x.clause == n) refl)
    ∙ ap (λ l. x ∷ l) (others_pass n xs (All-tail (λ k. n < k) x.clause (left_numbers xs) h))

removed_is : (xs : List Left) (k : ℕ) (x : Left) → k < length xs → x ≡ get_or xs k x → AllPairs (λ a b. a < b) (left_numbers xs)
    → filter (λ (one : Left). not (one.clause == x.clause)) xs ≡ remove xs k
removed_is [] k x within is h = absurd (omega (arith, within))
removed_is (y ∷ ys) zero x within is h =
    ap (λ b. if not b then y ∷ filter (λ (one : Left). not (one.clause == x.clause)) ys else filter (λ (one : Left). not (one.clause == x.clause)) ys)
    ((Decides-eqb y.clause x.clause).1 (ap (λ (z : Left). z.clause) (sym is)))
    ∙ others_pass x.clause ys (subst (λ (z : Left). All (λ k. z.clause < k) (left_numbers ys)) (sym is) (pairs_head y.clause (left_numbers ys) h))
removed_is (y ∷ ys) (suc k) x within is h =
    let long : length (left_numbers ys) ≡ length ys = length-map ys (λ (one : Left). one.clause) in
    let here : get_or (left_numbers ys) k 0 ≡ x.clause = number_at ys k x 0 (omega (arith, within)) ∙ ap (λ (z : Left). z.clause) (sym is) in
    let below : y.clause < get_or (left_numbers ys) k 0 = h 0 (suc k) 0 (omega arith) (omega (arith, within, long)) in
    ap (λ b. if b then y ∷ filter (λ (one : Left). not (one.clause == x.clause)) ys else filter (λ (one : Left). not (one.clause == x.clause)) ys)
    (above y.clause x.clause (omega (arith, below, here)) (y.clause == x.clause) refl)
    ∙ ap (λ l. y ∷ l) (removed_is ys k x (omega (arith, within)) is (pairs_tail y.clause (left_numbers ys) h))
  where
    above : (n k : ℕ) → n < k → (b : Bool) → (n == k) ≡ b → not b ≡ true
    above n k lower true same = (let e : n ≡ k = eqb-true n k same in absurd (omega (arith, lower, e)))
    above n k lower false same = refl

-- what is left without the clause at a place, where that has no solution
pub left_removed : (mode : Mode) (i : Instance) (left : List Left) (k : ℕ) (x : Left) (keep : List ℕ) → AreLeft mode i left → k < length left → x ≡ get_or left k x
    → keep ≡ all_but x.clause (left_numbers left) → HasNoSolution mode (restricted i keep) → AreLeft mode i (remove left k)
left_removed mode i left k x keep l within is kept none =
    subst (AreLeft mode i) (removed_is left k x within is (AllPairs-from_increasing (left_numbers left) l.numbers.ascending))
    (left_filtered mode i (λ n. not (n == x.clause)) left l (subst (λ ns. HasNoSolution mode (restricted i ns)) kept none))

-- ---- those behind a place are settled

pub settled_here : (left : List Left) (k j : ℕ) (x : Left) → j ≡ k + 1 → k < length left → x ≡ get_or left k x → IsSome x.without
    → IsAllSettled (drop j left) → IsAllSettled (drop k left)
settled_here left k j x next within is own rest =
    subst IsAllSettled (sym (drop_more left k x within))
    (All-cons (λ (one : Left). IsSome one.without) (get_or left k x) (drop (k + 1) left)
    (subst (λ (z : Left). IsSome z.without) is own) (subst (λ n. IsAllSettled (drop n left)) next rest))

pub settled_set : (left : List Left) (k j : ℕ) (x : Left) → j ≡ k + 1 → k < length left → IsSome x.without → IsAllSettled (drop j left) → IsAllSettled (drop k (set left k x))
settled_set left k j x next within own rest =
    subst IsAllSettled (sym (drop-set left k x within))
    (All-cons (λ (one : Left). IsSome one.without) x (drop (k + 1) left) own (subst (λ n. IsAllSettled (drop n left)) next rest))

pub settled_removed : (left : List Left) (k j : ℕ) → j ≡ suc k → k < length left → IsAllSettled (drop j left) → IsAllSettled (drop k (remove left k))
settled_removed left k j next within rest =
    subst IsAllSettled (sym (drop_at (take k left) (drop (suc k) left) k (length-take-le k left (omega (arith, within)))))
    (subst (λ n. IsAllSettled (drop n left)) next rest)

-- behind the last one nothing is left
pub settled_none : (left : List Left) (k : ℕ) → length left ≤ k → IsAllSettled (drop k left)
settled_none left k all = subst IsAllSettled (sym (drop_all k left all)) (All-nil (λ (one : Left). IsSome one.without))

-- ---- what became of the clause at a place

-- it stays, with an assignment that makes the others true
pub found_at : (mode : Mode) (i : Instance) (left : List Left) (k : ℕ) (x y : Left) (keep : List ℕ) (a : Assignment) → AreLeft mode i left → x ≡ get_or left k x
    → y ≡ get_or left k y → k < length left → keep ≡ all_but x.clause (left_numbers left) → IsWrittenSolution mode (restricted i keep) (assigned a)
    → AreLeft mode i (set left k (record { clause = y.clause; without = Some a }))
found_at mode i left k x y keep a l is other within kept shown =
    let same : x.clause ≡ y.clause = ap (λ (z : Left). z.clause) (is ∙ get_or_default left k x y within ∙ sym other) in
    left_settled mode i left k y (record { clause = y.clause; without = Some a }) l (ap (λ (z : Left). z.clause) other)
    (subst (λ n. IsWrittenSolution mode (restricted i (all_but n (left_numbers left))) (assigned a)) same
    (subst (λ ns. IsWrittenSolution mode (restricted i ns) (assigned a)) kept shown))

pub found_within : (left : List Left) (k : ℕ) (x : Left) → k < length left → k ≤ length (set left k x)
found_within left k x within = (let long : length (set left k x) ≡ length left = length-set left k x in omega (arith, within, long))

pub removed_within : (left : List Left) (k : ℕ) → k < length left → k ≤ length (remove left k)
removed_within left k within = (let long : length (remove left k) + 1 ≡ length left = length-remove left k within in omega (arith, within, long))

pub settled_found : (left : List Left) (k : ℕ) (y : Left) (a : Assignment) → k < length left → IsAllSettled (drop (k + 1) left)
    → IsAllSettled (drop k (set left k (record { clause = y.clause; without = Some a })))
settled_found left k y a within rest = settled_set left k (k + 1) (record { clause = y.clause; without = Some a }) refl within refl rest

pub settled_gone : (left : List Left) (k : ℕ) → k < length left → IsAllSettled (drop (k + 1) left) → IsAllSettled (drop k (remove left k))
settled_gone left k within rest = settled_removed left k (k + 1) (omega arith) within rest

-- nothing was given
pub is_none : {A : Type 0} (o : Option A) (b : Bool) → b ≡ is_some o → b ≡ false → o ≡ None
is_none None b is failing = refl
is_none (Some x) b is failing = (let bad : true ≡ false = sym is ∙ failing in absurd cc)
