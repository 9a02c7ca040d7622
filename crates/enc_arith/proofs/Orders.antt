-- Least and greatest numbers by levels, for either order.
use Rattle.std.proofs.Common.{◌≡◌, ◌↔◌, ◌⊎◌, inl, inr, ℤ, ◌≤ℤ◌, Bool, true, false, IsTrue, not, ◌||◌, ◌&&◌, List, [], ◌∷◌, refl, sym, ap, subst, ◌∙◌, arith}
use Rattle.std.specs.Prelude.{fold, int_le, int_lt}
use Rattle.std.specs.Int.{int_max, int_min}
use Rattle.std.specs.List.{All, Contains, list_all, list_any}
use Rattle.std.specs.Ordering.{int_eq}
use Rattle.std.proofs.lemmas.Bool.Decides.{Decides-int_eq, same_from_decides}
use Rattle.std.proofs.lemmas.Int.{fold-int_max_bounds, fold-int_max_reached, fold-int_min_bounds, fold-int_min_reached, ints}
use Rattle.std.proofs.lemmas.List.Elements.{All-cons, All-contains, All-head, All-nil, All-weaker}
use Rattle.cnf_core.proofs.Members.{All-from_contains, Contains-cases, Contains-here, Contains-there, none_in_nil}
use Rattle.ep_base.specs.Numbers.{compare_holds, contrary_comparison, greatest_of, least_of}
use Rattle.ep_flat.specs.Cons.{is_value}
use Rattle.enc_arith.specs.Extremes.{all_compare, any_compares, extreme_of, is_extreme, level_holds, reached_of, within_of}
use Rattle.enc_arith.specs.declared.sides.Side.{Side}

-- a test that is an order
pub record Orders (le : ℤ → ℤ → Bool) : Type 0 where
  pub same : (n : ℤ) → le n n ≡ true
  pub chain : (a b c : ℤ) → le a b ≡ true → le b c ≡ true → le a c ≡ true
  pub equal : (a b : ℤ) → le a b ≡ true → le b a ≡ true → a ≡ b

up_orders : Orders int_le
up_orders = record {
  same = λ n. grind (arith, ints);
  chain = λ a b c p q. grind (arith, ints);
  equal = λ a b p q. grind (arith, ints);
}

down_orders : Orders (λ a b. int_le b a)
down_orders = record {
  same = λ n. grind (arith, ints);
  chain = λ a b c p q. grind (arith, ints);
  equal = λ a b p q. grind (arith, ints);
}

-- a number is the greatest of some numbers in an order
record IsBest (le : ℤ → ℤ → Bool) (ns : List ℤ) (best : ℤ) : Type 0 where
  within : (m : ℤ) → Contains ns m → le m best ≡ true
  reached : Contains ns best

level : (ℤ → ℤ → Bool) → List ℤ → ℤ → ℤ → Bool
level le ns n w = (not (le n w) || list_all (λ m. le m w) ns) && (not (le w n) || list_any (λ m. le w m) ns)

all_true : (p : ℤ → Bool) (ns : List ℤ) → ((m : ℤ) → Contains ns m → p m ≡ true) → list_all p ns ≡ true
all_true p [] h = refl
all_true p (n ∷ ns) h = ap (λ b. b && list_all p ns) (h n (Contains-here n ns)) ∙ all_true p ns (λ m found. h m (Contains-there n ns m found))

true_all : (p : ℤ → Bool) (ns : List ℤ) → list_all p ns ≡ true → (m : ℤ) → Contains ns m → p m ≡ true
true_all p [] h m found = absurd (none_in_nil m found)
true_all p (n ∷ ns) h m found = by (λ k there. true_all p ns k m there) (p n) refl (Contains-cases n ns m found)
  where
    by : (list_all p ns ≡ true → Contains ns m → p m ≡ true) → (b : Bool) → p n ≡ b → (n ≡ m) ⊎ Contains ns m → p m ≡ true
    by again true e (inl same) = subst (λ k. p k ≡ true) same e
    by again true e (inr there) = again (subst (λ b. (b && list_all p ns) ≡ true) e h) there
    by again false e which = absurd (let k : (false && list_all p ns) ≡ true = subst (λ b. (b && list_all p ns) ≡ true) e h in cc)

any_true : (p : ℤ → Bool) (ns : List ℤ) (m : ℤ) → Contains ns m → p m ≡ true → list_any p ns ≡ true
any_true p [] m found h = absurd (none_in_nil m found)
any_true p (n ∷ ns) m found h = by (λ there. any_true p ns m there h) (Contains-cases n ns m found)
  where
    or_true : (b : Bool) → (b || true) ≡ true
    or_true true = refl
    or_true false = refl

    by : (Contains ns m → list_any p ns ≡ true) → (n ≡ m) ⊎ Contains ns m → (p n || list_any p ns) ≡ true
    by again (inl same) = ap (λ b. b || list_any p ns) (subst (λ k. p k ≡ true) (sym same) h)
    by again (inr there) = ap (λ b. p n || b) (again there) ∙ or_true (p n)

record Some_of (p : ℤ → Bool) (ns : List ℤ) : Type 0 where
  number : ℤ
  among : Contains ns number
  passes : p number ≡ true

true_any : (p : ℤ → Bool) (ns : List ℤ) → list_any p ns ≡ true → Some_of p ns
true_any p [] h = absurd (let k : false ≡ true = h in cc)
true_any p (n ∷ ns) h = by (λ k. true_any p ns k) (p n) refl
  where
    by : (list_any p ns ≡ true → Some_of p ns) → (b : Bool) → p n ≡ b → Some_of p (n ∷ ns)
    by again true e = record { number = n; among = Contains-here n ns; passes = e }
    by again false e = let r : Some_of p ns = again (subst (λ b. (b || list_any p ns) ≡ true) e h) in record { number = r.number; among = Contains-there n ns r.number r.among; passes = r.passes }

both : (a b : Bool) → a ≡ true → b ≡ true → (a && b) ≡ true
both a b p q = ap (λ x. x && b) p ∙ q

first_of_both : (a b : Bool) → (a && b) ≡ true → a ≡ true
first_of_both true b h = refl
first_of_both false b h = h

second_of_both : (a b : Bool) → (a && b) ≡ true → b ≡ true
second_of_both true b h = h
second_of_both false b h = absurd (let k : false ≡ true = h in cc)

-- what holds at every level
level_best : (le : ℤ → ℤ → Bool) → Orders le → (ns : List ℤ) (best : ℤ) → IsBest le ns best → (w : ℤ) → level le ns best w ≡ true
unfolding level
level_best le order ns best is w = both _ _ (one (le best w) refl) (two (le w best) refl)
  where
    one : (b : Bool) → le best w ≡ b → (not (le best w) || list_all (λ m. le m w) ns) ≡ true
    one true e = ap (λ b. not b || list_all (λ m. le m w) ns) e ∙ all_true (λ m. le m w) ns (λ m found. order.chain m best w (is.within m found) e)
    one false e = ap (λ b. not b || list_all (λ m. le m w) ns) e

    two : (b : Bool) → le w best ≡ b → (not (le w best) || list_any (λ m. le w m) ns) ≡ true
    two true e = ap (λ b. not b || list_any (λ m. le w m) ns) e ∙ any_true (λ m. le w m) ns best is.reached e
    two false e = ap (λ b. not b || list_any (λ m. le w m) ns) e

-- at its own level a number is told to be the greatest
own_level : (le : ℤ → ℤ → Bool) → Orders le → (ns : List ℤ) (n : ℤ) → level le ns n n ≡ (list_all (λ m. le m n) ns && list_any (λ m. le n m) ns)
unfolding level
own_level le order ns n = ap (λ b. (not b || list_all (λ m. le m n) ns) && (not b || list_any (λ m. le n m) ns)) (order.same n)

own_best : (le : ℤ → ℤ → Bool) → Orders le → (ns : List ℤ) (best n : ℤ) → IsBest le ns best → level le ns n n ≡ true → n ≡ best
own_best le order ns best n is h =
    let t : (list_all (λ m. le m n) ns && list_any (λ m. le n m) ns) ≡ true = sym (own_level le order ns n) ∙ h in
    let some = true_any (λ m. le n m) ns (second_of_both (list_all (λ m. le m n) ns) (list_any (λ m. le n m) ns) t) in
    order.equal n best
    (order.chain n some.number best some.passes (is.within some.number some.among))
    (true_all (λ m. le m n) ns (first_of_both (list_all (λ m. le m n) ns) (list_any (λ m. le n m) ns) t) best is.reached)

no_level : (le : ℤ → ℤ → Bool) → Orders le → (n : ℤ) → level le [] n n ≡ false
no_level le order n = own_level le order [] n

-- ---- the greatest by its fold

greatest_best : (x : ℤ) (xs : List ℤ) → IsBest int_le (x ∷ xs) (fold int_max x xs)
greatest_best x xs =
    let bounds = fold-int_max_bounds x xs (fold int_max x xs) refl in
    record {
      within = λ m found. low m (Contains-cases x xs m found);
      reached = where_ (fold-int_max_reached x xs (fold int_max x xs) refl);
    }
  where
    low : (m : ℤ) → (x ≡ m) ⊎ Contains xs m → int_le m (fold int_max x xs) ≡ true
    low m (inl same) = let h : x ≤ℤ fold int_max x xs = (fold-int_max_bounds x xs (fold int_max x xs) refl).0 in grind (arith, ints)
    low m (inr there) =
        let h : m ≤ℤ fold int_max x xs = All-contains (λ y. y ≤ℤ fold int_max x xs) xs m (fold-int_max_bounds x xs (fold int_max x xs) refl).1 there in grind (arith, ints)

    where_ : (fold int_max x xs ≡ x) ⊎ Contains xs (fold int_max x xs) → Contains (x ∷ xs) (fold int_max x xs)
    where_ (inl same) = subst (Contains (x ∷ xs)) (sym same) (Contains-here x xs)
    where_ (inr there) = Contains-there x xs (fold int_max x xs) there

least_best : (x : ℤ) (xs : List ℤ) → IsBest (λ a b. int_le b a) (x ∷ xs) (fold int_min x xs)
least_best x xs = record {
  within = λ m found. low m (Contains-cases x xs m found);
  reached = where_ (fold-int_min_reached x xs (fold int_min x xs) refl);
}
  where
    low : (m : ℤ) → (x ≡ m) ⊎ Contains xs m → int_le (fold int_min x xs) m ≡ true
    low m (inl same) = let h : fold int_min x xs ≤ℤ x = (fold-int_min_bounds x xs (fold int_min x xs) refl).0 in grind (arith, ints)
    low m (inr there) =
        let h : fold int_min x xs ≤ℤ m = All-contains (λ y. fold int_min x xs ≤ℤ y) xs m (fold-int_min_bounds x xs (fold int_min x xs) refl).1 there in grind (arith, ints)

    where_ : (fold int_min x xs ≡ x) ⊎ Contains xs (fold int_min x xs) → Contains (x ∷ xs) (fold int_min x xs)
    where_ (inl same) = subst (Contains (x ∷ xs)) (sym same) (Contains-here x xs)
    where_ (inr there) = Contains-there x xs (fold int_min x xs) there

-- ---- levels of the code are these

above_is : (a b : ℤ) → int_lt b a ≡ not (int_le a b)
above_is a b = grind (arith, ints)

greatest_level : (ns : List ℤ) (n w : ℤ) → level_holds Side.Greatest ns n w ≡ level int_le ns n w
unfolding level_holds within_of reached_of contrary_comparison all_compare any_compares compare_holds level
greatest_level ns n w =
    ap (λ b. (b || list_all (λ m. int_le m w) ns) && (int_lt n w || list_any (λ m. int_le w m) ns)) (above_is n w)
    ∙ ap (λ b. (not (int_le n w) || list_all (λ m. int_le m w) ns) && (b || list_any (λ m. int_le w m) ns)) (above_is w n)

least_level : (ns : List ℤ) (n w : ℤ) → level_holds Side.Least ns n w ≡ level (λ a b. int_le b a) ns n w
unfolding level_holds within_of reached_of contrary_comparison all_compare any_compares compare_holds level
least_level ns n w =
    ap (λ b. (b || list_all (λ m. int_le w m) ns) && (int_lt w n || list_any (λ m. int_le m w) ns)) (above_is w n)
    ∙ ap (λ b. (not (int_le w n) || list_all (λ m. int_le w m) ns) && (b || list_any (λ m. int_le m w) ns)) (above_is n w)

-- whether all levels of some numbers hold, among them its own, is whether the number is the extreme one
told : (le : ℤ → ℤ → Bool) → Orders le → (ns ws : List ℤ) (best n : ℤ) → IsBest le ns best → Contains ws n
    → All (λ w. IsTrue (level le ns n w)) ws ↔ IsTrue (int_eq n best)
told le order ns ws best n is among = (
  λ all. (Decides-int_eq n best).1 (own_best le order ns best n is (All-contains (λ w. IsTrue (level le ns n w)) ws n all among)),
  λ h.
      let same : best ≡ n = sym ((Decides-int_eq n best).0 h) in
      All-from_contains (λ w. IsTrue (level le ns n w)) ws (λ w found. subst (λ m. IsTrue (level le ns m w)) same (level_best le order ns best is w)),
)

none_told : (le : ℤ → ℤ → Bool) → Orders le → (ws : List ℤ) (n : ℤ) → Contains ws n → All (λ w. IsTrue (level le [] n w)) ws ↔ IsTrue false
none_told le order ws n among = (
  λ all. let h : level le [] n n ≡ true = All-contains (λ w. IsTrue (level le [] n w)) ws n all among in sym (no_level le order n) ∙ h,
  λ h. absurd (let k : false ≡ true = h in cc),
)

along : (ns ws : List ℤ) (n : ℤ) (side : Side) (le : ℤ → ℤ → Bool) (b : Bool) → ((w : ℤ) → level_holds side ns n w ≡ level le ns n w)
    → (All (λ w. IsTrue (level le ns n w)) ws ↔ IsTrue b) → (All (λ w. IsTrue (level_holds side ns n w)) ws ↔ IsTrue b)
along ns ws n side le b same h = (
  λ all. h.0 (All-weaker (λ w. IsTrue (level_holds side ns n w)) (λ w. IsTrue (level le ns n w)) (λ w k. subst IsTrue (same w) k) ws all),
  λ k. All-weaker (λ w. IsTrue (level le ns n w)) (λ w. IsTrue (level_holds side ns n w)) (λ w j. subst IsTrue (sym (same w)) j) ws (h.1 k),
)

pub levels_tell : (side : Side) (ns ws : List ℤ) (n : ℤ) → Contains ws n → All (λ w. IsTrue (level_holds side ns n w)) ws ↔ IsTrue (is_value (extreme_of side ns) n)
unfolding extreme_of is_value greatest_of least_of
levels_tell Side.Greatest [] ws n among = along [] ws n Side.Greatest int_le false (greatest_level [] n) (none_told int_le up_orders ws n among)
levels_tell Side.Greatest (x ∷ xs) ws n among =
    along (x ∷ xs) ws n Side.Greatest int_le _ (greatest_level (x ∷ xs) n) (told int_le up_orders (x ∷ xs) ws (fold int_max x xs) n (greatest_best x xs) among)
levels_tell Side.Least [] ws n among = along [] ws n Side.Least (λ a b. int_le b a) false (least_level [] n) (none_told (λ a b. int_le b a) down_orders ws n among)
levels_tell Side.Least (x ∷ xs) ws n among =
    along (x ∷ xs) ws n Side.Least (λ a b. int_le b a) _ (least_level (x ∷ xs) n) (told (λ a b. int_le b a) down_orders (x ∷ xs) ws (fold int_min x xs) n (least_best x xs) among)

own_is : (side : Side) (ns : List ℤ) (n : ℤ) → level_holds side ns n n ≡ is_extreme side ns n
unfolding is_extreme all_compare any_compares compare_holds within_of reached_of
own_is Side.Greatest ns n = greatest_level ns n n ∙ own_level int_le up_orders ns n
own_is Side.Least ns n = least_level ns n n ∙ own_level (λ a b. int_le b a) down_orders ns n

-- whether all numbers are within a number and one reaches it is whether it is the extreme one
pub extreme_test : (side : Side) (ns : List ℤ) (n : ℤ) → is_extreme side ns n ≡ is_value (extreme_of side ns) n
extreme_test side ns n =
    let h = levels_tell side ns (n ∷ []) n (Contains-here n []) in
    same_from_decides {P = IsTrue (is_value (extreme_of side ns) n)} (is_extreme side ns n) (is_value (extreme_of side ns) n) (
      λ e. h.0 (All-cons (λ w. IsTrue (level_holds side ns n w)) n [] (own_is side ns n ∙ e) (All-nil (λ w. IsTrue (level_holds side ns n w)))),
      λ e. sym (own_is side ns n) ∙ All-head (λ w. IsTrue (level_holds side ns n w)) n [] (h.1 e),
    )
    (λ e. e, λ e. e)
