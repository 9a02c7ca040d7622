-- Domains have the numbers that their rules say: of ranges those between the ends, of set operations those of sets.
use Rattle.std.specs.Prelude.{◌≡◌, ℕ, zero, suc, Bool, true, false, not, ◌&&◌, ◌||◌, List, [], ◌∷◌, ℤ, pos, negsuc, ◌+ℤ◌, ◌-ℤ◌, int_lt, int_le, if◌then◌else◌, filter, cond, refl}
use Rattle.std.specs.Ordering.{int_eq}
use Rattle.std.proofs.Common.{arith, ap, sym, ◌∙◌}
use Rattle.std.proofs.lemmas.Int.{ints}
use Rattle.std.proofs.lemmas.Bool.Decides.{Decides-int_eq}
use Rattle.std.proofs.Math.Bool.{and-false}
use Rattle.ep_base.specs.Numbers.{has_number}
use Rattle.ep_base.specs.Runs.{counting, or_zero}
use Rattle.ep_tree.specs.declared.syntax.SetOp.{SetOp}
use Rattle.ep_tree.specs.Domains.{put_in, united, set_values, set_has, between, count_between}

or_again : (a b : Bool) → (a || (a || b)) ≡ (a || b)
or_again true b = refl
or_again false b = refl

or_swap : (a b c : Bool) → (a || (b || c)) ≡ (b || (a || c))
or_swap true true c = refl
or_swap true false c = refl
or_swap false true c = refl
or_swap false false c = refl

or_assoc : (a b c : Bool) → (a || (b || c)) ≡ ((a || b) || c)
or_assoc true b c = refl
or_assoc false b c = refl

-- a number put into a list joins its numbers
pub put_in-has : (x y : ℤ) (ys : List ℤ) → has_number (put_in y ys) x ≡ (int_eq x y || has_number ys x)
unfolding put_in has_number
put_in-has x y [] = refl
put_in-has x y (z ∷ zs) = go (int_lt y z) (int_eq y z) ((Decides-int_eq y z).0) (put_in-has x y zs)
  where
    go : (lt eq : Bool) → (eq ≡ true → y ≡ z) → has_number (put_in y zs) x ≡ (int_eq x y || has_number zs x)
        → has_number (if lt then y ∷ z ∷ zs else (if eq then z ∷ zs else z ∷ put_in y zs)) x ≡ (int_eq x y || has_number (z ∷ zs) x)
    go true eq same ih = refl
    go false true same ih =
        sym (ap (λ w. int_eq x w || (int_eq x z || has_number zs x)) (same refl) ∙ or_again (int_eq x z) (has_number zs x))
    go false false same ih = ap (λ b. int_eq x z || b) ih ∙ or_swap (int_eq x z) (int_eq x y) (has_number zs x)

-- a union has the numbers of both
pub united-has : (x : ℤ) (xs ys : List ℤ) → has_number (united xs ys) x ≡ (has_number xs x || has_number ys x)
unfolding united has_number
united-has x [] ys = refl
united-has x (y ∷ xs) ys =
    put_in-has x y (united xs ys) ∙ ap (λ b. int_eq x y || b) (united-has x xs ys) ∙ or_assoc (int_eq x y) (has_number xs x) (has_number ys x)

-- a filtered list has the numbers that pass
pub filter-has : (f : ℤ → Bool) (x : ℤ) (xs : List ℤ) → has_number (filter f xs) x ≡ (has_number xs x && f x)
unfolding has_number
filter-has f x [] = refl
filter-has f x (y ∷ ys) = go (f y) (int_eq x y) ((Decides-int_eq x y).0) refl refl (filter-has f x ys)
  where
    go : (passes eq : Bool) → (int_eq x y ≡ true → x ≡ y) → f y ≡ passes → int_eq x y ≡ eq
        → has_number (filter f ys) x ≡ (has_number ys x && f x)
        → has_number (cond passes (y ∷ filter f ys) (filter f ys)) x ≡ ((int_eq x y || has_number ys x) && f x)
    go true true same p q ih = rw q (sym (ap f (same q) ∙ p))
    go true false same p q ih = rw q ih
    go false true same p q ih = rw q (ih ∙ ap (λ b. has_number ys x && b) (ap f (same q) ∙ p) ∙ and-false (has_number ys x) ∙ sym (ap f (same q) ∙ p))
    go false false same p q ih = rw q ih

-- the numbers from a on, so many of them
pub counting-has : (x a : ℤ) (n : ℕ) → has_number (counting a n) x ≡ (int_le a x && int_lt x (a +ℤ pos n))
unfolding counting has_number
counting-has x a zero = grind (arith, ints)
counting-has x a (suc n) = ap (λ b. int_eq x a || b) (counting-has x (a +ℤ pos 1) n) ∙ grind (arith, ints)

-- a range has the numbers from its first to its last
pub between-has : (x a b : ℤ) → has_number (between a b) x ≡ (int_le a x && int_le x b)
unfolding between count_between
between-has x a b = counting-has x a (count_between a b) ∙ ends ((b +ℤ pos 1) -ℤ a) refl
  where
    ends : (z : ℤ) → ((b +ℤ pos 1) -ℤ a) ≡ z → (int_le a x && int_lt x (a +ℤ pos (or_zero z))) ≡ (int_le a x && int_le x b)
    ends (pos m) e = grind (arith, ints)
    ends (negsuc m) e = grind (arith, ints)

-- an operation on domains is that of sets
pub set_values-has : (op : SetOp) (xs ys : List ℤ) (x : ℤ) → has_number (set_values op xs ys) x ≡ set_has op (has_number xs x) (has_number ys x)
unfolding set_values set_has
set_values-has SetOp.Union xs ys x = united-has x xs ys
set_values-has SetOp.Intersect xs ys x = filter-has (has_number ys) x xs
set_values-has SetOp.Minus xs ys x = filter-has (λ y. not (has_number ys y)) x xs
