-- Nodes that have a value whatever their parts are, or where their parts have one.
use Rattle.ep_unroll.proofs.Words.{◌≡◌, ℕ, zero, suc, ◌<◌, Bool, ℤ, pos, negsuc, ◌+ℤ◌, ◌-ℤ◌, List, [], ◌∷◌, length, Some, None, refl, sym, ap, subst, ◌∙◌, arith, rules, slice_get, get_or, IsSome, Option, ◌*ℤ◌, ◌≢◌, map, neg_ℤ, option_and_then, option_map, All, slice_get-get_or, on_both, all_there, weighted_sum, node_value, term_values_of, weighed}
use Rattle.ep_base.specs.Numbers as counted
use Rattle.ep_ground.specs.Nodes as node
use Rattle.ep_ground.specs.Terms.{truth}
use Rattle.ep_unroll.proofs.NeedSteps.{some_there}

pub some_total : {A : Type 0} (o : Option A) (x : A) → o ≡ Some x → IsSome o
some_total o x h = subst IsSome (sym h) (it_is x)
  where
    it_is : {B : Type 0} (y : B) → IsSome (Some y)
    it_is y = search rules

pub constant_total : (x : ℤ) → IsSome (Some x)
constant_total x = search rules

pub truth_total : (o : Option Bool) → IsSome (truth o)
unfolding truth
truth_total None = search rules
truth_total (Some b) = search rules

pub cell_total : (numbers : List ℤ) (k : ℕ) (d : ℤ) → k < length numbers → IsSome (slice_get numbers k)
cell_total numbers k d h = some_total (slice_get numbers k) (get_or numbers k d) (slice_get-get_or numbers k d h)

-- ---- nodes that have a value where their parts have

mapped_total : {A B : Type 0} (f : A → B) (o : Option A) → IsSome o → IsSome (option_map f o)
mapped_total f o h =
    let p = some_there o h in some_total (option_map f o) (f p.0) (ap (option_map f) p.1)

weighed_total : (f : ℕ → Option ℤ) (parts : List (ℤ × ℕ)) → All (λ part. IsSome (f part.1)) parts → IsSome (weighed f parts)
unfolding weighed on_both
weighed_total f [] h = search rules
weighed_total f (p ∷ parts) h =
    let x = some_there (f p.1) (h 0 p (omega arith)) in
    let xs = some_there (weighed f parts) (weighed_total f parts (λ k d less. h (suc k) d (omega (arith, less)))) in
    some_total (on_both (f p.1) (weighed f parts) (λ y rest. Some ((p.0, y) ∷ rest))) ((p.0, x.0) ∷ xs.0)
    (ap (λ o. option_and_then (λ y. option_and_then (λ rest. Some ((p.0, y) ∷ rest)) (weighed f parts)) o) x.1 ∙ ap (option_and_then (λ rest. Some ((p.0, x.0) ∷ rest))) xs.1)

pub sum_total : (numbers : List ℤ) (f : ℕ → Option ℤ) (c : ℤ) (parts : List (ℤ × ℕ)) → All (λ part. IsSome (f part.1)) parts → IsSome (node_value numbers f (node.sum c parts))
unfolding node_value
sum_total numbers f c parts h = mapped_total (λ ps. c +ℤ weighted_sum ps) (weighed f parts) (weighed_total f parts h)

both_total : (g : ℤ → ℤ → ℤ) (a b : Option ℤ) → IsSome a → IsSome b → IsSome (on_both a b (λ x y. Some (g x y)))
unfolding on_both
both_total g a b h k =
    let x = some_there a h in
    let y = some_there b k in
    some_total (on_both a b (λ u v. Some (g u v))) (g x.0 y.0)
    (ap (option_and_then (λ u. option_and_then (λ v. Some (g u v)) b)) x.1 ∙ ap (option_and_then (λ v. Some (g x.0 v))) y.1)

pub product_total : (numbers : List ℤ) (f : ℕ → Option ℤ) (a b : ℕ) → IsSome (f a) → IsSome (f b) → IsSome (node_value numbers f (node.product a b))
unfolding node_value
product_total numbers f a b h k = both_total ◌*ℤ◌ (f a) (f b) h k

pub power_total : (numbers : List ℤ) (f : ℕ → Option ℤ) (a n : ℕ) → IsSome (f a) → IsSome (node_value numbers f (node.power a n))
unfolding node_value
power_total numbers f a n h = mapped_total (λ x. counted.nth_power x n) (f a) h

pub absolute_total : (numbers : List ℤ) (f : ℕ → Option ℤ) (a : ℕ) → IsSome (f a) → IsSome (node_value numbers f (node.absolute a))
unfolding node_value
absolute_total numbers f a h = mapped_total counted.absolute_of (f a) h

-- a divisor other than 0
divides : (x k : ℤ) → k ≢ pos 0 → (q : ℤ) × (counted.quotient x k ≡ Some q)
unfolding counted.quotient
divides x (pos zero) h = absurd (h refl)
divides x (pos (suc n)) h = (counted.floor_over x (suc n), refl)
divides x (negsuc n) h = (counted.floor_over (neg_ℤ x) (suc n), refl)

divided_total : (g : ℤ → ℤ → Option ℤ) (a b : Option ℤ) (k : ℤ) → ((x : ℤ) → IsSome (g x k)) → IsSome a → b ≡ Some k → IsSome (on_both a b g)
unfolding on_both
divided_total g a b k h told is =
    let x = some_there a told in
    let q = some_there (g x.0 k) (h x.0) in
    some_total (on_both a b g) q.0 (ap (option_and_then (λ u. option_and_then (g u) b)) x.1 ∙ ap (option_and_then (g x.0)) is ∙ q.1)

pub quotient_total : (numbers : List ℤ) (f : ℕ → Option ℤ) (a b : ℕ) (k : ℤ) → k ≢ pos 0 → IsSome (f a) → f b ≡ Some k → IsSome (node_value numbers f (node.quotient a b))
unfolding node_value
quotient_total numbers f a b k h told is =
    divided_total counted.quotient (f a) (f b) k (λ x. let q = divides x k h in some_total (counted.quotient x k) q.0 q.1) told is

pub remainder_total : (numbers : List ℤ) (f : ℕ → Option ℤ) (a b : ℕ) (k : ℤ) → k ≢ pos 0 → IsSome (f a) → f b ≡ Some k → IsSome (node_value numbers f (node.remainder a b))
unfolding node_value counted.remainder
remainder_total numbers f a b k h told is =
    divided_total counted.remainder (f a) (f b) k (λ x. let q = divides x k h in mapped_total (λ m. x -ℤ (k *ℤ m)) (counted.quotient x k) (some_total (counted.quotient x k) q.0 q.1)) told is

listed_total : (f : ℕ → Option ℤ) (ts : List ℕ) → All (λ t. IsSome (f t)) ts → (xs : List ℤ) × (all_there (map f ts) ≡ Some xs) × (length xs ≡ length ts)
unfolding all_there
listed_total f [] h = ([], refl, refl)
listed_total f (t ∷ ts) h =
    let p = some_there (f t) (h 0 t (omega arith)) in
    let q = listed_total f ts (λ k d less. h (suc k) d (omega (arith, less))) in (
      p.0 ∷ q.0,
      ap (option_and_then (λ n. option_map (λ ns. n ∷ ns) (all_there (map f ts)))) p.1 ∙ ap (option_map (λ ns. p.0 ∷ ns)) q.1,
      ap suc q.2,
    )

chosen_total : (g : List ℤ → Option ℤ) (f : ℕ → Option ℤ) (ts : List ℕ) → ((x : ℤ) (xs : List ℤ) → IsSome (g (x ∷ xs))) → 0 < length ts → All (λ t. IsSome (f t)) ts
    → IsSome (option_and_then g (all_there (map f ts)))
chosen_total g f ts h some told =
    let p = listed_total f ts told in by p.0 p.1 (omega (arith, some, p.2))
  where
    by : (xs : List ℤ) → all_there (map f ts) ≡ Some xs → 0 < length xs → IsSome (option_and_then g (all_there (map f ts)))
    by [] is more = absurd (omega (arith, more))
    by (x ∷ xs) is more = let q = some_there (g (x ∷ xs)) (h x xs) in some_total (option_and_then g (all_there (map f ts))) q.0 (ap (option_and_then g) is ∙ q.1)

pub least_total : (numbers : List ℤ) (f : ℕ → Option ℤ) (ts : List ℕ) → 0 < length ts → All (λ t. IsSome (f t)) ts → IsSome (node_value numbers f (node.least ts))
unfolding node_value term_values_of counted.least_of
least_total numbers f ts some told = chosen_total counted.least_of f ts (λ x xs. search rules) some told

pub greatest_total : (numbers : List ℤ) (f : ℕ → Option ℤ) (ts : List ℕ) → 0 < length ts → All (λ t. IsSome (f t)) ts → IsSome (node_value numbers f (node.greatest ts))
unfolding node_value term_values_of counted.greatest_of
greatest_total numbers f ts some told = chosen_total counted.greatest_of f ts (λ x xs. search rules) some told
