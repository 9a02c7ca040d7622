-- How measures compose, and which limits are passed.
use Rattle.ep_size.proofs.Words.{◌≡◌, ℕ, ◌+◌, ◌<◌, ◌≤◌, Bool, true, false, List, [], ◌∷◌, ◌++◌, length, refl, sym, ap, subst, ◌∙◌, inl, inr, arith, flat_map, fold, map, nat_lt, int_lt, ◌||◌, if◌then◌else◌, ℤ, pos, int_max, list_any, ints, map-append, sum_by-append, sum_by-cons, flat_map-append, or_assoc, Interval, farthest_end, absolute_of, MOST_NUMBER, Refusal, over_limit, MOST_SIZE, Met, farthest_of, farthest_reach, reaches_at, weight_at, weight_of, limits_passed, Mode, IsPassed, is_far}
use Rattle.std.specs.Prelude.{Contains}
use Rattle.ep_base.specs.declared.operators.Limit.{Limit as LimitName}

-- ---- reach

pub or_false : (b : Bool) → b ≡ (b || false)
or_false true = refl
or_false false = refl

greater_of : (m a b : ℤ) → int_lt m (int_max a b) ≡ (int_lt m a || int_lt m b)
greater_of m a b = grind (arith, ints)

-- whether a number is past the limit of reach
abbrev pub is_past : ℤ → Bool
is_past x = int_lt MOST_NUMBER (absolute_of x)

greatest_past : (m a : ℤ) (xs : List ℤ) → int_lt m (fold int_max a (map absolute_of xs)) ≡ (int_lt m a || list_any (λ x. int_lt m (absolute_of x)) xs)
greatest_past m a [] = or_false (int_lt m a)
greatest_past m a (x ∷ xs) =
    greatest_past m (int_max a (absolute_of x)) xs
    ∙ ap (λ b. b || list_any (λ y. int_lt m (absolute_of y)) xs) (greater_of m a (absolute_of x))
    ∙ or_assoc (int_lt m a) (int_lt m (absolute_of x)) (list_any (λ y. int_lt m (absolute_of y)) xs)

pub past_of : (xs : List ℤ) → int_lt MOST_NUMBER (farthest_of xs) ≡ list_any is_past xs
unfolding farthest_of
past_of xs = greatest_past MOST_NUMBER (pos 0) xs

any_append : {A : Type 0} (f : A → Bool) (xs ys : List A) → list_any f (xs ++ ys) ≡ (list_any f xs || list_any f ys)
any_append f [] ys = refl
any_append f (x ∷ xs) ys = ap (λ b. f x || b) (any_append f xs ys) ∙ sym (or_assoc (f x) (list_any f xs) (list_any f ys))

-- nodes pass the limit where some of them do
pub far_either : (mode : Mode) (ms ns : List Met) → is_far mode (ms ++ ns) ≡ (is_far mode ms || is_far mode ns)
unfolding farthest_reach
far_either mode ms ns =
    let xs : List ℤ = map farthest_end (flat_map (reaches_at mode) ms) in
    let ys : List ℤ = map farthest_end (flat_map (reaches_at mode) ns) in
    past_of (map farthest_end (flat_map (reaches_at mode) (ms ++ ns)))
    ∙ ap (λ rs. list_any is_past (map farthest_end rs)) (flat_map-append (reaches_at mode) ms ns)
    ∙ ap (list_any is_past) (map-append farthest_end (flat_map (reaches_at mode) ms) (flat_map (reaches_at mode) ns))
    ∙ any_append is_past xs ys
    ∙ ap (λ b. b || list_any is_past ys) (sym (past_of xs))
    ∙ ap (λ b. int_lt MOST_NUMBER (farthest_of xs) || b) (sym (past_of ys))

-- ---- measures

pub weight-append : (mode : Mode) (ms ns : List Met) → weight_of mode (ms ++ ns) ≡ weight_of mode ms + weight_of mode ns
unfolding weight_of
weight-append mode ms ns = sum_by-append (weight_at mode) ms ns

pub weight-cons : (mode : Mode) (m : Met) (ms : List Met) → weight_of mode (m ∷ ms) ≡ weight_at mode m + weight_of mode ms
unfolding weight_of
weight-cons mode m ms = sum_by-cons (weight_at mode) m ms

-- ---- limits

size_limit : (s r : Refusal) (b c : Bool) → b ≡ true → Contains ((if b then s ∷ [] else []) ++ (if c then r ∷ [] else [])) s
size_limit s r true c h = (0, omega arith, refl)
size_limit s r false c h = absurd cc

reach_limit : (s r : Refusal) (b c : Bool) → c ≡ true → Contains ((if b then s ∷ [] else []) ++ (if c then r ∷ [] else [])) r
reach_limit s r true true h = (1, omega arith, refl)
reach_limit s r false true h = (0, omega arith, refl)
reach_limit s r b false h = absurd cc

-- so many nodes refuse
pub size_refuses : (mode : Mode) (a : ℕ) (ms : List Met) → MOST_SIZE < a + length ms → Contains (limits_passed mode a ms) (over_limit LimitName.Size)
unfolding limits_passed
size_refuses mode a ms h = size_limit (over_limit LimitName.Size) (over_limit LimitName.Reach) (nat_lt MOST_SIZE (a + length ms)) _ (grind arith)

-- the limits that some nodes pass may be named
pub passed_limits : (mode : Mode) (n : ℕ) (ms : List Met) (l : LimitName) → IsPassed (is_far mode) n ms l → Contains (limits_passed mode n ms) (over_limit l)
unfolding limits_passed
passed_limits mode n ms l (inl size) =
    subst (λ k. Contains (limits_passed mode n ms) (over_limit k)) (sym size.0) (size_refuses mode n ms size.1)
passed_limits mode n ms l (inr reach) =
    subst (λ k. Contains (limits_passed mode n ms) (over_limit k)) (sym reach.0)
    (reach_limit (over_limit LimitName.Size) (over_limit LimitName.Reach) (nat_lt MOST_SIZE (n + length ms)) _ reach.1)

-- no limit is passed where few nodes are near
pub nothing_passed : (mode : Mode) (n : ℕ) (ms : List Met) → n + length ms ≤ MOST_SIZE → is_far mode ms ≡ false → limits_passed mode n ms ≡ []
unfolding limits_passed
nothing_passed mode n ms small near = none (over_limit LimitName.Size) (over_limit LimitName.Reach) (nat_lt MOST_SIZE (n + length ms)) _ (grind (arith, small)) near
  where
    none : (s r : Refusal) (c d : Bool) → c ≡ false → d ≡ false → ((if c then s ∷ [] else []) ++ (if d then r ∷ [] else [])) ≡ []
    none s r false false p q = refl
    none s r true d p q = absurd cc
    none s r false true p q = absurd cc

-- ---- a node alone

-- a node alone is near where what it reaches is
pub near_alone : (mode : Mode) (m : Met) (i : Interval) → reaches_at mode m ≡ i ∷ [] → is_far mode (m ∷ []) ≡ is_past (farthest_end i)
unfolding farthest_reach
near_alone mode m i own =
    past_of (map farthest_end (reaches_at mode m ++ []))
    ∙ ap (λ is. list_any is_past (map farthest_end (is ++ []))) own
    ∙ sym (or_false (is_past (farthest_end i)))

-- a node that reaches nothing is near
pub near_nothing : (mode : Mode) (m : Met) → reaches_at mode m ≡ [] → is_far mode (m ∷ []) ≡ false
unfolding farthest_reach
near_nothing mode m own =
    past_of (map farthest_end (reaches_at mode m ++ [])) ∙ ap (λ is. list_any is_past (map farthest_end (is ++ []))) own
