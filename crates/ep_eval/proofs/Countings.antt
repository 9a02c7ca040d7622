-- How counts and causes compose.
use Rattle.ep_eval.proofs.Words.{◌≡◌, ℕ, ◌+◌, ◌<◌, ◌≤◌, Bool, true, false, List, [], ◌∷◌, ◌++◌, length, refl, sym, ap, subst, ◌∙◌, inl, inr, arith, flat_map, nat_lt, ◌||◌, if◌then◌else◌, ℤ, Result, Ok, Err, IfErr, Option, list_any, flat_map-append, Env, domain_values, evaluate, MOST_SIZE, counted_domain, counted_value, limits_of_values, within, ValueTree, Met, met, met_domain, DomainTree, ExprTree, Mode, Counted, IsPassed, has_far}
use Rattle.std.specs.Prelude.{Contains}
use Rattle.ep_base.specs.declared.operators.Limit.{Limit as LimitName}

pub any_append : (f : ℤ → Bool) (xs ys : List ℤ) → list_any f (xs ++ ys) ≡ (list_any f xs || list_any f ys)
any_append f [] ys = refl
any_append f (x ∷ xs) ys = by (f x) (any_append f xs ys)
  where
    by : (b : Bool) → list_any f (xs ++ ys) ≡ (list_any f xs || list_any f ys) → (b || list_any f (xs ++ ys)) ≡ ((b || list_any f xs) || list_any f ys)
    by true h = refl
    by false h = h

pub flat_append : {A B : Type 0} (f : A → List B) (xs ys : List A) → flat_map f (xs ++ ys) ≡ flat_map f xs ++ flat_map f ys
flat_append f xs ys = flat_map-append f xs ys

-- ---- causes

-- the two limits, by whether each is passed
size_limit : (b c : Bool) → b ≡ true → Contains ((if b then LimitName.Size ∷ [] else []) ++ (if c then LimitName.Reach ∷ [] else [])) LimitName.Size
size_limit true c h = (0, omega arith, refl)
size_limit false c h = absurd cc

reach_limit : (b c : Bool) → c ≡ true → Contains ((if b then LimitName.Size ∷ [] else []) ++ (if c then LimitName.Reach ∷ [] else [])) LimitName.Reach
reach_limit true true h = (1, omega arith, refl)
reach_limit false true h = (0, omega arith, refl)
reach_limit b false h = absurd cc

-- so many nodes refuse
pub size_refuses : (mode : Mode) (a : ℕ) (ms : List Met) → MOST_SIZE < a + length ms → Contains (limits_of_values mode a ms) LimitName.Size
unfolding limits_of_values
size_refuses mode a ms h = size_limit (nat_lt MOST_SIZE (a + length ms)) _ (grind arith)

-- the limits that some nodes pass may be named
pub passed_limits : (mode : Mode) (n : ℕ) (ms : List Met) (l : LimitName) → IsPassed (has_far mode) n ms l → Contains (limits_of_values mode n ms) l
unfolding limits_of_values
passed_limits mode n ms l (inl size) =
    let over = size.1 in
    subst (λ x. Contains (limits_of_values mode n ms) x) (sym size.0) (size_limit (nat_lt MOST_SIZE (n + length ms)) (has_far mode ms) (grind (arith, over)))
passed_limits mode n ms l (inr reach) =
    subst (λ x. Contains (limits_of_values mode n ms) x) (sym reach.0) (reach_limit (nat_lt MOST_SIZE (n + length ms)) (has_far mode ms) reach.1)

-- no limit is passed where the nodes are counted
pub nothing_passed : (mode : Mode) (a b : ℕ) (ms : List Met) → Counted mode a b ms → limits_of_values mode a ms ≡ []
unfolding limits_of_values
nothing_passed mode a b ms h = none (nat_lt MOST_SIZE (a + length ms)) _ (small MOST_SIZE a (length ms) b h.count h.small) h.near
  where
    none : (c d : Bool) → c ≡ false → d ≡ false → ((if c then LimitName.Size ∷ [] else []) ++ (if d then LimitName.Reach ∷ [] else [])) ≡ []
    none false false p q = refl
    none true d p q = absurd cc
    none false true p q = absurd cc

    small : (m x y z : ℕ) → z ≡ x + y → z ≤ m → nat_lt m (x + y) ≡ false
    small m x y z p q = grind arith

-- an expression whose nodes are counted has its value, and so many nodes
pub counted_value_is : (mode : Mode) (a b : ℕ) (env : Env) (e : ExprTree) (v : Option ValueTree) → Counted mode a b (met mode env e) → evaluate mode env e ≡ v
    → counted_value mode a env e ≡ Ok (v, b)
unfolding counted_value within
counted_value_is mode a b env e v h value =
    ap (λ ls. within ls (evaluate mode env e, a + length (met mode env e))) (nothing_passed mode a b (met mode env e) h)
    ∙ ap (λ w. Ok (w, a + length (met mode env e))) value ∙ ap (λ n. Ok (v, n)) (sym h.count)

-- the same of a domain
pub counted_domain_is : (mode : Mode) (a b : ℕ) (env : Env) (d : DomainTree) (v : Option (List ℤ)) → Counted mode a b (met_domain mode env d) → domain_values mode env d ≡ v
    → counted_domain mode a env d ≡ Ok (v, b)
unfolding counted_domain within
counted_domain_is mode a b env d v h value =
    ap (λ ls. within ls (domain_values mode env d, a + length (met_domain mode env d))) (nothing_passed mode a b (met_domain mode env d) h)
    ∙ ap (λ w. Ok (w, a + length (met_domain mode env d))) value ∙ ap (λ n. Ok (v, n)) (sym h.count)
