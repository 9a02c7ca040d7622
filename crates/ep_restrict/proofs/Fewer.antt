-- What some of an instance's clauses have of all of them.
use Rattle.std.proofs.Common.{◌≡◌, ℕ, zero, suc, ◌+◌, ◌-◌, ◌<◌, ◌≤◌, Bool, true, false, List, [], ◌∷◌, ◌++◌, drop, length, refl, sym, ap, ◌∙◌, subst, arith}
use Rattle.std.specs.Prelude.{IsTrue, flat_map, fold, map, nat_lt, int_le, if◌then◌else◌, ℤ, pos, slice_get, sum_by, Some, option_map, option_to_list}
use Rattle.std.specs.Int.{int_max}
use Rattle.std.specs.List.{All, AllPairs}
use Rattle.std.proofs.lemmas.Int.{ints}
use Rattle.std.proofs.lemmas.List.Concat.{flat_map-cons, length-flat_map}
use Rattle.std.proofs.lemmas.List.Elements.{All-append, All-cons, All-head, All-nil, All-tail, All-weaker}
use Rattle.std.proofs.lemmas.List.Kept.{AllPairs-from_increasing}
use Rattle.std.proofs.lemmas.List.Sums.{sum_by-append, sum_by-cons}
use Rattle.ep_base.specs.Intervals.{farthest_end}
use Rattle.ep_base.specs.Numbers.{absolute_of}
use Rattle.ep_base.specs.declared.operators.Limit.{Limit}
use Rattle.ep_tree.specs.Binding.{Instance, Refusal, met_in, over_limit}
use Rattle.ep_tree.specs.Closed.{IsClosed, clause_env, instance_faults}
use Rattle.ep_tree.specs.Environments.{Env, context_of}
use Rattle.ep_tree.specs.Faults.{clause_faults, goal_faults}
use Rattle.ep_tree.specs.Limits.{MOST_WEIGHT}
use Rattle.ep_tree.specs.Measures.{Met, farthest_of, farthest_reach, met, reaches_at, size_of, weight_at, weight_of}
use Rattle.ep_tree.specs.Solutions.{instance_limits, instance_reach, instance_size, instance_weight, limits_passed, met_instance, or_weight}
use Rattle.ep_tree.specs.Trees.{ExprTree}
use Rattle.ep_tree.specs.Types.{Context}
use Rattle.ep_tree.specs.declared.values.Mode.{Mode}
use Rattle.ep_restrict.specs.Restricted.{AreClauseNumbers, MeasuresAtMost, numbered_clauses, restricted}

-- ---- sums

-- what is dropped later is less
drop_less : {A : Type 0} (f : A → ℕ) (xs : List A) (k m : ℕ) → k ≤ m → sum_by f (drop m xs) ≤ sum_by f (drop k xs)
drop_less f [] zero zero le = omega arith
drop_less f [] zero (suc m) le = omega arith
drop_less f [] (suc k) zero le = absurd (omega (arith, le))
drop_less f [] (suc k) (suc m) le = omega arith
drop_less f (x ∷ xs) zero zero le = omega arith
drop_less f (x ∷ xs) zero (suc m) le =
    let rest : sum_by f (drop m xs) ≤ sum_by f (drop zero xs) = drop_less f xs zero m (omega arith) in
    let whole : sum_by f (x ∷ xs) ≡ f x + sum_by f xs = sum_by-cons f x xs in
    omega (arith, rest, whole)
drop_less f (x ∷ xs) (suc k) zero le = absurd (omega (arith, le))
drop_less f (x ∷ xs) (suc k) (suc m) le = drop_less f xs k m (omega (arith, le))

-- an element with all behind it is no more than what begins before it
got_less : {A : Type 0} (f : A → ℕ) (xs : List A) (m : ℕ) (x : A) → slice_get xs m ≡ Some x
    → f x + sum_by f (drop (suc m) xs) ≤ sum_by f (drop m xs)
got_less f [] m x is = absurd cc
got_less f (y ∷ ys) zero x is =
    let same : y ≡ x = cc in
    let whole : sum_by f (y ∷ ys) ≡ f y + sum_by f ys = sum_by-cons f y ys in
    let own : f y ≡ f x = ap f same in
    omega (arith, whole, own)
got_less f (y ∷ ys) (suc m) x is = got_less f ys m x is

-- the same of what may be there
maybe_less : {A : Type 0} (f : A → ℕ) (xs : List A) (m : ℕ)
    → sum_by f (option_to_list (slice_get xs m)) + sum_by f (drop (suc m) xs) ≤ sum_by f (drop m xs)
maybe_less f [] zero = omega arith
maybe_less f [] (suc m) = omega arith
maybe_less f (y ∷ ys) zero =
    let whole : sum_by f (y ∷ ys) ≡ f y + sum_by f ys = sum_by-cons f y ys in
    let own : sum_by f (y ∷ []) ≡ f y + sum_by f [] = sum_by-cons f y [] in
    omega (arith, whole, own)
maybe_less f (y ∷ ys) (suc m) = maybe_less f ys m

-- elements at ascending places from one on are no more than all from there on
sum_at : (f : ExprTree → ℕ) (cs : List ExprTree) (ns : List ℕ) (k : ℕ) → AllPairs ◌<◌ ns → All (λ n. k < n) ns
    → sum_by f (numbered_clauses cs ns) ≤ sum_by f (drop k cs)
unfolding numbered_clauses
sum_at f cs [] k pairs above = omega arith
sum_at f cs (n ∷ ns) k pairs above =
    let behind : All (λ m. n < m) ns = λ j d within. pairs zero (suc j) d (omega arith) (omega (arith, within)) in
    let others : AllPairs ◌<◌ ns = λ i j d lt within. pairs (suc i) (suc j) d (omega (arith, lt)) (omega (arith, within)) in
    let high : k < n = All-head (λ m. k < m) n ns above in
    let rest : sum_by f (numbered_clauses cs ns) ≤ sum_by f (drop n cs) = sum_at f cs ns n others behind in
    let next : suc (n - 1) ≡ n = omega (arith, high) in
    let own : sum_by f (option_to_list (slice_get cs (n - 1))) + sum_by f (drop n cs) ≤ sum_by f (drop (n - 1) cs) =
    subst (λ m. sum_by f (option_to_list (slice_get cs (n - 1))) + sum_by f (drop m cs) ≤ sum_by f (drop (n - 1) cs)) next (maybe_less f cs (n - 1)) in
    let low : sum_by f (drop (n - 1) cs) ≤ sum_by f (drop k cs) = drop_less f cs k (n - 1) (omega (arith, high)) in
    let both : sum_by f (option_to_list (slice_get cs (n - 1)) ++ numbered_clauses cs ns)
    ≡ sum_by f (option_to_list (slice_get cs (n - 1))) + sum_by f (numbered_clauses cs ns) =
    sum_by-append f (option_to_list (slice_get cs (n - 1))) (numbered_clauses cs ns) in
    let cons : numbered_clauses cs (n ∷ ns) ≡ option_to_list (slice_get cs (n - 1)) ++ numbered_clauses cs ns =
    flat_map-cons (λ m. option_to_list (slice_get cs (m - 1))) n ns in
    let whole : sum_by f (numbered_clauses cs (n ∷ ns)) ≡ sum_by f (option_to_list (slice_get cs (n - 1)) ++ numbered_clauses cs ns) = ap (sum_by f) cons in
    omega (arith, rest, own, low, both, whole)

-- numbers of clauses lie above 0
numbered : (i : Instance) (ns : List ℕ) → AreClauseNumbers i ns → All (λ n. 0 < n) ns
numbered i ns are = All-weaker (λ n. (1 ≤ n) × (n ≤ length i.clauses)) (λ n. 0 < n) (λ n both. omega (arith, both.0)) ns are.there

pub sum_fewer : (f : ExprTree → ℕ) (i : Instance) (ns : List ℕ) → AreClauseNumbers i ns → sum_by f (numbered_clauses i.clauses ns) ≤ sum_by f i.clauses
sum_fewer f i ns are = sum_at f i.clauses ns 0 (AllPairs-from_increasing ns are.ascending) (numbered i ns are)

-- a sum over what elements are made of is one over the elements
sum_flat : {A B : Type 0} (g : B → ℕ) (f : A → List B) (xs : List A) → sum_by g (flat_map f xs) ≡ sum_by (λ x. sum_by g (f x)) xs
sum_flat g f [] = refl
sum_flat g f (x ∷ xs) =
    ap (sum_by g) (flat_map-cons f x xs) ∙ sum_by-append g (f x) (flat_map f xs) ∙ ap (λ n. sum_by g (f x) + n) (sum_flat g f xs)
    ∙ sym (sum_by-cons (λ y. sum_by g (f y)) x xs)

-- ---- what holds of each

pub all_flat : {A B : Type 0} (P : B → Type 0) (f : A → List B) (xs : List A) → All (λ x. All P (f x)) xs → All P (flat_map f xs)
all_flat P f [] h = All-nil P
all_flat P f (x ∷ xs) h =
    subst (All P) (sym (flat_map-cons f x xs))
    (All-append P (f x) (flat_map f xs) (All-head (λ y. All P (f y)) x xs h) (all_flat P f xs (All-tail (λ y. All P (f y)) x xs h)))

all_left : {B : Type 0} (P : B → Type 0) (xs ys : List B) → All P (xs ++ ys) → All P xs
all_left P [] ys h = All-nil P
all_left P (x ∷ xs) ys h = All-cons P x xs (All-head P x (xs ++ ys) h) (all_left P xs ys (All-tail P x (xs ++ ys) h))

all_right : {B : Type 0} (P : B → Type 0) (xs ys : List B) → All P (xs ++ ys) → All P ys
all_right P [] ys h = h
all_right P (x ∷ xs) ys h = all_right P xs ys (All-tail P x (xs ++ ys) h)

pub all_parts : {A B : Type 0} (P : B → Type 0) (f : A → List B) (xs : List A) → All P (flat_map f xs) → All (λ x. All P (f x)) xs
all_parts P f [] h = All-nil (λ x. All P (f x))
all_parts P f (x ∷ xs) h =
    let whole : All P (f x ++ flat_map f xs) = subst (All P) (flat_map-cons f x xs) h in
    All-cons (λ y. All P (f y)) x xs (all_left P (f x) (flat_map f xs) whole) (all_parts P f xs (all_right P (f x) (flat_map f xs) whole))

all_got : {A : Type 0} (P : A → Type 0) (xs : List A) (k : ℕ) → All P xs → All P (option_to_list (slice_get xs k))
all_got P [] zero h = All-nil P
all_got P [] (suc k) h = All-nil P
all_got P (x ∷ xs) zero h = All-cons P x [] (All-head P x xs h) (All-nil P)
all_got P (x ∷ xs) (suc k) h = all_got P xs k (All-tail P x xs h)

each_at : {A : Type 0} (P : A → Type 0) (xs : List A) (ns : List ℕ) → All P xs → All (λ n. All P (option_to_list (slice_get xs (n - 1)))) ns
each_at P xs [] h = All-nil (λ n. All P (option_to_list (slice_get xs (n - 1))))
each_at P xs (n ∷ ns) h = All-cons (λ m. All P (option_to_list (slice_get xs (m - 1)))) n ns (all_got P xs (n - 1) h) (each_at P xs ns h)

pub all_at : (P : ExprTree → Type 0) (cs : List ExprTree) (ns : List ℕ) → All P cs → All P (numbered_clauses cs ns)
unfolding numbered_clauses
all_at P cs ns h = all_flat P (λ n. option_to_list (slice_get cs (n - 1))) ns (each_at P cs ns h)

-- ---- the greatest absolute value

fold_most : (m a : ℤ) (xs : List ℤ) → IsTrue (int_le a m) → All (λ x. IsTrue (int_le (absolute_of x) m)) xs
    → IsTrue (int_le (fold int_max a (map absolute_of xs)) m)
fold_most m a [] low h = low
fold_most m a (x ∷ xs) low h =
    let own : IsTrue (int_le (absolute_of x) m) = All-head (λ y. IsTrue (int_le (absolute_of y) m)) x xs h in
    let both : IsTrue (int_le (int_max a (absolute_of x)) m) = grind (arith, ints, low, own) in
    fold_most m (int_max a (absolute_of x)) xs both (All-tail (λ y. IsTrue (int_le (absolute_of y) m)) x xs h)

fold_grows : (a : ℤ) (xs : List ℤ) → IsTrue (int_le a (fold int_max a (map absolute_of xs)))
fold_grows a [] = grind (arith, ints)
fold_grows a (x ∷ xs) =
    let more : IsTrue (int_le (int_max a (absolute_of x)) (fold int_max (int_max a (absolute_of x)) (map absolute_of xs))) = fold_grows (int_max a (absolute_of x)) xs in
    grind (arith, ints, more)

fold_least : (a : ℤ) (xs : List ℤ) → All (λ x. IsTrue (int_le (absolute_of x) (fold int_max a (map absolute_of xs)))) xs
fold_least a [] = All-nil (λ x. IsTrue (int_le (absolute_of x) a))
fold_least a (x ∷ xs) =
    let b : ℤ = int_max a (absolute_of x) in
    let more : IsTrue (int_le (int_max a (absolute_of x)) (fold int_max (int_max a (absolute_of x)) (map absolute_of xs))) = fold_grows (int_max a (absolute_of x)) xs in
    All-cons (λ y. IsTrue (int_le (absolute_of y) (fold int_max (int_max a (absolute_of x)) (map absolute_of xs)))) x xs (grind (arith, ints, more)) (fold_least (int_max a (absolute_of x)) xs)

-- numbers of which each is bounded by the greatest of others
pub farthest_less : (xs ys : List ℤ) → ((P : ℤ → Type 0) → All P ys → All P xs) → IsTrue (int_le (farthest_of xs) (farthest_of ys))
unfolding farthest_of
farthest_less xs ys among =
    fold_most (fold int_max (pos 0) (map absolute_of ys)) (pos 0) xs (fold_grows (pos 0) ys)
    (among (λ x. IsTrue (int_le (absolute_of x) (fold int_max (pos 0) (map absolute_of ys)))) (fold_least (pos 0) ys))

all_map : {A B : Type 0} (P : B → Type 0) (f : A → B) (xs : List A) → All (λ x. P (f x)) xs → All P (map f xs)
all_map P f [] h = All-nil P
all_map P f (x ∷ xs) h = All-cons P (f x) (map f xs) (All-head (λ y. P (f y)) x xs h) (all_map P f xs (All-tail (λ y. P (f y)) x xs h))

all_unmap : {A B : Type 0} (P : B → Type 0) (f : A → B) (xs : List A) → All P (map f xs) → All (λ x. P (f x)) xs
all_unmap P f [] h = All-nil (λ x. P (f x))
all_unmap P f (x ∷ xs) h = All-cons (λ y. P (f y)) x xs (All-head P (f x) (map f xs) h) (all_unmap P f xs (All-tail P (f x) (map f xs) h))

-- the numbers of the nodes that expressions meet
far_ends : Mode → Env → List ExprTree → List ℤ
far_ends mode env es = map farthest_end (flat_map (reaches_at mode) (flat_map (met mode env) es))

among_ends : (mode : Mode) (env : Env) (cs goals : List ExprTree) (ns : List ℕ) (P : ℤ → Type 0)
    → All P (far_ends mode env (cs ++ goals)) → All P (far_ends mode env (numbered_clauses cs ns ++ []))
unfolding far_ends
among_ends mode env cs goals ns P h =
    let Q : Met → Type 0 = λ m. All (λ r. P (farthest_end r)) (reaches_at mode m) in
    let nodes = all_parts (λ e. P (farthest_end e)) (reaches_at mode) (flat_map (met mode env) (cs ++ goals)) (all_unmap P farthest_end (flat_map (reaches_at mode) (flat_map (met mode env) (cs ++ goals))) h) in
    let clauses = all_left (λ e. All Q (met mode env e)) cs goals (all_parts Q (met mode env) (cs ++ goals) nodes) in
    let few : All (λ e. All Q (met mode env e)) (numbered_clauses cs ns ++ []) = All-append (λ e. All Q (met mode env e)) (numbered_clauses cs ns) [] (all_at (λ e. All Q (met mode env e)) cs ns clauses) (All-nil (λ e. All Q (met mode env e))) in
    all_map P farthest_end (flat_map (reaches_at mode) (flat_map (met mode env) (numbered_clauses cs ns ++ [])))
    (all_flat (λ r. P (farthest_end r)) (reaches_at mode) (flat_map (met mode env) (numbered_clauses cs ns ++ [])) (all_flat Q (met mode env) (numbered_clauses cs ns ++ []) few))

-- ---- the measures of fewer clauses

-- the expressions of an objective
goal_trees : Instance → List ExprTree
goal_trees i = option_to_list (option_map (λ goal. goal.1) i.goal)

sum_few : (f : ExprTree → ℕ) (i : Instance) (ns : List ℕ) → AreClauseNumbers i ns
    → sum_by f (numbered_clauses i.clauses ns ++ []) ≤ sum_by f (i.clauses ++ goal_trees i)
sum_few f i ns are =
    let few : sum_by f (numbered_clauses i.clauses ns ++ []) ≡ sum_by f (numbered_clauses i.clauses ns) + sum_by f [] = sum_by-append f (numbered_clauses i.clauses ns) [] in
    let all : sum_by f (i.clauses ++ goal_trees i) ≡ sum_by f i.clauses + sum_by f (goal_trees i) = sum_by-append f i.clauses (goal_trees i) in
    let less : sum_by f (numbered_clauses i.clauses ns) ≤ sum_by f i.clauses = sum_fewer f i ns are in
    let none : sum_by f [] ≡ 0 = refl in
    omega (arith, few, all, less, none)

pub met_fewer : (mode : Mode) (i : Instance) (ns : List ℕ) → AreClauseNumbers i ns
    → size_of (met_instance mode (restricted i ns)) ≤ size_of (met_instance mode i)
unfolding met_instance met_in numbered_clauses goal_trees
met_fewer mode i ns are =
    let env : Env = clause_env i in
    let few : length (flat_map (met mode env) (numbered_clauses i.clauses ns ++ [])) ≡ sum_by (λ e. length (met mode env e)) (numbered_clauses i.clauses ns ++ []) =
    length-flat_map (met mode env) (numbered_clauses i.clauses ns ++ []) in
    let all : length (flat_map (met mode env) (i.clauses ++ goal_trees i)) ≡ sum_by (λ e. length (met mode env e)) (i.clauses ++ goal_trees i) =
    length-flat_map (met mode env) (i.clauses ++ goal_trees i) in
    let less = sum_few (λ e. length (met mode env e)) i ns are in
    let out : length (flat_map (met mode env) (numbered_clauses i.clauses ns ++ [])) ≤ length (flat_map (met mode env) (i.clauses ++ goal_trees i)) =
    omega (arith, few, all, less) in
    out

pub weight_fewer : (mode : Mode) (i : Instance) (ns : List ℕ) → AreClauseNumbers i ns
    → weight_of mode (met_instance mode (restricted i ns)) ≤ weight_of mode (met_instance mode i)
unfolding met_instance met_in weight_of numbered_clauses goal_trees
weight_fewer mode i ns are =
    let env : Env = clause_env i in
    let few : sum_by (weight_at mode) (flat_map (met mode env) (numbered_clauses i.clauses ns ++ [])) ≡ sum_by (λ e. sum_by (weight_at mode) (met mode env e)) (numbered_clauses i.clauses ns ++ []) =
    sum_flat (weight_at mode) (met mode env) (numbered_clauses i.clauses ns ++ []) in
    let all : sum_by (weight_at mode) (flat_map (met mode env) (i.clauses ++ goal_trees i)) ≡ sum_by (λ e. sum_by (weight_at mode) (met mode env e)) (i.clauses ++ goal_trees i) =
    sum_flat (weight_at mode) (met mode env) (i.clauses ++ goal_trees i) in
    let less = sum_few (λ e. sum_by (weight_at mode) (met mode env e)) i ns are in
    let out : sum_by (weight_at mode) (flat_map (met mode env) (numbered_clauses i.clauses ns ++ []))
    ≤ sum_by (weight_at mode) (flat_map (met mode env) (i.clauses ++ goal_trees i)) =
    omega (arith, few, all, less) in
    out

pub reach_fewer : (mode : Mode) (i : Instance) (ns : List ℕ)
    → IsTrue (int_le (farthest_reach mode (met_instance mode (restricted i ns))) (farthest_reach mode (met_instance mode i)))
unfolding met_instance met_in farthest_reach numbered_clauses far_ends goal_trees
reach_fewer mode i ns =
    farthest_less (far_ends mode (clause_env i) (numbered_clauses i.clauses ns ++ [])) (far_ends mode (clause_env i) (i.clauses ++ goal_trees i))
    (among_ends mode (clause_env i) i.clauses (goal_trees i) ns)

pub measures_fewer : (mode : Mode) (i : Instance) (ns : List ℕ) → AreClauseNumbers i ns → MeasuresAtMost mode (restricted i ns) i
unfolding instance_size instance_weight instance_reach
measures_fewer mode i ns are = record {
  size = let less = met_fewer mode i ns are in omega (arith, less);
  reach = reach_fewer mode i ns;
  weight = let less = weight_fewer mode i ns are in omega (arith, less);
}

-- ---- limits

-- nothing is said of fewer cells, nearer reach and less weight, where nothing is said of more
quiet : (s s' r r' w w' : Bool) (x y z : Refusal) → (s' ≡ true → s ≡ true) → (r' ≡ true → r ≡ true) → (w' ≡ true → w ≡ true)
    → (weight weight' : ℕ) → nat_lt MOST_WEIGHT weight ≡ w → nat_lt MOST_WEIGHT weight' ≡ w'
    → or_weight ((if s then x ∷ [] else []) ++ (if r then y ∷ [] else [])) weight ≡ []
    → or_weight ((if s' then x ∷ [] else []) ++ (if r' then y ∷ [] else [])) weight' ≡ []
unfolding or_weight
quiet true s' r r' w w' x y z hs hr hw weight weight' is is' none = absurd cc
quiet false s' true r' w w' x y z hs hr hw weight weight' is is' none = absurd cc
quiet false true false r' w w' x y z hs hr hw weight weight' is is' none = let bad : false ≡ true = hs refl in absurd cc
quiet false false false true w w' x y z hs hr hw weight weight' is is' none = let bad : false ≡ true = hr refl in absurd cc
quiet false false false false true w' x y z hs hr hw weight weight' is is' none =
    let bad : over_limit Limit.Weight ∷ [] ≡ [] = rw is at none in absurd cc
quiet false false false false false true x y z hs hr hw weight weight' is is' none = let bad : false ≡ true = hw refl in absurd cc
quiet false false false false false false x y z hs hr hw weight weight' is is' none = rw is' refl

pub limits_fewer : (mode : Mode) (i : Instance) (ns : List ℕ) → AreClauseNumbers i ns → instance_limits mode i ≡ [] → instance_limits mode (restricted i ns) ≡ []
unfolding instance_limits limits_passed instance_weight
limits_fewer mode i ns are none =
    let size = met_fewer mode i ns are in
    let reach = reach_fewer mode i ns in
    let weight = weight_fewer mode i ns are in
    quiet _ _ _ _ _ _ _ _ (over_limit Limit.Weight) (λ h. grind (arith, size, h)) (λ h. grind (arith, ints, reach, h)) (λ h. grind (arith, weight, h)) _ _ refl refl none

-- ---- faults

none_left : {A : Type 0} (xs ys : List A) → xs ++ ys ≡ [] → xs ≡ []
none_left [] ys h = refl
none_left (x ∷ xs) ys h = absurd cc

none_right : {A : Type 0} (xs ys : List A) → xs ++ ys ≡ [] → ys ≡ []
none_right [] ys h = h
none_right (x ∷ xs) ys h = absurd cc

none_both : {A : Type 0} (xs ys : List A) → xs ++ [] ≡ [] → ys ≡ [] → xs ++ ys ≡ []
none_both xs ys one other = ap (λ zs. xs ++ zs) other ∙ one

faults_head : (context : Context) (e : ExprTree) (es : List ExprTree) → clause_faults context true (e ∷ es) ≡ [] → clause_faults context true (e ∷ []) ≡ []
unfolding clause_faults
faults_head context e es none = ap (λ fs. fs ++ []) (none_left _ (clause_faults context true es) none)

faults_tail : (context : Context) (e : ExprTree) (es : List ExprTree) → clause_faults context true (e ∷ es) ≡ [] → clause_faults context true es ≡ []
unfolding clause_faults
faults_tail context e es none = none_right _ (clause_faults context true es) none

faults_cons : (context : Context) (e : ExprTree) (es : List ExprTree) → clause_faults context true (e ∷ []) ≡ [] → clause_faults context true es ≡ [] → clause_faults context true (e ∷ es) ≡ []
unfolding clause_faults
faults_cons context e es one others = none_both _ (clause_faults context true es) one others

-- each is without a fault
faultless_each : (context : Context) (es : List ExprTree) → clause_faults context true es ≡ [] → All (λ e. clause_faults context true (e ∷ []) ≡ []) es
faultless_each context [] none = All-nil (λ e. clause_faults context true (e ∷ []) ≡ [])
faultless_each context (e ∷ es) none = All-cons (λ d. clause_faults context true (d ∷ []) ≡ []) e es (faults_head context e es none) (faultless_each context es (faults_tail context e es none))

faultless_all : (context : Context) (es : List ExprTree) → All (λ e. clause_faults context true (e ∷ []) ≡ []) es → clause_faults context true es ≡ []
unfolding clause_faults
faultless_all context [] h = refl
faultless_all context (e ∷ es) h =
    faults_cons context e es (All-head (λ d. clause_faults context true (d ∷ []) ≡ []) e es h) (faultless_all context es (All-tail (λ d. clause_faults context true (d ∷ []) ≡ []) e es h))

pub closed_fewer : (i : Instance) (ns : List ℕ) → IsClosed i → IsClosed (restricted i ns)
unfolding instance_faults
closed_fewer i ns closed =
    let context : Context = context_of (clause_env i) in
    let own : clause_faults context true i.clauses ≡ [] = none_left (clause_faults context true i.clauses) (flat_map (λ goal. goal_faults context goal.1) (option_to_list i.goal)) closed.faultless in
    let few : clause_faults context true (numbered_clauses i.clauses ns) ≡ [] = faultless_all context (numbered_clauses i.clauses ns) (all_at (λ e. clause_faults context true (e ∷ []) ≡ []) i.clauses ns (faultless_each context i.clauses own)) in
    record {
      distinct = closed.distinct;
      apart = closed.apart;
      values = closed.values;
      decided = closed.decided;
      of_types = closed.of_types;
      faultless = ap (λ fs. fs ++ []) few;
    }
