-- Nodes that are near and light: what they reach is within the limit, and none weighs more than so much.
use Rattle.std.proofs.Common.{◌≡◌, ℕ, suc, ◌+◌, ◌*◌, ◌≤◌, Bool, true, false, cond, ◌&&◌, List, [], ◌∷◌, ◌++◌, length, map, ℤ, pos, refl, ap, ◌∙◌, arith, int_le, int_lt, nat_le}
use Rattle.std.specs.Prelude.{fold, flat_map}
use Rattle.std.specs.Int.{int_max}
use Rattle.std.specs.List.{list_all}
use Rattle.std.proofs.lemmas.Bool.{and_from, and_parts, false_from_ne_true, leb-true}
use Rattle.std.proofs.lemmas.Int.{ints}
use Rattle.std.proofs.lemmas.List.{map-append}
use Rattle.std.proofs.lemmas.List.Folds.{list_all-append}
use Rattle.std.proofs.lemmas.List.Sums.{sum_by-append, sum_by-cons}
use Rattle.ep_base.specs.Intervals.{Interval, farthest_end}
use Rattle.ep_base.specs.Numbers.{absolute_of}
use Rattle.ep_base.specs.Reads.{MOST_NUMBER}
use Rattle.ep_tree.specs.Environments.{Env}
use Rattle.ep_tree.specs.Measures.{Met, farthest_of, farthest_reach, reaches_at, weight_at, weight_of}
use Rattle.ep_tree.specs.declared.values.Mode.{Mode}

-- whether a number is within the limit
abbrev pub near : ℤ → Bool
near x = int_le (absolute_of x) MOST_NUMBER

-- whether the ends of intervals are
abbrev pub are_near : List Interval → Bool
are_near is = list_all near (map farthest_end is)

-- whether what a node reaches is within the limit, and it weighs at most so much
abbrev pub fine : ℕ → Met → Bool
fine m node = are_near (reaches_at Mode.Relational node) && nat_le (weight_at Mode.Relational node) m

-- the same of each of some nodes
abbrev pub all_fine : ℕ → List Met → Bool
all_fine m nodes = list_all (fine m) nodes

-- ---- joined

pub fine_joined : (m : ℕ) (one other : List Met) → all_fine m one ≡ true → all_fine m other ≡ true → all_fine m (one ++ other) ≡ true
fine_joined m one other h k = list_all-append (fine m) one other ∙ and_from _ _ h k

-- what is met in each of some environments
pub fine_in_each : (m : ℕ) (meets : Env → List Met) (enter : ℤ → Env) (P : ℤ → Bool) → ((x : ℤ) → P x ≡ true → all_fine m (meets (enter x)) ≡ true)
    → (xs : List ℤ) → list_all P xs ≡ true → all_fine m (flat_map meets (map enter xs)) ≡ true
fine_in_each m meets enter P each [] all = refl
fine_in_each m meets enter P each (x ∷ xs) all =
    let both = and_parts (P x) (list_all P xs) all in
    fine_joined m (meets (enter x)) (flat_map meets (map enter xs)) (each x both.0) (fine_in_each m meets enter P each xs both.1)

-- ---- what all nodes reach

chosen_near : (t : Bool) (a b : ℤ) → int_le a MOST_NUMBER ≡ true → int_le b MOST_NUMBER ≡ true → int_le (cond t a b) MOST_NUMBER ≡ true
chosen_near true a b h k = h
chosen_near false a b h k = k

folded_near : (a : ℤ) (xs : List ℤ) → int_le a MOST_NUMBER ≡ true → list_all near xs ≡ true → int_le (fold int_max a (map absolute_of xs)) MOST_NUMBER ≡ true
folded_near a [] h all = h
folded_near a (x ∷ xs) h all =
    let both = and_parts (near x) (list_all near xs) all in
    folded_near (int_max a (absolute_of x)) xs (chosen_near (int_lt (absolute_of x) a) a (absolute_of x) h both.0) both.1

reaches_near : (m : ℕ) (nodes : List Met) → all_fine m nodes ≡ true → list_all near (map farthest_end (flat_map (reaches_at Mode.Relational) nodes)) ≡ true
reaches_near m [] all = refl
reaches_near m (node ∷ nodes) all =
    let both = and_parts (fine m node) (all_fine m nodes) all in
    let own = reaches_at Mode.Relational node in
    let others = flat_map (reaches_at Mode.Relational) nodes in
    ap (list_all near) (map-append farthest_end own others)
    ∙ list_all-append near (map farthest_end own) (map farthest_end others)
    ∙ and_from _ _ (and_parts (are_near own) (nat_le (weight_at Mode.Relational node) m) both.0).0 (reaches_near m nodes both.1)

not_past : (a b : ℤ) → int_le a b ≡ true → int_lt b a ≡ false
not_past a b h = false_from_ne_true _ (λ t. absurd (omega (arith, ints, h, t)))

-- the reach of all of them is within the limit
pub reach_within : (m : ℕ) (nodes : List Met) → all_fine m nodes ≡ true → int_lt MOST_NUMBER (farthest_reach Mode.Relational nodes) ≡ false
unfolding farthest_reach farthest_of
reach_within m nodes all =
    not_past (fold int_max (pos 0) (map absolute_of (map farthest_end (flat_map (reaches_at Mode.Relational) nodes)))) MOST_NUMBER (folded_near (pos 0) (map farthest_end (flat_map (reaches_at Mode.Relational) nodes)) refl (reaches_near m nodes all))

-- ---- what all nodes weigh

one_more : (k m : ℕ) → suc k * m ≡ m + k * m
one_more k m = grind arith

pub weight_within : (m : ℕ) (nodes : List Met) → all_fine m nodes ≡ true → weight_of Mode.Relational nodes ≤ length nodes * m
unfolding weight_of
weight_within m [] all = omega arith
weight_within m (node ∷ nodes) all =
    let both = and_parts (fine m node) (all_fine m nodes) all in
    let light = (and_parts (are_near (reaches_at Mode.Relational node)) (nat_le (weight_at Mode.Relational node) m) both.0).1 in
    let own : weight_at Mode.Relational node ≤ m = leb-true (weight_at Mode.Relational node) m light in
    let others = weight_within m nodes both.1 in
    let cut = sum_by-cons (weight_at Mode.Relational) node nodes in
    let more = one_more (length nodes) m in
    omega (arith, own, others, cut, more)

pub weight_joined : (one other : List Met) → weight_of Mode.Relational (one ++ other) ≡ weight_of Mode.Relational one + weight_of Mode.Relational other
unfolding weight_of
weight_joined one other = sum_by-append (weight_at Mode.Relational) one other
