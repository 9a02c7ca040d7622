-- Where what is met with the cells passes no limit, what is met with the values passes none.
use Rattle.std.specs.Prelude.{◌≡◌, ℕ, ◌+◌, ◌≤◌, ◌≤ℤ◌, List, [], ◌∷◌, ◌++◌, map, length, ℤ, pos, Bool, true, false, if◌then◌else◌, nat_lt, int_lt, fold, Some, All, flat_map, Option, option_map, option_to_list, sum_by, refl}
use Rattle.std.proofs.Common.{arith, subst, sym, inl, inr}
use Rattle.std.proofs.lemmas.Bool.{or_from}
use Rattle.std.proofs.lemmas.Bool.Decides.{nat_tests}
use Rattle.std.proofs.lemmas.Grind.{flat_map-append}
use Rattle.std.proofs.lemmas.Int.{ints}
use Rattle.std.proofs.lemmas.List.{length-append}
use Rattle.std.proofs.lemmas.List.Elements.{All-cons, All-nil}
use Rattle.std.specs.Int.{int_max}
use Rattle.std.specs.List.{list_any}
use Rattle.ep_base.specs.Intervals.{Interval, LiesIn, absolute_interval, farthest_end}
use Rattle.ep_base.specs.Numbers.{absolute_of}
use Rattle.ep_base.specs.Reads.{MOST_NUMBER, is_too_far}
use Rattle.ep_base.specs.declared.operators.Limit.{Limit}
use Rattle.ep_base.specs.declared.operators.Sense.{Sense}
use Rattle.ep_tree_laws.proofs.Agreeing.{meets_as_many}
use Rattle.ep_tree_laws.proofs.Deciding.{left_none, right_none}
use Rattle.ep_tree_laws.proofs.Intervals.{absolute_lies}
use Rattle.ep_tree.proofs.TypedParts.{truths_differ}
use Rattle.ep_tree.specs.Agreement.{Agreed}
use Rattle.ep_tree.specs.Binding.{Instance, met_in, over_limit}
use Rattle.ep_tree.specs.Closed.{IsClosed, clause_env, instance_faults}
use Rattle.ep_tree.specs.Environments.{Env, context_of}
use Rattle.ep_tree.specs.Faults.{Fault, clause_faults, faults, goal_faults, type_fault}
use Rattle.ep_tree.specs.Limits.{MOST_SIZE, limits_of_values, numbers_at}
use Rattle.ep_tree.specs.Measures.{Met, farthest_of, farthest_reach, met, reaches_at, size_of}
use Rattle.ep_tree.specs.Solutions.{Assigned, Fits, Found, cell_count, limits_passed, met_instance, under}
use Rattle.ep_tree.specs.Trees.{ExprTree, place_of}
use Rattle.ep_tree.specs.Types.{Context, from_one, gives, is_boolean, is_integer, judge}
use Rattle.ep_tree.specs.declared.values.Mode.{Mode}
use Rattle.ep_reach_laws.specs.Reaches.{EachLiesInOne, LieInReaches, LiesInOne, PassesNoLimit}
use Rattle.ep_reach_laws.proofs.AlikeEnvironments.{Alike}
use Rattle.ep_reach_laws.proofs.Found.{found_alike}
use Rattle.ep_reach_laws.proofs.Nodes.{each_both, numbers_lie_in_reaches}

-- ---- near intervals and numbers

-- each end of some intervals is as near to 0 as a number says
abbrev AllNear : ℤ → List Interval → Type 0
AllNear m [] = Unit {0}
AllNear m (i ∷ is) = (farthest_end i ≤ℤ m) × AllNear m is

near_first : (m : ℤ) (is js : List Interval) → AllNear m (is ++ js) → AllNear m is
near_first m [] js h = tt
near_first m (i ∷ is) js h = (h.0, near_first m is js h.1)

near_later : (m : ℤ) (is js : List Interval) → AllNear m (is ++ js) → AllNear m js
near_later m [] js h = h
near_later m (i ∷ is) js h = near_later m is js h.1

not_past : (m a : ℤ) → int_lt m a ≡ false → a ≤ℤ m
not_past m a h = grind (arith, ints, h)

past_not : (m a : ℤ) → a ≤ℤ m → int_lt m a ≡ false
past_not m a h = grind (arith, ints, h)

greater_near : (m a b : ℤ) → int_max a b ≤ℤ m → (a ≤ℤ m) × (b ≤ℤ m)
greater_near m a b h = (grind (arith, ints, h), grind (arith, ints, h))

below_absolute : (a m : ℤ) → absolute_of a ≤ℤ m → a ≤ℤ m
unfolding absolute_of
below_absolute a m h = grind (arith, ints, h)

near_all : (m a : ℤ) (is : List Interval) → int_lt m (fold int_max a (map absolute_of (map farthest_end is))) ≡ false → (a ≤ℤ m) × AllNear m is
near_all m a [] h = (not_past m a h, tt)
near_all m a (i ∷ is) h =
    let r : _ = near_all m (int_max a (absolute_of (farthest_end i))) is h in
    let q : _ = greater_near m a (absolute_of (farthest_end i)) r.0 in
    (q.0, (below_absolute (farthest_end i) m q.1, r.1))

up : {x y z : ℤ} → x ≤ℤ y → y ≤ℤ z → x ≤ℤ z
up h k = omega (arith, ints)

one_near : (m n : ℤ) (i : Interval) → LiesIn n i → farthest_end i ≤ℤ m → absolute_of n ≤ℤ m
unfolding absolute_interval
one_near m n i h near = up (absolute_lies n i h).1 near

some_near : (m n : ℤ) (is : List Interval) → LiesInOne n is → AllNear m is → absolute_of n ≤ℤ m
some_near m n [] h near = absurd h
some_near m n (i ∷ is) (inl h) near = one_near m n i h near.0
some_near m n (i ∷ is) (inr h) near = some_near m n is h near.1

none_far : (ns : List ℤ) (is : List Interval) → EachLiesInOne ns is → AllNear MOST_NUMBER is → list_any is_too_far ns ≡ false
unfolding is_too_far
none_far [] is h near = refl
none_far (n ∷ ns) is h near = or_from (is_too_far n) (list_any is_too_far ns) (past_not MOST_NUMBER (absolute_of n) (some_near MOST_NUMBER n is h.0 near)) (none_far ns is h.1 near)

-- ---- what is met

numbers_in_reaches : (mode : Mode) (ms ns : List Met) → LieInReaches mode ms ns → EachLiesInOne (flat_map (numbers_at mode) ns) (flat_map (reaches_at mode) ms)
numbers_in_reaches mode [] [] h = tt
numbers_in_reaches mode [] (n ∷ ns) h = absurd h
numbers_in_reaches mode (m ∷ ms) [] h = absurd h
numbers_in_reaches mode (m ∷ ms) (n ∷ ns) h =
    each_both (numbers_at mode n) (flat_map (numbers_at mode) ns) (reaches_at mode m) (flat_map (reaches_at mode) ms) h.0 (numbers_in_reaches mode ms ns h.1)

-- so many nodes are no more than the limit, and each reach there is near
record Near (mode : Mode) (before : ℕ) (ms : List Met) : Type 0 where
  size : before + size_of ms ≤ MOST_SIZE
  reach : AllNear MOST_NUMBER (flat_map (reaches_at mode) ms)

no_refusal : (s f : Bool) → (if s then over_limit Limit.Size ∷ [] else []) ++ (if f then over_limit Limit.Reach ∷ [] else []) ≡ [] → (s ≡ false) × (f ≡ false)
no_refusal true f h = absurd cc
no_refusal false true h = absurd cc
no_refusal false false h = (refl, refl)

no_limit : (s f : Bool) → s ≡ false → f ≡ false → ◌≡◌ {A = List Limit} ((if s then Limit.Size ∷ [] else []) ++ (if f then Limit.Reach ∷ [] else [])) []
no_limit true f h k = truths_differ (sym h)
no_limit false true h k = truths_differ (sym k)
no_limit false false h k = refl

small_from : (n most : ℕ) → nat_lt most n ≡ false → n ≤ most
small_from n most h = grind (arith, nat_tests, h)

small_to : (n most : ℕ) → n ≤ most → nat_lt most n ≡ false
small_to n most h = grind (arith, nat_tests, h)

near_from : (mode : Mode) (before : ℕ) (ms : List Met) → limits_passed mode before ms ≡ [] → Near mode before ms
unfolding limits_passed farthest_reach farthest_of
near_from mode before ms h =
    let q : _ = no_refusal (nat_lt MOST_SIZE (before + size_of ms)) (int_lt MOST_NUMBER (farthest_reach mode ms)) h in
    record { size = small_from (before + size_of ms) MOST_SIZE q.0; reach = (near_all MOST_NUMBER (pos 0) (flat_map (reaches_at mode) ms) q.1).1 }

passes_from : (mode : Mode) (cells values : Env) (e : ExprTree) → Agreed cells values e → (before : ℕ) → Near mode before (met mode cells e)
    → limits_of_values mode before (met mode values e) ≡ []
unfolding limits_of_values
passes_from mode cells values e agreed before near =
    no_limit (nat_lt MOST_SIZE (before + size_of (met mode values e))) (list_any is_too_far (flat_map (numbers_at mode) (met mode values e)))
    (small_to (before + size_of (met mode values e)) MOST_SIZE (subst (λ n. before + n ≤ MOST_SIZE) (meets_as_many mode cells values e agreed) near.size))
    (none_far (flat_map (numbers_at mode) (met mode values e)) (flat_map (reaches_at mode) (met mode cells e))
    (numbers_in_reaches mode (met mode cells e) (met mode values e) (numbers_lie_in_reaches mode cells values e agreed)) near.reach)

-- Where what is met with the cells passes no limit, neither does what is met with the values.
pub limits_are_kept : (mode : Mode) (cells values : Env) (e : ExprTree) → Agreed cells values e → (before : ℕ) → limits_passed mode before (met mode cells e) ≡ []
    → limits_of_values mode before (met mode values e) ≡ []
limits_are_kept mode cells values e agreed before h = passes_from mode cells values e agreed before (near_from mode before (met mode cells e) h)

-- ---- clauses and an objective

less_first : (before m n most : ℕ) → before + (m + n) ≤ most → 0 + m ≤ most
less_first before m n most h = omega (arith, h)

less_later : (before m n most : ℕ) → before + (m + n) ≤ most → 0 + n ≤ most
less_later before m n most h = omega (arith, h)

near_part : (mode : Mode) (before : ℕ) (ms ns : List Met) → Near mode before (ms ++ ns) → Near mode 0 ms × Near mode 0 ns
near_part mode before ms ns near =
    let size : before + (length ms + length ns) ≤ MOST_SIZE = subst (λ n. before + n ≤ MOST_SIZE) (length-append ms ns) near.size in
    let reach : AllNear MOST_NUMBER (flat_map (reaches_at mode) ms ++ flat_map (reaches_at mode) ns) = subst (AllNear MOST_NUMBER) (flat_map-append (reaches_at mode) ms ns) near.reach in (
      record { size = less_first before (length ms) (length ns) MOST_SIZE size; reach = near_first MOST_NUMBER (flat_map (reaches_at mode) ms) (flat_map (reaches_at mode) ns) reach },
      record { size = less_later before (length ms) (length ns) MOST_SIZE size; reach = near_later MOST_NUMBER (flat_map (reaches_at mode) ms) (flat_map (reaches_at mode) ns) reach },
    )

clauses_pass : (mode : Mode) (cells values : Env) → Alike cells values → (es : List ExprTree) → clause_faults (context_of cells) true es ≡ []
    → Near mode 0 (flat_map (met mode cells) es) → All (λ e. limits_of_values mode 0 (met mode values e) ≡ []) es
unfolding clause_faults
clauses_pass mode cells values a [] none near = All-nil (λ e. limits_of_values mode 0 (met mode values e) ≡ [])
clauses_pass mode cells values a (e ∷ es) none near =
    let c : Context = context_of cells in
    let own : List Fault = type_fault (place_of e) (from_one (judge c e) (λ t. gives t (is_boolean t))) in
    let q : _ = near_part mode 0 (met mode cells e) (flat_map (met mode cells) es) near in
    All-cons (λ x. limits_of_values mode 0 (met mode values x) ≡ []) e es
    (passes_from mode cells values e
    (record { agree = a.agree; typed = a.typed; faultless = right_none own (faults c true e) (left_none (own ++ faults c true e) (clause_faults c true es) none) }) 0 q.0)
    (clauses_pass mode cells values a es (right_none (own ++ faults c true e) (clause_faults c true es) none) q.1)

goal_passes : (mode : Mode) (cells values : Env) → Alike cells values → (goal : Option (Sense × ExprTree))
    → flat_map (λ g. goal_faults (context_of cells) g.1) (option_to_list goal) ≡ []
    → Near mode 0 (flat_map (met mode cells) (option_to_list (option_map (λ g. g.1) goal)))
    → (sense : Sense) (e : ExprTree) → goal ≡ Some (sense, e) → limits_of_values mode 0 (met mode values e) ≡ []
unfolding goal_faults
goal_passes mode cells values a goal none near sense e is =
    let c : Context = context_of cells in
    let own : List Fault = type_fault (place_of e) (from_one (judge c e) (λ t. gives t (is_integer t))) in
    let none_stated : (own ++ faults c true e) ++ [] ≡ [] = subst (λ o. flat_map (λ g. goal_faults c g.1) (option_to_list o) ≡ []) is none in
    let near_stated : Near mode 0 (met mode cells e ++ []) = subst (λ o. Near mode 0 (flat_map (met mode cells) (option_to_list (option_map (λ g. g.1) o)))) is near in
    passes_from mode cells values e
    (record { agree = a.agree; typed = a.typed; faultless = right_none own (faults c true e) (left_none (own ++ faults c true e) [] none_stated) }) 0
    (near_part mode 0 (met mode cells e) [] near_stated).0

-- Where an instance is within the limits of size and of reach, no values that fit pass one.
pub fitting_passes_no_limit : (mode : Mode) (i : Instance) → IsClosed i → limits_passed mode (sum_by (λ f. cell_count f.indices) i.finds) (met_instance mode i) ≡ []
    → (a : Assigned) (found : Found) → Fits i a found → PassesNoLimit mode (under i found) i
unfolding met_instance met_in instance_faults
fitting_passes_no_limit mode i closed within a found fits =
    let cells : Env = clause_env i in
    let goals : List ExprTree = option_to_list (option_map (λ g. g.1) i.goal) in
    let cs : List Met = flat_map (met mode cells) i.clauses in
    let gs : List Met = flat_map (met mode cells) goals in
    let count : ℕ = sum_by (λ f. cell_count f.indices) i.finds in
    let both : limits_passed mode count (cs ++ gs) ≡ [] = subst (λ ms. limits_passed mode count ms ≡ []) (flat_map-append (met mode cells) i.clauses goals) within in
    let q : _ = near_part mode count cs gs (near_from mode count (cs ++ gs) both) in
    let alike : Alike cells (under i found) = found_alike i closed a found fits in
    let c : Context = context_of cells in
    record {
      clauses = clauses_pass mode cells (under i found) alike i.clauses
          (left_none (clause_faults c true i.clauses) (flat_map (λ g. goal_faults c g.1) (option_to_list i.goal)) closed.faultless) q.0;
      goal = goal_passes mode cells (under i found) alike i.goal
          (right_none (clause_faults c true i.clauses) (flat_map (λ g. goal_faults c g.1) (option_to_list i.goal)) closed.faultless) q.1;
    }
