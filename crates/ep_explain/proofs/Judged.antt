-- What judging the clauses of some numbers says of them.
use Rattle.std.proofs.Common.{◌≡◌, ℕ, true, zero, suc, ◌+◌, ◌-◌, ◌<◌, ◌≤◌, List, [], ◌∷◌, ◌++◌, drop, length, take, get_or, refl, sym, ap, ◌∙◌, subst, arith}
use Rattle.std.specs.Prelude.{ℤ, None, Option, Some, option_to_list, slice_get}
use Rattle.std.specs.List.{All, Contains}
use Rattle.std.proofs.lemmas.List.{get_or-drop, length-drop, take-append-drop, take_all, take_rest}
use Rattle.std.proofs.lemmas.List.Elements.{All-append, All-cons, All-head, All-more, All-tail, All-weaker, Contains-append_left, Contains-push}
use Rattle.ep_instance.specs.Judgements.{IsWithinLimits, judgement_of}
use Rattle.ep_instance.specs.declared.judging.Judgement.{Judgement as Said}
use Rattle.ep_instance.specs.declared.judging.Judgement.TheVariants.{ObjectiveUndefined, Solution as SaidSolution, Violated}
use Rattle.ep_restrict.proofs.Fewer.{all_parts}
use Rattle.ep_restrict.specs.Restricted.{AreClauseNumbers, numbered_clauses, restricted}
use Rattle.ep_tree.specs.Binding.{Instance, Refusal}
use Rattle.ep_tree.specs.Evaluation.{is_true_in}
use Rattle.ep_tree.specs.Solutions.{Assigned, Fits, Found, Judgement, a_solution, goal_undefined, goal_value, has_goal_value, instance_limits, judgement, or_weight, under, violated, violates}
use Rattle.ep_tree.specs.declared.values.Mode.{Mode}
use Rattle.ep_explain.proofs.Asking.{asked_within}
use Rattle.ep_explain.proofs.Making.{all_true}
use Rattle.ep_explain.proofs.Violating.{IsFirst, first_violated, numbers_drop, solution_none, undefined_none, violates_some}
use Rattle.ep_explain.specs.Narrowing.{IsTrueAt}

-- ---- what judging asks for

first_none : (rs : List Refusal) (weight : ℕ) → or_weight rs weight ≡ [] → rs ≡ []
unfolding or_weight
first_none [] weight e = refl
first_none (r ∷ rs) weight e = absurd cc

within_small : (mode : Mode) (i : Instance) → instance_limits mode i ≡ [] → IsWithinLimits mode i
unfolding instance_limits
within_small mode i e = first_none _ _ e

pub asked_small : (mode m : Mode) (i r : Instance) (ns : List ℕ) → r ≡ restricted i ns → m ≡ mode → AreClauseNumbers i ns → instance_limits mode i ≡ []
    → IsWithinLimits m r
asked_small mode m i r ns is same are within = within_small m r (asked_within mode m i r ns is same are within)

pub asked_fits : (i r : Instance) (ns : List ℕ) (a : Assigned) (found : Found) → r ≡ restricted i ns → Fits i a found → Fits r a found
asked_fits i r ns a found is fits = subst (λ x. Fits x a found) (sym is) (record { same_names = fits.same_names; values = fits.values })

pub judged_as : (mode m : Mode) (i r : Instance) (ns : List ℕ) (a : Assigned) (found : Found) (j : Judgement) → r ≡ restricted i ns → m ≡ mode
    → (Fits r a found → j ≡ judgement m r found) → Fits i a found → j ≡ judgement mode (restricted i ns) found
judged_as mode m i r ns a found j is same said fits =
    subst (λ x. j ≡ judgement mode x found) is (subst (λ k. j ≡ judgement k r found) same (said (asked_fits i r ns a found is fits)))

-- ---- what a judgement says

pub rest_first : (mode m : Mode) (i r : Instance) (ns : List ℕ) (found : Found) (n : ℕ) → r ≡ restricted i ns → m ≡ mode → AreClauseNumbers i ns
    → violates n ≡ judgement m r found → IsFirst mode (under i found) i.clauses ns 1 n
unfolding judgement
rest_first mode m i r ns found n is same are said =
    let first : violated m r found ≡ Some n = violates_some (violated m r found) (has_goal_value m r found) (goal_value m r found) n (sym said) in
    first_violated mode (under i found) i.clauses ns 1 n are.there
    (subst (λ x. violated mode x found ≡ Some n) is (subst (λ k. violated k r found ≡ Some n) same first))

rest_true : (mode m : Mode) (i r : Instance) (ns : List ℕ) (found : Found) → r ≡ restricted i ns → m ≡ mode → violated m r found ≡ None
    → All (IsTrueAt mode i found) ns
unfolding numbered_clauses
rest_true mode m i r ns found is same none =
    let here : violated mode (restricted i ns) found ≡ None = subst (λ x. violated mode x found ≡ None) is (subst (λ k. violated k r found ≡ None) same none) in
    all_parts (λ e. is_true_in mode (under i found) e ≡ true) (λ n. option_to_list (slice_get i.clauses (n - 1))) ns
    (all_true mode (under i found) 1 (numbered_clauses i.clauses ns) here)

pub rest_solved : (mode m : Mode) (i r : Instance) (ns : List ℕ) (found : Found) (x : Option ℤ) → r ≡ restricted i ns → m ≡ mode
    → a_solution x ≡ judgement m r found → All (IsTrueAt mode i found) ns
unfolding judgement
rest_solved mode m i r ns found x is same said =
    rest_true mode m i r ns found is same (solution_none (violated m r found) (has_goal_value m r found) (goal_value m r found) x (sym said))

pub rest_undefined : (mode m : Mode) (i r : Instance) (ns : List ℕ) (found : Found) → r ≡ restricted i ns → m ≡ mode
    → goal_undefined ≡ judgement m r found → All (IsTrueAt mode i found) ns
unfolding judgement
rest_undefined mode m i r ns found is same said =
    rest_true mode m i r ns found is same (undefined_none (violated m r found) (has_goal_value m r found) (goal_value m r found) (sym said))

-- the numbers from a place on, as a slice has them
abbrev pub rest_of : List ℕ → ℕ → List ℕ
rest_of ns b = take (length ns - b) (drop b ns)

pub rest_are : (i : Instance) (ns : List ℕ) (b : ℕ) → AreClauseNumbers i ns → AreClauseNumbers i (rest_of ns b)
rest_are i ns b are = subst (AreClauseNumbers i) (sym (take_rest ns b)) (numbers_drop i ns b are)

pub turn_first : (mode : Mode) (i : Instance) (ns : List ℕ) (b n : ℕ) (found : Found) (j : Said) → AreClauseNumbers i ns → j ≡ Violated n
    → judgement_of j ≡ judgement mode (restricted i (rest_of ns b)) found → IsFirst mode (under i found) i.clauses (drop b ns) 1 n
turn_first mode i ns b n found j are is said =
    rest_first mode mode i (restricted i (drop b ns)) (drop b ns) found n refl refl (numbers_drop i ns b are)
    (subst (λ xs. violates n ≡ judgement mode (restricted i xs) found) (take_rest ns b) (ap judgement_of (sym is) ∙ said))

pub end_solved : (mode : Mode) (i : Instance) (ns : List ℕ) (b : ℕ) (found : Found) (j : Said) (x : Option ℤ) → j ≡ SaidSolution x
    → judgement_of j ≡ judgement mode (restricted i (rest_of ns b)) found → All (IsTrueAt mode i found) (drop b ns)
end_solved mode i ns b found j x is said =
    rest_solved mode mode i (restricted i (drop b ns)) (drop b ns) found x refl refl
    (subst (λ xs. a_solution x ≡ judgement mode (restricted i xs) found) (take_rest ns b) (ap judgement_of (sym is) ∙ said))

pub end_undefined : (mode : Mode) (i : Instance) (ns : List ℕ) (b : ℕ) (found : Found) (j : Said) → j ≡ ObjectiveUndefined
    → judgement_of j ≡ judgement mode (restricted i (rest_of ns b)) found → All (IsTrueAt mode i found) (drop b ns)
end_undefined mode i ns b found j is said =
    rest_undefined mode mode i (restricted i (drop b ns)) (drop b ns) found refl refl
    (subst (λ xs. goal_undefined ≡ judgement mode (restricted i xs) found) (take_rest ns b) (ap judgement_of (sym is) ∙ said))

-- ---- what is known of the first numbers

-- a number that isn't violated has this
abbrev pub Unless : List ℕ → (ℕ → Type 0) → ℕ → Type 0
Unless violated P n = (Contains violated n → ⊥) → P n

all_both : (Q : ℕ → Type 0) (b k e : ℕ) (xs : List ℕ) → e ≡ b + k → All Q (take b xs) → All Q (take k (drop b xs)) → All Q (take e xs)
all_both Q zero k e xs is one other = (let same : e ≡ k = omega (arith, is) in subst (λ j. All Q (take j xs)) (sym same) other)
all_both Q (suc b) k zero xs is one other = absurd (omega (arith, is))
all_both Q (suc b) k (suc e) [] is one other = one
all_both Q (suc b) k (suc e) (x ∷ xs) is one other =
    All-cons Q x (take e xs) (All-head Q x (take b xs) one) (all_both Q b k e xs (omega (arith, is)) (All-tail Q x (take b xs) one) other)

-- one more that is violated
pub violated_turn : (P : ℕ → Type 0) (ns old new : List ℕ) (b e m x : ℕ) → e ≡ b + m → 1 ≤ m → m < 1 + length (drop b ns) → x ≡ get_or (drop b ns) (m - 1) 0
    → new ≡ old ++ x ∷ [] → All (Unless old P) (take b ns) → All P (take (m - 1) (drop b ns)) → All (Unless new P) (take e ns)
violated_turn P ns old new b e m x end from there item is before between =
    let others : All (Unless new P) (take b ns) =
    All-weaker (Unless old P) (Unless new P) (λ n own free. own (λ bad. free (subst (λ l. Contains l n) (sym is) (Contains-append_left old (x ∷ []) n bad))))
    (take b ns) before in
    let passed : All (Unless new P) (take (m - 1) (drop b ns)) =
    All-weaker P (Unless new P) (λ n own free. own) (take (m - 1) (drop b ns)) between in
    let own : Unless new P (get_or (drop b ns) (m - 1) 0) =
    subst (Unless new P) item (λ free. absurd (free (subst (λ l. Contains l x) (sym is) (Contains-push old x)))) in
    let last : m - 1 + 1 ≡ m = omega (arith, from) in
    all_both (Unless new P) b m e ns end others
    (subst (λ j. All (Unless new P) (take j (drop b ns))) last
    (All-more (Unless new P) (drop b ns) (m - 1) 0 (omega (arith, from, there)) passed own))

-- all of the others are true
pub violated_rest : (P : ℕ → Type 0) (ns violated : List ℕ) (b : ℕ) → All (Unless violated P) (take b ns) → All P (drop b ns) → All (Unless violated P) ns
violated_rest P ns violated b before rest =
    subst (All (Unless violated P)) (take-append-drop b ns)
    (All-append (Unless violated P) (take b ns) (drop b ns) before (All-weaker P (Unless violated P) (λ n own free. own) (drop b ns) rest))

-- all were looked at
pub violated_all : (P : ℕ → Type 0) (ns violated : List ℕ) (b : ℕ) → length ns ≤ b → All (Unless violated P) (take b ns) → All (Unless violated P) ns
violated_all P ns violated b all before = subst (All (Unless violated P)) (take_all b ns all) before

-- ---- a turn of judging what is left

behind : (ns : List ℕ) (b m d : ℕ) → 1 ≤ m → get_or ns (b + m - 1) d ≡ get_or (drop b ns) (m - 1) d
behind ns b m d from =
    (let e : b + m - 1 ≡ b + (m - 1) = omega (arith, from) in ap (λ k. get_or ns k d) e ∙ sym (get_or-drop b ns (m - 1) d))

pub turn_within : (mode : Mode) (i : Instance) (ns : List ℕ) (b n : ℕ) (found : Found) (j : Said) → b < length ns → AreClauseNumbers i ns → j ≡ Violated n
    → judgement_of j ≡ judgement mode (restricted i (rest_of ns b)) found → (1 ≤ n) × (b + n ≤ length ns)
turn_within mode i ns b n found j begun are is said =
    let f = turn_first mode i ns b n found j are is said in
    let long : length (drop b ns) ≡ length ns - b = length-drop b ns in
    let high : n < 1 + length (drop b ns) = f.there in
    (f.from, omega (arith, high, long, begun))

pub turn_kept : (mode : Mode) (i : Instance) (ns old new : List ℕ) (b n x : ℕ) (found : Found) (j : Said) → AreClauseNumbers i ns → j ≡ Violated n
    → judgement_of j ≡ judgement mode (restricted i (rest_of ns b)) found → x ≡ get_or ns (b + n - 1) 0 → new ≡ old ++ x ∷ []
    → All (Unless old (IsTrueAt mode i found)) (take b ns) → All (Unless new (IsTrueAt mode i found)) (take (b + n) ns)
turn_kept mode i ns old new b n x found j are is said item more before =
    let f = turn_first mode i ns b n found j are is said in
    violated_turn (IsTrueAt mode i found) ns old new b (b + n) n x refl f.from f.there (item ∙ behind ns b n 0 f.from) more before f.before
