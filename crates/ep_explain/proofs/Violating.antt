-- Which clauses an assignment violates, one after another.
use Rattle.std.proofs.Common.{◌≡◌, ℕ, zero, suc, ◌+◌, ◌-◌, ◌<◌, ◌≤◌, Bool, true, false, List, [], ◌∷◌, ◌++◌, drop, length, take, get_or, refl, sym, ap, ◌∙◌, subst, arith}
use Rattle.std.specs.Prelude.{ℤ, None, Option, Some, if◌then◌else◌, option_to_list, slice_get}
use Rattle.std.specs.List.{All}
use Rattle.std.specs.List.Sorted.{IsStrictlyIncreasing}
use Rattle.std.proofs.lemmas.List.Concat.{flat_map-cons}
use Rattle.std.proofs.lemmas.List.Elements.{All-cons, All-drop, All-head, All-nil, All-tail}
use Rattle.ep_restrict.specs.Restricted.{AreClauseNumbers, numbered_clauses}
use Rattle.ep_tree.specs.Binding.{Instance}
use Rattle.ep_tree.specs.Environments.{Env}
use Rattle.ep_tree.specs.Evaluation.{first_untrue, is_true_in}
use Rattle.ep_tree.specs.Solutions.{a_solution, goal_undefined, judged_by, violates}
use Rattle.ep_tree.specs.Trees.{ExprTree}
use Rattle.ep_tree.specs.declared.values.Mode.{Mode}

-- ---- numbers from a place on

increasing_tail : (x : ℕ) (xs : List ℕ) → IsStrictlyIncreasing (x ∷ xs) → IsStrictlyIncreasing xs
increasing_tail x xs h k within =
    let e : suc k + 1 ≡ suc (k + 1) = omega arith in
    subst (λ n. get_or xs k 0 < get_or (x ∷ xs) n 0) e (h (suc k) (omega (arith, within)))

increasing_drop : (xs : List ℕ) (k : ℕ) → IsStrictlyIncreasing xs → IsStrictlyIncreasing (drop k xs)
increasing_drop xs zero h = h
increasing_drop [] (suc k) h = h
increasing_drop (x ∷ xs) (suc k) h = increasing_drop xs k (increasing_tail x xs h)

pub numbers_drop : (i : Instance) (ns : List ℕ) (k : ℕ) → AreClauseNumbers i ns → AreClauseNumbers i (drop k ns)
numbers_drop i ns k are = record {
  ascending = increasing_drop ns k are.ascending;
  there = All-drop (λ n. (1 ≤ n) × (n ≤ length i.clauses)) k ns are.there;
}

-- ---- the first that is violated

got : {A : Type 0} (xs : List A) (k : ℕ) → k < length xs → slice_get xs k ≡ None → ⊥
got [] k within none = omega (arith, within)
got (x ∷ xs) zero within none = absurd cc
got (x ∷ xs) (suc k) within none = got xs k (omega (arith, within)) none

-- the clause of a number is true
abbrev pub IsTrueIn : Mode → Env → List ExprTree → ℕ → Type 0
IsTrueIn mode env cs n = All (λ e. is_true_in mode env e ≡ true) (option_to_list (slice_get cs (n - 1)))

-- So many numbers from a number on are those of true clauses, and there is one more.
pub record IsFirst (mode : Mode) (env : Env) (cs : List ExprTree) (ns : List ℕ) (k m : ℕ) : Type 0 where
  pub from : k ≤ m
  pub there : m < k + length ns
  pub before : All (IsTrueIn mode env cs) (take (m - k) ns)

first_here : (mode : Mode) (env : Env) (cs : List ExprTree) (n : ℕ) (ns : List ℕ) (k m : ℕ) → Some k ≡ Some m → IsFirst mode env cs (n ∷ ns) k m
first_here mode env cs n ns k m is =
    let same : k ≡ m = cc in
    let none : zero ≡ m - k = omega (arith, same) in
    record {
      from = omega (arith, same);
      there = omega (arith, same);
      before = subst (λ j. All (IsTrueIn mode env cs) (take j (n ∷ ns))) none (All-nil (IsTrueIn mode env cs));
    }

first_later : (mode : Mode) (env : Env) (cs : List ExprTree) (n : ℕ) (ns : List ℕ) (k m : ℕ) → IsTrueIn mode env cs n → IsFirst mode env cs ns (k + 1) m
    → IsFirst mode env cs (n ∷ ns) k m
first_later mode env cs n ns k m own rest =
    let low = rest.from in
    let high = rest.there in
    let more : suc (m - (k + 1)) ≡ m - k = omega (arith, low) in
    record {
      from = omega (arith, low);
      there = omega (arith, high);
      before = subst (λ j. All (IsTrueIn mode env cs) (take j (n ∷ ns))) more
          (All-cons (IsTrueIn mode env cs) n (take (m - (k + 1)) ns) own rest.before);
    }

first_by : (mode : Mode) (env : Env) (cs : List ExprTree) (n : ℕ) (ns : List ℕ) (k m : ℕ) (e : ExprTree) → slice_get cs (n - 1) ≡ Some e
    → (first_untrue mode env (k + 1) (numbered_clauses cs ns) ≡ Some m → IsFirst mode env cs ns (k + 1) m)
    → (b : Bool) → is_true_in mode env e ≡ b → (if b then first_untrue mode env (k + 1) (numbered_clauses cs ns) else Some k) ≡ Some m
    → IsFirst mode env cs (n ∷ ns) k m
first_by mode env cs n ns k m e is rest true passing h =
    first_later mode env cs n ns k m
    (subst (λ o. All (λ d. is_true_in mode env d ≡ true) (option_to_list o)) (sym is)
    (All-cons (λ d. is_true_in mode env d ≡ true) e [] passing (All-nil (λ d. is_true_in mode env d ≡ true)))) (rest h)
first_by mode env cs n ns k m e is rest false failing h = first_here mode env cs n ns k m h

first_at_number : (mode : Mode) (env : Env) (cs : List ExprTree) (n : ℕ) (ns : List ℕ) (k m : ℕ) → (1 ≤ n) × (n ≤ length cs)
    → (first_untrue mode env (k + 1) (numbered_clauses cs ns) ≡ Some m → IsFirst mode env cs ns (k + 1) m)
    → (o : Option ExprTree) → slice_get cs (n - 1) ≡ o → first_untrue mode env k (option_to_list o ++ numbered_clauses cs ns) ≡ Some m
    → IsFirst mode env cs (n ∷ ns) k m
unfolding first_untrue
first_at_number mode env cs n ns k m there rest None is h = absurd (got cs (n - 1) (omega (arith, there.0, there.1)) is)
first_at_number mode env cs n ns k m there rest (Some e) is h = first_by mode env cs n ns k m e is rest (is_true_in mode env e) refl h

pub first_violated : (mode : Mode) (env : Env) (cs : List ExprTree) (ns : List ℕ) (k m : ℕ) → All (λ n. (1 ≤ n) × (n ≤ length cs)) ns
    → first_untrue mode env k (numbered_clauses cs ns) ≡ Some m → IsFirst mode env cs ns k m
unfolding first_untrue numbered_clauses
first_violated mode env cs [] k m there h = absurd cc
first_violated mode env cs (n ∷ ns) k m there h =
    first_at_number mode env cs n ns k m (All-head (λ j. (1 ≤ j) × (j ≤ length cs)) n ns there)
    (first_violated mode env cs ns (k + 1) m (All-tail (λ j. (1 ≤ j) × (j ≤ length cs)) n ns there))
    (slice_get cs (n - 1)) refl
    (ap (first_untrue mode env k) (sym (flat_map-cons (λ j. option_to_list (slice_get cs (j - 1))) n ns)) ∙ h)

-- ---- what a judgement says of the first

pub violates_some : (v : Option ℕ) (b : Bool) (g : Option ℤ) (n : ℕ) → judged_by v b g ≡ violates n → v ≡ Some n
unfolding judged_by
violates_some None true g n h = absurd cc
violates_some None false g n h = absurd cc
violates_some (Some m) b g n h = let same : m ≡ n = cc in ap Some same

pub solution_none : (v : Option ℕ) (b : Bool) (g x : Option ℤ) → judged_by v b g ≡ a_solution x → v ≡ None
unfolding judged_by
solution_none None b g x h = refl
solution_none (Some m) b g x h = absurd cc

pub undefined_none : (v : Option ℕ) (b : Bool) (g : Option ℤ) → judged_by v b g ≡ goal_undefined → v ≡ None
unfolding judged_by
undefined_none None b g h = refl
undefined_none (Some m) b g h = absurd cc
