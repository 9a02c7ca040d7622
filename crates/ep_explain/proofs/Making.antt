-- Assignments that make clauses true.
use Rattle.std.proofs.Common.{◌≡◌, ℕ, ◌+◌, ◌-◌, ◌==◌, Bool, true, false, not, List, [], ◌∷◌, refl, sym, ap, ◌∙◌}
use Rattle.std.specs.Prelude.{None, Option, Some, filter, if◌then◌else◌, map, option_to_list, slice_get}
use Rattle.std.specs.List.{All}
use Rattle.std.proofs.lemmas.List.Elements.{All-cons, All-filter, All-head, All-nil, All-tail}
use Rattle.ep_restrict.proofs.Fewer.{all_flat, all_parts}
use Rattle.ep_restrict.specs.Restricted.{numbered_clauses, restricted}
use Rattle.ep_tree.specs.Binding.{Instance}
use Rattle.ep_tree.specs.Environments.{Env}
use Rattle.ep_tree.specs.Evaluation.{first_untrue, is_true_in}
use Rattle.ep_tree.specs.Solutions.{Assigned, Fits, Found, IsSolution, has_goal_value, under}
use Rattle.ep_tree.specs.Trees.{ExprTree}
use Rattle.ep_tree.specs.declared.values.Mode.{Mode}
use Rattle.ep_explain.specs.Explained.{IsWrittenSolution, all_but}
use Rattle.ep_explain.specs.Narrowing.{IsTrueAt}

-- ---- clauses in their order

passes : (b : Bool) (n : ℕ) (rest : Option ℕ) → (if b then rest else Some n) ≡ None → (b ≡ true) × (rest ≡ None)
passes true n rest h = (refl, h)
passes false n rest h = absurd cc

pub all_true : (mode : Mode) (env : Env) (n : ℕ) (es : List ExprTree) → first_untrue mode env n es ≡ None → All (λ e. is_true_in mode env e ≡ true) es
unfolding first_untrue
all_true mode env n [] h = All-nil (λ e. is_true_in mode env e ≡ true)
all_true mode env n (e ∷ es) h =
    let both = passes (is_true_in mode env e) n (first_untrue mode env (n + 1) es) h in
    All-cons (λ d. is_true_in mode env d ≡ true) e es both.0 (all_true mode env (n + 1) es both.1)

pub none_untrue : (mode : Mode) (env : Env) (n : ℕ) (es : List ExprTree) → All (λ e. is_true_in mode env e ≡ true) es → first_untrue mode env n es ≡ None
unfolding first_untrue
none_untrue mode env n [] h = refl
none_untrue mode env n (e ∷ es) h =
    ap (λ b. if b then first_untrue mode env (n + 1) es else Some n) (All-head (λ d. is_true_in mode env d ≡ true) e es h)
    ∙ none_untrue mode env (n + 1) es (All-tail (λ d. is_true_in mode env d ≡ true) e es h)

-- ---- what makes the clauses of some numbers true

pub record Makes (mode : Mode) (i : Instance) (numbers : List ℕ) (a : Assigned) : Type 0 where
  pub found : Found
  pub fits : Fits i a found
  pub holds : All (IsTrueAt mode i found) numbers

pub from_solution : (mode : Mode) (i : Instance) (numbers : List ℕ) (a : Assigned) → IsSolution mode (restricted i numbers) a → Makes mode i numbers a
unfolding numbered_clauses
from_solution mode i numbers a s = record {
  found = s.found;
  fits = record { same_names = s.fits.same_names; values = s.fits.values };
  holds = all_parts (λ e. is_true_in mode (under i s.found) e ≡ true) (λ n. option_to_list (slice_get i.clauses (n - 1))) numbers
      (all_true mode (under i s.found) 1 (numbered_clauses i.clauses numbers) s.holds);
}

pub to_solution : (mode : Mode) (i : Instance) (numbers : List ℕ) (a : Assigned) → Makes mode i numbers a → IsSolution mode (restricted i numbers) a
unfolding numbered_clauses has_goal_value
to_solution mode i numbers a m = record {
  found = m.found;
  fits = record { same_names = m.fits.same_names; values = m.fits.values };
  holds = none_untrue mode (under i m.found) 1 (numbered_clauses i.clauses numbers)
      (all_flat (λ e. is_true_in mode (under i m.found) e ≡ true) (λ n. option_to_list (slice_get i.clauses (n - 1))) numbers m.holds);
  measured = refl;
}

-- all of some numbers are among others
abbrev pub Among : List ℕ → List ℕ → Type 1
Among few many = (P : ℕ → Type 0) → All P many → All P few

pub shown_fewer : (mode : Mode) (i : Instance) (few many : List ℕ) (a : Assigned) → Among few many → IsWrittenSolution mode (restricted i many) a → IsWrittenSolution mode (restricted i few) a
shown_fewer mode i few many a among shown =
    let m = from_solution mode i many a shown.solves in
    record {
      solves = to_solution mode i few a (record { found = m.found; fits = m.fits; holds = among (IsTrueAt mode i m.found) m.holds });
      written = shown.written;
      typed = shown.typed;
    }

-- ---- what is filtered

more_unfiltered : {A : Type 0} (p : A → Bool) (P : A → Type 0) (x : A) (xs : List A) (b : Bool) → p x ≡ b
    → (All P (filter p xs) → All (λ y. p y ≡ true → P y) xs) → All P (if b then x ∷ filter p xs else filter p xs) → All (λ y. p y ≡ true → P y) (x ∷ xs)
more_unfiltered p P x xs true is rest h = All-cons (λ y. p y ≡ true → P y) x xs (λ _. All-head P x (filter p xs) h) (rest (All-tail P x (filter p xs) h))
more_unfiltered p P x xs false is rest h = All-cons (λ y. p y ≡ true → P y) x xs (λ yes. let bad : false ≡ true = sym is ∙ yes in absurd cc) (rest h)

pub unfiltered : {A : Type 0} (p : A → Bool) (P : A → Type 0) (xs : List A) → All P (filter p xs) → All (λ x. p x ≡ true → P x) xs
unfiltered p P [] h = All-nil (λ x. p x ≡ true → P x)
unfiltered p P (x ∷ xs) h = more_unfiltered p P x xs (p x) refl (unfiltered p P xs) h

more_filtered : {A : Type 0} (p : A → Bool) (P : A → Type 0) (x : A) (xs : List A) (b : Bool) → p x ≡ b → (p x ≡ true → P x)
    → All P (filter p xs) → All P (if b then x ∷ filter p xs else filter p xs)
more_filtered p P x xs true is own rest = All-cons P x (filter p xs) (own is) rest
more_filtered p P x xs false is own rest = rest

pub filtered : {A : Type 0} (p : A → Bool) (P : A → Type 0) (xs : List A) → All (λ x. p x ≡ true → P x) xs → All P (filter p xs)
filtered p P [] h = All-nil P
filtered p P (x ∷ xs) h =
    more_filtered p P x xs (p x) refl (All-head (λ y. p y ≡ true → P y) x xs h) (filtered p P xs (All-tail (λ y. p y ≡ true → P y) x xs h))

-- numbers that pass a test are among all
pub among_all : (p : ℕ → Bool) (xs : List ℕ) → Among (filter p xs) xs
among_all p xs P h = All-filter p P xs h

-- the others of fewer numbers are among the others of all
pub among_others : (n : ℕ) (p : ℕ → Bool) (xs : List ℕ) → Among (all_but n (filter p xs)) (all_but n xs)
among_others n p xs P h =
    filtered (λ k. not (k == n)) P (filter p xs) (All-filter p (λ k. not (k == n) ≡ true → P k) xs (unfiltered (λ k. not (k == n)) P xs h))

mapped_more : {A : Type 0} (v : A → ℕ) (q : ℕ → Bool) (x : A) (xs : List A) (b : Bool)
    → map v (filter (λ y. q (v y)) xs) ≡ filter q (map v xs)
    → map v (if b then x ∷ filter (λ y. q (v y)) xs else filter (λ y. q (v y)) xs) ≡ (if b then v x ∷ filter q (map v xs) else filter q (map v xs))
mapped_more v q x xs true rest = ap (λ ys. v x ∷ ys) rest
mapped_more v q x xs false rest = rest

pub map_filtered : {A : Type 0} (v : A → ℕ) (q : ℕ → Bool) (xs : List A) → map v (filter (λ y. q (v y)) xs) ≡ filter q (map v xs)
map_filtered v q [] = refl
map_filtered v q (x ∷ xs) = mapped_more v q x xs (q (v x)) (map_filtered v q xs)

-- ---- numbers in two parts

by_either : {A : Type 0} (b : Bool) → (not b ≡ true → A) → (b ≡ true → A) → A
by_either true other own = own refl
by_either false other own = other refl

both_parts : (p : ℕ → Bool) (P : ℕ → Type 0) (xs : List ℕ) → All (λ n. not (p n) ≡ true → P n) xs → All (λ n. p n ≡ true → P n) xs → All P xs
both_parts p P [] others own = All-nil P
both_parts p P (x ∷ xs) others own =
    All-cons P x xs
    (by_either (p x) (All-head (λ n. not (p n) ≡ true → P n) x xs others) (All-head (λ n. p n ≡ true → P n) x xs own))
    (both_parts p P xs (All-tail (λ n. not (p n) ≡ true → P n) x xs others) (All-tail (λ n. p n ≡ true → P n) x xs own))

-- what holds of those that pass a test, and of the others, holds of all
pub from_parts : (p : ℕ → Bool) (P : ℕ → Type 0) (xs : List ℕ) → All P (filter (λ n. not (p n)) xs) → All P (filter p xs) → All P xs
from_parts p P xs others own = both_parts p P xs (unfiltered (λ n. not (p n)) P xs others) (unfiltered p P xs own)
