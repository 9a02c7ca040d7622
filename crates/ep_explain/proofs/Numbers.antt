-- The numbers of all clauses.
use Rattle.std.proofs.Common.{◌≡◌, ℕ, zero, suc, ◌+◌, ◌-◌, ◌<◌, ◌≤◌, List, [], ◌∷◌, ◌++◌, length, take, get_or, refl, sym, ap, ◌∙◌, subst, arith}
use Rattle.std.specs.Prelude.{None, flat_map, option_to_list, slice_get}
use Rattle.std.specs.List.{All}
use Rattle.std.specs.List.Sorted.{IsStrictlyIncreasing}
use Rattle.std.proofs.Math.Logic.{⊎_elim}
use Rattle.std.proofs.lemmas.Bool.{cases_lt}
use Rattle.std.proofs.lemmas.Grind.{flat_map-append}
use Rattle.std.proofs.lemmas.List.{get_or_append_left, get_or_push, length-append, map-append, take_all, take_more}
use Rattle.std.proofs.lemmas.List.Concat.{flat_map-cons}
use Rattle.std.proofs.lemmas.List.Elements.{All-append, All-cons, All-nil}
use Rattle.ep_restrict.specs.Restricted.{AreClauseNumbers, numbered_clauses}
use Rattle.ep_tree.specs.Binding.{Instance}
use Rattle.ep_tree.specs.Trees.{ExprTree}
use Rattle.ep_explain.specs.Narrowing.{first_numbers, left_numbers}
use Rattle.ep_explain.specs.declared.left.Left.{Left}

next : (n : ℕ) → suc n ≡ n + 1
next n = omega arith

pub first_begun : (zs : List ℕ) → zs ≡ [] → zs ≡ first_numbers 0
unfolding first_numbers
first_begun zs none = none

pub first_turn : (zs : List ℕ) (n x : ℕ) → x ≡ n + 1 → zs ≡ first_numbers n → zs ++ x ∷ [] ≡ first_numbers (n + 1)
unfolding first_numbers
first_turn zs n x is before = ap (λ ys. ys ++ x ∷ []) before ∙ ap (λ m. first_numbers n ++ m ∷ []) (is ∙ sym (next n)) ∙ ap first_numbers (next n)

first_length : (n : ℕ) → length (first_numbers n) ≡ n
unfolding first_numbers
first_length zero = refl
first_length (suc n) =
    let long : length (first_numbers n ++ suc n ∷ []) ≡ length (first_numbers n) + length (suc n ∷ []) = length-append (first_numbers n) (suc n ∷ []) in
    let own : length (first_numbers n) ≡ n = first_length n in
    let one : length (suc n ∷ []) ≡ 1 = refl in
    omega (arith, long, own, one)

first_at : (n k d : ℕ) → k < n → get_or (first_numbers n) k d ≡ k + 1
unfolding first_numbers
first_at zero k d within = absurd (omega (arith, within))
first_at (suc n) k d within =
    let long : length (first_numbers n) ≡ n = first_length n in
    ⊎_elim
    (λ inside. get_or_append_left (first_numbers n) (suc n ∷ []) d k (omega (arith, long, inside)) ∙ first_at n k d inside)
    (λ at_end. get_or_push (first_numbers n) (suc n) d k (omega (arith, long, at_end, within)) ∙ (let e : suc n ≡ k + 1 = omega (arith, at_end, within) in e))
    (cases_lt k n)

first_increase : (n : ℕ) → IsStrictlyIncreasing (first_numbers n)
first_increase n k within =
    let long : length (first_numbers n) ≡ n = first_length n in
    let one : get_or (first_numbers n) k 0 ≡ k + 1 = first_at n k 0 (omega (arith, long, within)) in
    let other : get_or (first_numbers n) (k + 1) 0 ≡ k + 1 + 1 = first_at n (k + 1) 0 (omega (arith, long, within)) in
    omega (arith, one, other)

first_within : (n most : ℕ) → n ≤ most → All (λ m. (1 ≤ m) × (m ≤ most)) (first_numbers n)
unfolding first_numbers
first_within zero most le = All-nil (λ m. (1 ≤ m) × (m ≤ most))
first_within (suc n) most le =
    All-append (λ m. (1 ≤ m) × (m ≤ most)) (first_numbers n) (suc n ∷ []) (first_within n most (omega (arith, le)))
    (All-cons (λ m. (1 ≤ m) × (m ≤ most)) (suc n) [] (omega arith, le) (All-nil (λ m. (1 ≤ m) × (m ≤ most))))

pub first_are : (i : Instance) (n : ℕ) (zs : List ℕ) → n ≡ length i.clauses → zs ≡ first_numbers n → AreClauseNumbers i zs
first_are i n zs is same =
    subst (AreClauseNumbers i) (sym same)
    (record { ascending = first_increase n; there = first_within n (length i.clauses) (omega (arith, is)) })

take_next : {A : Type 0} (xs : List A) (n : ℕ) → take n xs ++ (option_to_list (slice_get xs n) ++ []) ≡ take (suc n) xs
take_next [] zero = refl
take_next [] (suc n) = refl
take_next (x ∷ xs) zero = refl
take_next (x ∷ xs) (suc n) = ap (λ l. x ∷ l) (take_next xs n)

first_taken : (cs : List ExprTree) (n : ℕ) → numbered_clauses cs (first_numbers n) ≡ take n cs
unfolding numbered_clauses first_numbers
first_taken cs zero = refl
first_taken cs (suc n) =
    let e : suc n - 1 ≡ n = omega arith in
    flat_map-append (λ m. option_to_list (slice_get cs (m - 1))) (first_numbers n) (suc n ∷ [])
    ∙ ap (λ l. l ++ flat_map (λ m. option_to_list (slice_get cs (m - 1))) (suc n ∷ [])) (first_taken cs n)
    ∙ ap (λ l. take n cs ++ l) (flat_map-cons (λ m. option_to_list (slice_get cs (m - 1))) (suc n) [])
    ∙ ap (λ k. take n cs ++ (option_to_list (slice_get cs k) ++ [])) e
    ∙ take_next cs n

pub first_whole : (i : Instance) (n : ℕ) (zs : List ℕ) → n ≡ length i.clauses → zs ≡ first_numbers n → numbered_clauses i.clauses zs ≡ i.clauses
first_whole i n zs is same = ap (numbered_clauses i.clauses) same ∙ first_taken i.clauses n ∙ take_all n i.clauses (omega (arith, is))

-- one more of the clauses that are left, not known to stay
pub left_turn : (ls new : List Left) (ns : List ℕ) (i n : ℕ) (x : Left) → new ≡ ls ++ x ∷ [] → x.clause ≡ n → x.without ≡ None → i < length ns → n ≡ get_or ns i n
    → (left_numbers ls ≡ take i ns) × All (λ one. one.without ≡ None) ls → (left_numbers new ≡ take (i + 1) ns) × All (λ one. one.without ≡ None) new
left_turn ls new ns i n x is clause none within item before = (
  ap left_numbers is ∙ map-append (λ (one : Left). one.clause) ls (x ∷ []) ∙ ap (λ l. l ++ x.clause ∷ []) before.0
      ∙ ap (λ m. take i ns ++ m ∷ []) (clause ∙ item) ∙ sym (take_more ns i n within),
  subst (All (λ one. one.without ≡ None)) (sym is) (All-append (λ one. one.without ≡ None) ls (x ∷ []) before.1 (All-cons (λ one. one.without ≡ None) x [] none (All-nil (λ one. one.without ≡ None)))),
)
