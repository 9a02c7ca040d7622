-- Literals are one where their codes are, and the order of codes is the order of literals.
use Rattle.std.proofs.Common.{◌≡◌, ℕ, ◌+◌, ◌*◌, ◌<◌, Bool, true, false, if◌then◌else◌, ◌⊎◌, inl, List, [], ◌∷◌, refl, ap, ◌∙◌, sym, subst, arith, nat_eq, ◌≤◌, ◌-◌, inr, length, get_or}
use Rattle.std.specs.Prelude.{Contains}
use Rattle.std.specs.Ordering.{nat_cmp}
use Rattle.std.specs.declared.cmp.Ordering.TheVariants.{Less}
use Rattle.std.specs.declared.cmp.Ordering.{Ordering}
use Rattle.std.specs.Cmp.{IsTotalOrder, IsEquivalence}
use Rattle.std.specs.Ordering.{eq_by_cmp}
use Rattle.std.specs.List.{dedup}
use Rattle.std.specs.List.Retain.{IsFiltered, DiffersFromLast}
use Rattle.std.specs.List.Sorted.{IsStrictlySortedBy, IsSorted, IsPermutation}
use Rattle.std.specs.Cmp.{on_equiv, nat_eq_equiv}
use Rattle.std.proofs.lemmas.Bool.{eqb-true, cases_lt}
use Rattle.std.proofs.lemmas.List.{get_or_default}
use Rattle.std.proofs.lemmas.List.Filters.{dedup_is}
use Rattle.std.proofs.lemmas.List.Sorted.{IsPermutation-sym, Contains-permutation}
use Rattle.std.proofs.lemmas.Bool.Decides.{nat_tests}
use Rattle.std.proofs.lemmas.Cmp.{on_total, nat_cmp_total}
use Rattle.std.proofs.lemmas.List.Elements.{All-from_recursion, All-weaker, All-contains_itself}
use Rattle.std.proofs.lemmas.List.Kept.{AllPairs-cons, IsStrictlySortedBy-dedup, Contains-dedup, Contains-from_dedup}
use Rattle.cnf_core.specs.Literal.{Literal, Precedes, IsOrdered, HaveSameLiterals, VariablesUpTo, code_of}

-- literals with the same variable and the same sign are one
pub literal_ext : (a b : Literal) → a.var ≡ b.var → a.positive ≡ b.positive → a ≡ b
literal_ext a b vars signs =
    ap (λ (v : ℕ). record { var = v; positive = a.positive }) vars ∙ ap (λ (p : Bool). record { var = b.var; positive = p }) signs

parts_from_code : (v w : ℕ) (p q : Bool) → 2 * v + (if p then 0 else 1) ≡ 2 * w + (if q then 0 else 1) → (v ≡ w) × (p ≡ q)
parts_from_code v w true true e = (omega arith, refl)
parts_from_code v w true false e = absurd (omega arith)
parts_from_code v w false true e = absurd (omega arith)
parts_from_code v w false false e = (omega arith, refl)

pub code_injective : (a b : Literal) → code_of a ≡ code_of b → a ≡ b
code_injective a b e =
    let parts = parts_from_code a.var b.var a.positive b.positive e in literal_ext a b parts.0 parts.1

precedes_by_parts : (v w : ℕ) (p q : Bool) → 2 * v + (if p then 0 else 1) < 2 * w + (if q then 0 else 1) → (v < w) ⊎ ((v ≡ w) × (p ≡ true) × (q ≡ false))
precedes_by_parts v w true true e = inl (omega arith)
precedes_by_parts v w true false e = grind arith
precedes_by_parts v w false true e = inl (omega arith)
precedes_by_parts v w false false e = inl (omega arith)

pub precedes_from_cmp : (a b : Literal) → nat_cmp (code_of a) (code_of b) ≡ Less → Precedes a b
precedes_from_cmp a b e =
    precedes_by_parts a.var b.var a.positive b.positive (grind (arith, nat_tests))

-- the order of codes, by which literals are sorted
pub codes_total : IsTotalOrder (λ (a b : Literal). nat_cmp (code_of a) (code_of b))
codes_total = on_total code_of nat_cmp_total

-- literals whose codes rise are in order
pub ordered_from_codes : (literals : List Literal) → IsStrictlySortedBy (λ a b. nat_cmp (code_of a) (code_of b)) literals → IsOrdered literals
unfolding IsStrictlySortedBy
ordered_from_codes [] rising = λ i j d low high. absurd (omega arith)
ordered_from_codes (l ∷ literals) rising =
    AllPairs-cons Precedes l literals
    (All-weaker (λ m. nat_cmp (code_of l) (code_of m) ≡ Less) (Precedes l) (precedes_from_cmp l) literals (All-from_recursion _ literals rising.0))
    (ordered_from_codes literals rising.1)

-- whether two codes are one
abbrev same_code : Literal → Literal → Bool
same_code a b = nat_eq (code_of a) (code_of b)

abbrev code_cmp : Literal → Literal → Ordering
code_cmp a b = nat_cmp (code_of a) (code_of b)

ties : (a b : Literal) → same_code a b ≡ eq_by_cmp code_cmp a b
ties a b = grind (arith, nat_tests)

same_code_equivalence : IsEquivalence same_code
same_code_equivalence = on_equiv code_of nat_eq_equiv

-- sorting literals and dropping what equals its neighbor leaves the same literals in order, none twice
pub from_sort_and_dedup : (xs ys zs : List Literal) → IsPermutation xs ys → IsSorted code_cmp ys → IsFiltered (DiffersFromLast same_code) [] ys zs → IsOrdered zs × HaveSameLiterals zs xs
from_sort_and_dedup xs ys zs moved sorted filtered =
    let is = dedup_is same_code ys zs filtered in
    subst (λ (ls : List Literal). IsOrdered ls × HaveSameLiterals ls xs) (sym is) (
      ordered_from_codes (dedup same_code ys) (IsStrictlySortedBy-dedup codes_total ties ys sorted),
      record {
        from_first = All-weaker (Contains (dedup same_code ys)) (Contains xs)
            (λ l found. Contains-permutation ys xs l (IsPermutation-sym xs ys moved) (Contains-from_dedup same_code ys l found))
            (dedup same_code ys) (All-contains_itself (dedup same_code ys));
        from_second = All-weaker (Contains xs) (Contains (dedup same_code ys))
            (λ l found. Contains-dedup same_code_equivalence (λ a b e. code_injective a b (eqb-true (code_of a) (code_of b) e)) ys l (Contains-permutation xs ys l moved found))
            xs (All-contains_itself xs);
      },
    )

le_from_precedes : (a b : Literal) → Precedes a b → a.var ≤ b.var
le_from_precedes a b (inl below) = omega arith
le_from_precedes a b (inr same) = omega (arith, same.0)

-- no variable is over that of the last literal
pub last_is_greatest : (literals : List Literal) (last : Literal) → IsOrdered literals → last ≡ get_or literals (length literals - 1) last → VariablesUpTo last.var literals
last_is_greatest literals last ordered is k d within =
    let at_end : (e : Literal) → get_or literals (length literals - 1) e ≡ last =
    λ e. get_or_default literals (length literals - 1) e last (omega arith) ∙ sym is in
    elim (cases_lt k (length literals - 1)) [
      | inl before ↦ subst (λ (l : Literal). (get_or literals k d).var ≤ l.var) (at_end d) (le_from_precedes _ _ (ordered k (length literals - 1) d before (omega arith)))
      | inr here ↦ subst (λ (l : Literal). l.var ≤ last.var) (sym (at_end d) ∙ ap (λ (i : ℕ). get_or literals i d) (last_place k (length literals) within here)) (omega arith)
    ]
  where
    last_place : (k n : ℕ) → k < n → n - 1 ≤ k → n - 1 ≡ k
    last_place k n within here = omega arith
