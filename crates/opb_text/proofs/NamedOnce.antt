-- The variables of a problem, in order and each once.
use Rattle.std.proofs.Common.{length, take, get_or, ◌≡◌, ◌↔◌, ℕ, ◌+◌, ◌<◌, List, [], ◌∷◌, ◌++◌, map, sym, ap, subst, ◌∙◌, append_assoc, arith, nat_eq}
use Rattle.std.specs.Prelude.{Contains}
use Rattle.std.specs.List.{flat_map, dedup, AllPairs}
use Rattle.std.specs.Ordering.{nat_cmp, eq_by_cmp}
use Rattle.std.specs.declared.cmp.Ordering.TheVariants.{Less}
use Rattle.std.specs.Cmp.{nat_eq_equiv}
use Rattle.std.specs.List.Retain.{IsFiltered, DiffersFromLast}
use Rattle.std.specs.List.Sorted.{IsStrictlySortedBy, IsSorted, IsPermutation}
use Rattle.std.proofs.lemmas.Bool.{eqb-true}
use Rattle.std.proofs.lemmas.Bool.Decides.{nat_tests}
use Rattle.std.proofs.lemmas.Cmp.{nat_cmp_total}
use Rattle.std.proofs.lemmas.Grind.{flat_map-append}
use Rattle.std.proofs.lemmas.List.{append-nil, map-append, take_more}
use Rattle.std.proofs.lemmas.List.Concat.{flat_map-cons}
use Rattle.std.proofs.lemmas.List.Elements.{All-from_recursion, All-weaker}
use Rattle.std.proofs.lemmas.List.Filters.{dedup_is}
use Rattle.std.proofs.lemmas.List.Kept.{AllPairs-cons, IsStrictlySortedBy-dedup, Contains-dedup, Contains-from_dedup}
use Rattle.std.proofs.lemmas.List.Sorted.{IsPermutation-sym, Contains-permutation}
use Rattle.opb_text.specs.declared.content.OpbRow.{OpbRow}
use Rattle.opb_text.specs.declared.content.OpbTerm.{OpbTerm}
use Rattle.opb_text.specs.Contents.{OpbContent, named_variables}
use Rattle.opb_text.specs.Weights.{AreVariablesOf}
use Rattle.opb_text.specs.Views.{plain_row}

-- ---- the variables of terms, and then of constraints

-- the variables of terms, and of the terms of some constraints behind them
abbrev pub variables_with : List OpbTerm → List OpbRow → List ℕ
variables_with front rows = map (λ t. t.var) (front ++ flat_map (λ row. row.terms) (map plain_row rows))

pub variables_none : (front : List OpbTerm) → [] ++ map (λ t. t.var) front ≡ variables_with front []
variables_none front = ap (map (λ t. t.var)) (sym (append-nil front))

pub variables_more : (front : List OpbTerm) (rows : List OpbRow) (row : OpbRow) → variables_with front rows ++ map (λ t. t.var) row.terms.items ≡ variables_with front (rows ++ row ∷ [])
variables_more front rows row =
    let last : flat_map (λ r. r.terms) (plain_row row ∷ []) ≡ row.terms.items = flat_map-cons (λ r. r.terms) (plain_row row) [] ∙ append-nil row.terms.items in
    let whole : flat_map (λ r. r.terms) (map plain_row (rows ++ row ∷ [])) ≡ flat_map (λ r. r.terms) (map plain_row rows) ++ row.terms.items
    = ap (flat_map (λ r. r.terms)) (map-append plain_row rows (row ∷ [])) ∙ flat_map-append (λ r. r.terms) (map plain_row rows) (plain_row row ∷ [])
    ∙ ap (λ (ts : List OpbTerm). flat_map (λ r. r.terms) (map plain_row rows) ++ ts) last in
    sym (
    ap (λ (ts : List OpbTerm). map (λ t. t.var) (front ++ ts)) whole
    ∙ ap (map (λ t. t.var)) (sym (append_assoc front (flat_map (λ r. r.terms) (map plain_row rows)) row.terms.items))
    ∙ map-append (λ t. t.var) (front ++ flat_map (λ r. r.terms) (map plain_row rows)) row.terms.items
    )

-- ---- in order, each once

ties : (a b : ℕ) → nat_eq a b ≡ eq_by_cmp nat_cmp a b
ties a b = grind (arith, nat_tests)

below : (a b : ℕ) → nat_cmp a b ≡ Less → a < b
below a b e = grind (arith, nat_tests)

ascending : (xs : List ℕ) → IsStrictlySortedBy nat_cmp xs → AllPairs ◌<◌ xs
unfolding IsStrictlySortedBy
ascending [] rising = λ i j d low high. absurd (omega arith)
ascending (x ∷ xs) rising =
    AllPairs-cons ◌<◌ x xs (All-weaker (λ y. nat_cmp x y ≡ Less) (λ y. x < y) (below x) xs (All-from_recursion _ xs rising.0)) (ascending xs rising.1)

-- in ascending order, each once, and the same numbers
pub record IsOrdered (xs zs : List ℕ) : Type 0 where
  pub rising : AllPairs ◌<◌ zs
  pub same : (v : ℕ) → Contains zs v ↔ Contains xs v

-- sorting numbers and dropping what equals its neighbor leaves the same numbers in order, none twice
pub from_sort_and_dedup : (xs ys zs : List ℕ) → IsPermutation xs ys → IsSorted nat_cmp ys → IsFiltered (DiffersFromLast nat_eq) [] ys zs → IsOrdered xs zs
from_sort_and_dedup xs ys zs moved sorted filtered =
    subst (IsOrdered xs) (sym (dedup_is nat_eq ys zs filtered)) (record {
      rising = ascending (dedup nat_eq ys) (IsStrictlySortedBy-dedup nat_cmp_total ties ys sorted);
      same = λ v. (
        λ found. Contains-permutation ys xs v (IsPermutation-sym xs ys moved) (Contains-from_dedup nat_eq ys v found),
        λ found. Contains-dedup nat_eq_equiv (λ a b e. eqb-true a b e) ys v (Contains-permutation xs ys v moved found),
      );
    })

-- the variables of one more constraint
pub variables_step : (front : List OpbTerm) (rows : List OpbRow) (i : ℕ) (row : OpbRow) (named : List ℕ) → i < length rows → row ≡ get_or rows i row → named ≡ variables_with front (take i rows)
    → named ++ map (λ t. t.var) row.terms.items ≡ variables_with front (take (i + 1) rows)
variables_step front rows i row named lt is e =
    ap (λ (xs : List ℕ). xs ++ map (λ t. t.var) row.terms.items) e
    ∙ variables_more front (take i rows) row
    ∙ ap (variables_with front) (sym (take_more rows i row lt ∙ ap (λ (r : OpbRow). take i rows ++ r ∷ []) (sym is)))

-- what is in order, and the same as a problem's variables
pub variables_are : (content : OpbContent) (named zs vars : List ℕ) → IsOrdered named zs → named ≡ named_variables content → vars ≡ zs → AreVariablesOf content vars
variables_are content named zs vars ordered e is =
    subst (AreVariablesOf content) (sym is) (record {
      ascending = ordered.rising;
      same = subst (λ (xs : List ℕ). (v : ℕ) → Contains zs v ↔ Contains xs v) e ordered.same;
    })
