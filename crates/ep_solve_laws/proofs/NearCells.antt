-- The cells of decision variables whose domains are near have names, indices and values of few digits.
use Rattle.std.proofs.Common.{◌≡◌, ℕ, suc, ℤ, pos, negsuc, ◌^◌, ◌<◌, ◌≤ℤ◌, true, false, not, List, [], ◌∷◌, ◌++◌, map, ap, sym, subst, arith}
use Rattle.std.specs.Prelude.{flat_map, int_lt, nat_lt, unsigned_abs}
use Rattle.std.specs.List.{AllByRecursion, list_all}
use Rattle.std.proofs.lemmas.Bool.{and_from, and_parts, ltb-true}
use Rattle.std.proofs.lemmas.Bool.Decides.{nat_tests}
use Rattle.std.proofs.lemmas.Int.{ints}
use Rattle.std.proofs.lemmas.List.Concat.{flat_map-cons}
use Rattle.ep_base.specs.Numbers.{absolute_of}
use Rattle.ep_base.specs.Reads.{MOST_NUMBER, is_too_far}
use Rattle.ep_ground.specs.declared.cells.Cell.{Cell}
use Rattle.ep_print_laws.proofs.Standing.{near_number}
use Rattle.ep_print_laws.specs.GivenBack.{HasName, IsNearDomain, is_near}
use Rattle.ep_tree.specs.Binding.{Find}
use Rattle.ep_unroll.specs.Cells.{cell_of, find_cells, index_lists}
use Rattle.sat_text.specs.Notes.{is_free_name}
use Rattle.ep_solve_laws.proofs.CellNames.{IsShortNumber}

-- ---- lists

pub all_joined : {X : Type 0} (P : X → Type 0) (xs ys : List X) → AllByRecursion P xs → AllByRecursion P ys → AllByRecursion P (xs ++ ys)
all_joined P [] ys h k = k
all_joined P (x ∷ xs) ys h k = (h.0, all_joined P xs ys h.1 k)

pub all_mapped : {X Y : Type 0} (P : Y → Type 0) (Q : X → Type 0) (f : X → Y) → ((x : X) → Q x → P (f x)) → (xs : List X) → AllByRecursion Q xs → AllByRecursion P (map f xs)
all_mapped P Q f each [] h = tt
all_mapped P Q f each (x ∷ xs) h = (each x h.0, all_mapped P Q f each xs h.1)

pub all_flat : {X Y : Type 0} (P : Y → Type 0) (Q : X → Type 0) (f : X → List Y) → ((x : X) → Q x → AllByRecursion P (f x)) → (xs : List X) → AllByRecursion Q xs → AllByRecursion P (flat_map f xs)
all_flat P Q f each [] h = tt
all_flat P Q f each (x ∷ xs) h =
    subst (AllByRecursion P) (sym (flat_map-cons f x xs)) (all_joined P (f x) (flat_map f xs) (each x h.0) (all_flat P Q f each xs h.1))

-- ---- numbers

few_digits : (n : ℕ) → int_lt MOST_NUMBER (pos n) ≡ false → n < 10 ^ 18
few_digits n h =
    let most : pos n ≤ℤ MOST_NUMBER = grind (arith, ints) in
    let test : nat_lt n (10 ^ 18) ≡ true = grind (arith, nat_tests, ints) in
    ltb-true n (10 ^ 18) test

near_short : (n : ℤ) → is_near n ≡ true → IsShortNumber n
unfolding is_too_far absolute_of
near_short (pos n) h = few_digits n (near_number (pos n) h)
near_short (negsuc n) h = few_digits (suc n) (near_number (negsuc n) h)

numbers_short : (ns : List ℤ) → list_all is_near ns ≡ true → AllByRecursion IsShortNumber ns
numbers_short [] h = tt
numbers_short (n ∷ ns) h = let parts = and_parts (is_near n) (list_all is_near ns) h in (near_short n parts.0, numbers_short ns parts.1)

-- ---- cells

indices_short : (domains : List (List ℤ)) → list_all (list_all is_near) domains ≡ true → AllByRecursion (AllByRecursion IsShortNumber) (index_lists domains)
unfolding index_lists
indices_short [] h = (tt, tt)
indices_short (indices ∷ inner) h =
    let parts = and_parts (list_all is_near indices) (list_all (list_all is_near) inner) h in
    let rests = indices_short inner parts.1 in
    all_flat (AllByRecursion IsShortNumber) IsShortNumber (λ i. map (λ rest. i ∷ rest) (index_lists inner))
    (λ i short. all_mapped (AllByRecursion IsShortNumber) (AllByRecursion IsShortNumber) (λ rest. i ∷ rest) (λ rest more. (short, more)) (index_lists inner) rests)
    indices (numbers_short indices parts.0)

-- a cell with a name of the language, and indices and values of few digits
pub record IsNearCell (one : Cell) : Type 0 where
  pub named : is_free_name one.name ≡ true
  pub indices : AllByRecursion IsShortNumber one.indices
  pub values : AllByRecursion IsShortNumber one.values

cells_near : (f : Find) → HasName f → IsNearDomain f → AllByRecursion IsNearCell (find_cells f)
unfolding find_cells
cells_near f name near =
    let named : is_free_name f.name ≡ true = and_from _ _ name.name (ap not name.no_word) in
    all_mapped IsNearCell (AllByRecursion IsShortNumber) (cell_of f)
    (λ indices short. record { named = named; indices = short; values = numbers_short f.values near.values }) (index_lists f.indices)
    (indices_short f.indices near.indices)

-- a decision variable with a name and a near domain
abbrev pub IsNearFind : Find → Type 0
IsNearFind f = HasName f × IsNearDomain f

pub all_cells_near : (finds : List Find) → AllByRecursion IsNearFind finds → AllByRecursion IsNearCell (flat_map find_cells finds)
all_cells_near finds h = all_flat IsNearCell IsNearFind find_cells (λ f near. cells_near f near.0 near.1) finds h
