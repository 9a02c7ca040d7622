-- Under an assignment that makes the literals of one place true, a variable means what it says.
use Rattle.std.proofs.Common.{◌≡◌, ◌≢◌, ℕ, zero, suc, ◌+◌, ◌-◌, ◌<◌, ◌≤◌, nat_lt, nat_le, ◌==◌, ℤ, ◌<ℤ◌, ◌≤ℤ◌, Bool, true, false, not, int_le, int_lt, List, [], ◌∷◌, length, cond, refl, sym, ap, subst, ◌∙◌, arith, slice_index_or}
use Rattle.std.specs.Prelude.{filter, pos}
use Rattle.std.specs.List.{Contains}
use Rattle.std.specs.List.Sorted.{IsPartitionedBy}
use Rattle.std.specs.Ordering.{int_eq}
use Rattle.std.proofs.lemmas.Bool.Decides.{Decides-int_eq, nat_tests}
use Rattle.std.proofs.lemmas.Int.{ints}
use Rattle.ep_base.specs.Numbers.{has_number}
use Rattle.ep_base.specs.Reads.{first_or_zero, same_bool}
use Rattle.ep_base.specs.Runs.{IsAscending}
use Rattle.enc_var.proofs.Choices.{eq_is, eq_none, eq_single, le_all, le_is, le_none}
use Rattle.enc_var.proofs.Counts.{has_number_decides, is_below, none_pass, parted_up_to, passed_at}
use Rattle.enc_var.specs.Decoding.{Means, VariableLiterals, decoded, eq_of, known_holds, le_of, literal_holds, literal_of_note, place_literal, values_below, values_up_to}

pub lt_true : (a b : ℕ) → a < b → nat_lt a b ≡ true
lt_true a b h = grind (arith, nat_tests)

pub lt_false : (a b : ℕ) → b ≤ a → nat_lt a b ≡ false
lt_false a b h = grind (arith, nat_tests)

pub same_true : (a b : ℕ) → a ≡ b → (a == b) ≡ true
same_true a b h = grind (arith, nat_tests)

pub same_false : (a b : ℕ) → (a ≡ b → ⊥) → (a == b) ≡ false
same_false a b h = by (a == b) refl
  where
    by : (t : Bool) → (a == b) ≡ t → t ≡ false
    by false e = refl
    by true e = absurd (h (grind (arith, nat_tests)))

pub lt_back : (a b : ℕ) → nat_lt a b ≡ true → a < b
lt_back a b h = grind (arith, nat_tests)

pub lt_back_false : (a b : ℕ) → nat_lt a b ≡ false → b ≤ a
lt_back_false a b h = grind (arith, nat_tests)

pub same_default : {X : Type 0} (xs : List X) (k : ℕ) (d e : X) → k < length xs → slice_index_or xs k d ≡ slice_index_or xs k e
same_default [] k d e low = absurd (omega (arith, low))
same_default (x ∷ xs) zero d e low = refl
same_default (x ∷ xs) (suc k) d e low = same_default xs k d e (omega (arith, low))

-- the value at a place
abbrev pub value_at : List ℤ → ℕ → ℤ
value_at xs k = slice_index_or xs k (pos 0)

pub stands_at : (xs : List ℤ) (v : ℤ) (found : Contains xs v) → value_at xs found.0 ≡ v
stands_at xs v found = same_default xs found.0 (pos 0) v found.1 ∙ found.2

pub value_stands : (xs : List ℤ) (k : ℕ) → k < length xs → Contains xs (value_at xs k)
value_stands xs k low = (k, low, same_default xs k (value_at xs k) (pos 0) low)

is_not_below : (a b : ℤ) → b ≤ℤ a → int_lt a b ≡ false
is_not_below a b h = by (int_lt a b) refl
  where
    by : (t : Bool) → int_lt a b ≡ t → t ≡ false
    by false e = refl
    by true e = absurd (omega (arith, ints, h, e))

later_at : (xs : List ℤ) (q k : ℕ) → IsAscending xs → q ≤ k → k < length xs → value_at xs q ≤ℤ value_at xs k
later_at xs q k up order low = by (nat_lt q k) refl
  where
    by : (t : Bool) → nat_lt q k ≡ t → value_at xs q ≤ℤ value_at xs k
    by true e = let rises = up q k (pos 0) (lt_back q k e) low in omega (arith, ints, rises)
    by false e = let same : q ≡ k = omega (arith, order, lt_back_false q k e) in subst (λ j. value_at xs q ≤ℤ value_at xs j) same (omega (arith, ints))

-- as many values are below the one at a place as stand before it
pub below_at : (xs : List ℤ) (q : ℕ) → IsAscending xs → q < length xs → values_below xs (value_at xs q) ≡ q
unfolding values_below
below_at xs q up low =
    sym (passed_at (λ w. int_lt w (value_at xs q)) xs q (omega (arith, low))
    (λ k d from before. is_below (slice_index_or xs k d) (value_at xs q) (subst (λ w. w <ℤ value_at xs q) (same_default xs k (pos 0) d (omega (arith, low, before))) (up k q (pos 0) before low)))
    (λ k d from before. is_not_below (slice_index_or xs k d) (value_at xs q) (subst (λ w. value_at xs q ≤ℤ w) (same_default xs k (pos 0) d before) (later_at xs q k up from before))))

-- a place is among the first that pass exactly where its value passes
counted_at : (p : ℤ → Bool) (xs : List ℤ) (k : ℕ) → k < length xs → IsPartitionedBy p xs → nat_lt k (length (filter p xs)) ≡ p (value_at xs k)
counted_at p [] k low parted = absurd (omega (arith, low))
counted_at p (x ∷ xs) k low parted =
    by (λ j within. counted_at p xs j within (λ i l d le far holds. parted (suc i) (suc l) d (omega (arith, le)) (omega (arith, far)) holds)) k low (p x) refl
  where
    none : p x ≡ false → (j : ℕ) (d : ℤ) → j < length (x ∷ xs) → p (slice_index_or (x ∷ xs) j d) ≡ false
    none fails j d within = cases (p (slice_index_or (x ∷ xs) j d)) refl
      where
        cases : (t : Bool) → p (slice_index_or (x ∷ xs) j d) ≡ t → t ≡ false
        cases false e = refl
        cases true e = sym (parted 0 j d (omega arith) within e) ∙ fails

    next : (k c : ℕ) → nat_lt (suc k) (suc c) ≡ nat_lt k c
    next k c = grind (arith, nat_tests)

    by : ((j : ℕ) → j < length xs → nat_lt j (length (filter p xs)) ≡ p (value_at xs j)) → (k : ℕ) → k < length (x ∷ xs) → (t : Bool) → p x ≡ t → nat_lt k (length (cond t (x ∷ filter p xs) (filter p xs))) ≡ p (value_at (x ∷ xs) k)
    by rest zero low true e = lt_true 0 (suc (length (filter p xs))) (omega arith) ∙ sym e
    by rest (suc k) low true e = next k (length (filter p xs)) ∙ rest k (omega (arith, low))
    by rest k low false e =
        let few = none_pass p xs (λ j d from within. none e (suc j) d (omega (arith, within))) in
        lt_false k (length (filter p xs)) (omega (arith, few)) ∙ sym (none e k (pos 0) low)

pub up_to_at : (xs : List ℤ) (k : ℕ) (v : ℤ) → IsAscending xs → k < length xs → nat_lt k (values_up_to xs v) ≡ int_le (value_at xs k) v
unfolding values_up_to
up_to_at xs k v up low = counted_at (λ w. int_le w v) xs k low (parted_up_to xs v up)

-- the values at two places are equal exactly where the places are
pub equal_at : (xs : List ℤ) (p q : ℕ) → IsAscending xs → p < length xs → q < length xs → (q == p) ≡ int_eq (value_at xs p) (value_at xs q)
equal_at xs p q up low high = by (nat_lt p q) (nat_lt q p) refl refl
  where
    differ : (a b : ℤ) → a ≢ b → int_eq a b ≡ false
    differ a b apart = cases (int_eq a b) refl
      where
        cases : (t : Bool) → int_eq a b ≡ t → t ≡ false
        cases false e = refl
        cases true e = absurd (apart ((Decides-int_eq a b).0 e))

    by : (s t : Bool) → nat_lt p q ≡ s → nat_lt q p ≡ t → (q == p) ≡ int_eq (value_at xs p) (value_at xs q)
    by true t e f =
        let rises = up p q (pos 0) (lt_back p q e) high in
        same_false q p (λ is. omega (arith, is, lt_back p q e)) ∙ sym (differ (value_at xs p) (value_at xs q) (λ is. omega (arith, ints, rises, is)))
    by false true e f =
        let rises = up q p (pos 0) (lt_back q p f) low in
        same_false q p (λ is. omega (arith, is, lt_back q p f)) ∙ sym (differ (value_at xs p) (value_at xs q) (λ is. omega (arith, ints, rises, is)))
    by false false e f =
        let is : q ≡ p = omega (arith, lt_back_false p q e, lt_back_false q p f) in
        same_true q p is ∙ sym ((Decides-int_eq (value_at xs p) (value_at xs q)).1 (ap (value_at xs) (sym is)))

-- the first value that passes is the only one
first_is : (p : ℤ → Bool) (xs : List ℤ) (d : ℤ) → Contains xs d → p d ≡ true → ((v : ℤ) → Contains xs v → p v ≡ true → v ≡ d) → first_or_zero (filter p xs) ≡ d
unfolding first_or_zero
first_is p [] d found passes only = absurd (omega (arith, found.1))
first_is p (x ∷ xs) d found passes only =
    by (λ at. first_is p xs d at passes (λ v (j, within, same) ok. only v (suc j, omega (arith, within), same) ok)) (p x) refl found
  where
    by : (Contains xs d → first_or_zero (filter p xs) ≡ d) → (t : Bool) → p x ≡ t → Contains (x ∷ xs) d → first_or_zero (cond t (x ∷ filter p xs) (filter p xs)) ≡ d
    by rest true e at = only x (0, omega arith, refl) e
    by rest false e (zero, low, is) = absurd (bad (sym e ∙ ap p is ∙ passes))
      where
        bad : false ≡ true → ⊥
        bad h = cc
    by rest false e (suc k, low, is) = rest (k, omega (arith, low), is)

-- The literals of a variable are those of one place: "at least" holds up to it, and "is" there alone.
pub record IsAtPlace (s : ℕ → Bool) (e : VariableLiterals) (p : ℕ) : Type 0 where
  pub ascending : IsAscending e.domain
  pub there : p < length e.domain
  pub reaches : (j : ℕ) → j < length e.domain - 1 → s (e.first + j) ≡ nat_lt j p
  pub is : (q : ℕ) → q < length e.domain → literal_holds s (place_literal e.first (length e.domain) q) ≡ (q == p)

-- the literal of a value says whether it is the one at the place
pub noted_at_place : (s : ℕ → Bool) (e : VariableLiterals) (p : ℕ) → IsAtPlace s e p → (v : ℤ) → Contains e.domain v → literal_holds s (literal_of_note e v) ≡ int_eq (value_at e.domain p) v
unfolding literal_of_note
noted_at_place s e p h v found =
    let q = found.0 in
    ap (λ w. literal_holds s (place_literal e.first (length e.domain) (values_below e.domain w))) (sym (stands_at e.domain v found))
    ∙ ap (λ k. literal_holds s (place_literal e.first (length e.domain) k)) (below_at e.domain q h.ascending found.1)
    ∙ h.is q found.1 ∙ equal_at e.domain p q h.ascending h.there found.1 ∙ ap (int_eq (value_at e.domain p)) (stands_at e.domain v found)

pub equal_at_place : (s : ℕ → Bool) (e : VariableLiterals) (p : ℕ) → IsAtPlace s e p → (v : ℤ) → known_holds s (eq_of e v) ≡ int_eq (value_at e.domain p) v
unfolding known_holds
equal_at_place s e p h v = by (has_number e.domain v) refl
  where
    by : (t : Bool) → has_number e.domain v ≡ t → known_holds s (eq_of e v) ≡ int_eq (value_at e.domain p) v
    by false out = ap (known_holds s) (sym (eq_none e v out)) ∙ cases (int_eq (value_at e.domain p) v) refl
      where
        cases : (t : Bool) → int_eq (value_at e.domain p) v ≡ t → false ≡ t
        cases false is = refl
        cases true is = sym out ∙ (has_number_decides e.domain v).1 (subst (Contains e.domain) ((Decides-int_eq (value_at e.domain p) v).0 is) (value_stands e.domain p h.there))
    by true among = few (nat_le (length e.domain) 1) refl
      where
        found : Contains e.domain v
        found = (has_number_decides e.domain v).0 among

        few : (t : Bool) → nat_le (length e.domain) 1 ≡ t → known_holds s (eq_of e v) ≡ int_eq (value_at e.domain p) v
        few true one =
            let short : length e.domain ≤ 1 = grind (arith, nat_tests) in
            let same : found.0 ≡ p = omega (arith, short, h.there, found.1) in
            ap (known_holds s) (sym (eq_single e v among short))
            ∙ sym ((Decides-int_eq (value_at e.domain p) v).1 (ap (value_at e.domain) (sym same) ∙ stands_at e.domain v found))
        few false many =
            let long : 1 < length e.domain = grind (arith, nat_tests) in
            ap (known_holds s) (sym (eq_is e v among long)) ∙ noted_at_place s e p h v found

pub at_most_at_place : (s : ℕ → Bool) (e : VariableLiterals) (p : ℕ) → IsAtPlace s e p → (v : ℤ) → known_holds s (le_of e v) ≡ int_le (value_at e.domain p) v
unfolding known_holds literal_holds same_bool
at_most_at_place s e p h v = by (values_up_to e.domain v) refl ∙ up_to_at e.domain p v h.ascending h.there
  where
    flipped : (b c : Bool) → b ≡ c → same_bool b false ≡ not c
    flipped true true same = refl
    flipped false false same = refl
    flipped true false same = cc
    flipped false true same = cc

    turned : (c : ℕ) → not (nat_lt c p) ≡ nat_lt p (suc c)
    turned c = cases (nat_lt c p) refl
      where
        cases : (t : Bool) → nat_lt c p ≡ t → not t ≡ nat_lt p (suc c)
        cases true is = sym (lt_false p (suc c) (omega (arith, lt_back c p is)))
        cases false is = sym (lt_true p (suc c) (omega (arith, lt_back_false c p is)))

    by : (c : ℕ) → c ≡ values_up_to e.domain v → known_holds s (le_of e v) ≡ nat_lt p (values_up_to e.domain v)
    by zero is = ap (known_holds s) (sym (le_none e v 0 is refl)) ∙ sym (ap (nat_lt p) (sym is) ∙ lt_false p 0 (omega arith))
    by (suc c) is = long (nat_lt (suc c) (length e.domain)) refl
      where
        long : (t : Bool) → nat_lt (suc c) (length e.domain) ≡ t → known_holds s (le_of e v) ≡ nat_lt p (values_up_to e.domain v)
        long false all =
            let enough = lt_back_false (suc c) (length e.domain) all in
            ap (known_holds s) (sym (le_all e v (suc c) is (omega arith) enough))
            ∙ sym (ap (nat_lt p) (sym is) ∙ lt_true p (suc c) (omega (arith, enough, h.there)))
        long true less =
            let low = lt_back (suc c) (length e.domain) less in
            let back : suc c - 1 ≡ c = omega arith in
            ap (known_holds s) (sym (le_is e v (suc c) is (omega arith) low))
            ∙ ap (λ j. same_bool (s (e.first + j)) false) back ∙ flipped (s (e.first + c)) (nat_lt c p) (h.reaches c (omega (arith, low)))
            ∙ turned c ∙ ap (nat_lt p) is

-- the value that an assignment gives a variable is the one at the place
pub decoded_at_place : (s : ℕ → Bool) (e : VariableLiterals) (p : ℕ) → IsAtPlace s e p → decoded s e ≡ value_at e.domain p
unfolding decoded
decoded_at_place s e p h =
    let d = value_at e.domain p in
    first_is (λ v. known_holds s (eq_of e v)) e.domain d (value_stands e.domain p h.there)
    (equal_at_place s e p h d ∙ (Decides-int_eq d d).1 refl)
    (λ v found holds. sym ((Decides-int_eq d v).0 (sym (equal_at_place s e p h v) ∙ holds)))

pub means_at_place : (s : ℕ → Bool) (e : VariableLiterals) (p : ℕ) → IsAtPlace s e p → Means s e
means_at_place s e p h =
    let dec = decoded_at_place s e p h in
    record {
      among = subst (Contains e.domain) (sym dec) (value_stands e.domain p h.there);
      at_most = λ v. at_most_at_place s e p h v ∙ ap (λ d. int_le d v) (sym dec);
      equal = λ v. equal_at_place s e p h v ∙ ap (λ d. int_eq d v) (sym dec);
      noted = λ v found. noted_at_place s e p h v found ∙ ap (λ d. int_eq d v) (sym dec);
    }

-- fewer values than there are lie below one of them
pub below_found : (xs : List ℤ) (v : ℤ) → IsAscending xs → Contains xs v → values_below xs v < length xs
below_found xs v up found =
    let is : values_below xs v ≡ found.0 = ap (values_below xs) (sym (stands_at xs v found)) ∙ below_at xs found.0 up found.1 in
    omega (arith, is, found.1)
