-- Tied literals are those of one place, and an assignment can be chosen for each place.
use Rattle.std.proofs.Common.{◌≡◌, inl, inr, ℕ, zero, suc, ◌+◌, ◌-◌, ◌<◌, ◌≤◌, nat_lt, nat_le, ◌==◌, Bool, true, false, not, length, refl, sym, ap, ◌∙◌, arith, if◌then◌else◌}
use Rattle.std.proofs.lemmas.Bool.Decides.{nat_tests}
use Rattle.ep_base.specs.Reads.{same_bool}
use Rattle.ep_base.specs.Runs.{IsAscending}
use Rattle.cnf_core.specs.Clauses.{AgreeUpTo}
use Rattle.enc_var.proofs.Choices.{at_most, not_at_most, place_first, place_inner, place_last, place_single}
use Rattle.enc_var.proofs.Places.{IsAtPlace, lt_back, lt_back_false, lt_false, lt_true, same_false, same_true}
use Rattle.enc_var.specs.Decoding.{VariableLiterals, literal_holds, place_literal}
use Rattle.enc_var.specs.Ties.{AreTied, IsTied}

clash : {X : Type 0} (b : Bool) → b ≡ true → b ≡ false → X
clash b t f = absurd (bad (sym t ∙ f))
  where
    bad : true ≡ false → ⊥
    bad h = cc

chain_more : (s : ℕ → Bool) (first m : ℕ) → ((k : ℕ) → k + 1 < suc m → s (first + (k + 1)) ≡ true → s (first + k) ≡ true)
    → (p : ℕ) × (p ≤ m) × ((j : ℕ) → j < m → s (first + j) ≡ nat_lt j p)
    → (p : ℕ) × (p ≤ suc m) × ((j : ℕ) → j < suc m → s (first + j) ≡ nat_lt j p)
chain_more s first m chain rest = by (s (first + m)) refl
  where
    full : s (first + m) ≡ true → rest.0 ≡ m
    full holds = cases (nat_lt rest.0 m) refl
      where
        cases : (t : Bool) → nat_lt rest.0 m ≡ t → rest.0 ≡ m
        cases false e = omega (arith, lt_back_false rest.0 m e, rest.1)
        cases true e =
            let less = lt_back rest.0 m e in
            let is : m ≡ (m - 1) + 1 = omega (arith, less) in
            let below = chain (m - 1) (omega (arith, is)) (ap (λ j. s (first + j)) (sym is) ∙ holds) in
            let low = lt_back (m - 1) rest.0 (sym (rest.2 (m - 1) (omega (arith, is))) ∙ below) in
            absurd (omega (arith, less, low, is))

    by : (t : Bool) → s (first + m) ≡ t → (p : ℕ) × (p ≤ suc m) × ((j : ℕ) → j < suc m → s (first + j) ≡ nat_lt j p)
    by true holds = (suc m, omega arith, λ j low. upto j low (nat_lt j m) refl)
      where
        upto : (j : ℕ) → j < suc m → (t : Bool) → nat_lt j m ≡ t → s (first + j) ≡ nat_lt j (suc m)
        upto j low true e =
            rest.2 j (lt_back j m e) ∙ lt_true j rest.0 (omega (arith, lt_back j m e, full holds)) ∙ sym (lt_true j (suc m) (omega (arith, low)))
        upto j low false e =
            let is : j ≡ m = omega (arith, low, lt_back_false j m e) in
            ap (λ k. s (first + k)) is ∙ holds ∙ sym (lt_true j (suc m) (omega (arith, low)))
    by false fails = (rest.0, omega (arith, rest.1), λ j low. upto j low (nat_lt j m) refl)
      where
        upto : (j : ℕ) → j < suc m → (t : Bool) → nat_lt j m ≡ t → s (first + j) ≡ nat_lt j rest.0
        upto j low true e = rest.2 j (lt_back j m e)
        upto j low false e =
            let is : j ≡ m = omega (arith, low, lt_back_false j m e) in
            ap (λ k. s (first + k)) is ∙ fails ∙ sym (lt_false j rest.0 (omega (arith, rest.1, is)))

-- truth values that fall once are true up to a place
pub chain_place : (s : ℕ → Bool) (first m : ℕ) → ((k : ℕ) → k + 1 < m → s (first + (k + 1)) ≡ true → s (first + k) ≡ true)
    → (p : ℕ) × (p ≤ m) × ((j : ℕ) → j < m → s (first + j) ≡ nat_lt j p)
chain_place s first zero chain = (0, omega arith, λ j low. absurd (omega (arith, low)))
chain_place s first (suc m) chain = chain_more s first m chain (chain_place s first m (λ k low. chain k (omega (arith, low))))

turned : (b : Bool) → same_bool b false ≡ not b
unfolding same_bool
turned true = refl
turned false = refl

kept : (b : Bool) → same_bool b true ≡ b
unfolding same_bool
kept true = refl
kept false = refl

-- literals that are tied and reach up to a place are those of the place
pub tied_at_place : (s : ℕ → Bool) (e : VariableLiterals) (p : ℕ) → IsAscending e.domain → 1 < length e.domain → p < length e.domain
    → ((j : ℕ) → j < length e.domain - 1 → s (e.first + j) ≡ nat_lt j p) → AreTied e.first (length e.domain) s → IsAtPlace s e p
unfolding literal_holds
tied_at_place s e p up many there reaches tied = record { ascending = up; there = there; reaches = reaches; is = λ q low. by q low (q == 0) refl (nat_le (length e.domain) (q + 1)) refl }
  where
    n : ℕ
    n = length e.domain

    first_place : (q : ℕ) → q ≡ 0 → literal_holds s (place_literal e.first (length e.domain) q) ≡ (q == p)
    first_place q zero_place =
        let here : s e.first ≡ nat_lt 0 p = ap s (omega arith) ∙ reaches 0 (omega (arith, many)) in
        ap (literal_holds s) (sym (place_first e.first (length e.domain) q many zero_place)) ∙ turned (s e.first) ∙ ap not here ∙ cases (nat_lt 0 p) refl
      where
        cases : (t : Bool) → nat_lt 0 p ≡ t → not t ≡ (q == p)
        cases true is = sym (same_false q p (λ same. omega (arith, same, zero_place, lt_back 0 p is)))
        cases false is = sym (same_true q p (omega (arith, zero_place, lt_back_false 0 p is)))

    last_place : (q : ℕ) → 0 < q → q < length e.domain → length e.domain ≤ q + 1 → literal_holds s (place_literal e.first (length e.domain) q) ≡ (q == p)
    last_place q more low last =
        ap (literal_holds s) (sym (place_last e.first (length e.domain) q many more last)) ∙ kept (s (e.first + (q - 1)))
        ∙ reaches (q - 1) (omega (arith, more, low, last)) ∙ cases (nat_lt (q - 1) p) refl
      where
        cases : (t : Bool) → nat_lt (q - 1) p ≡ t → t ≡ (q == p)
        cases true is = sym (same_true q p (omega (arith, more, last, there, lt_back (q - 1) p is)))
        cases false is = sym (same_false q p (λ same. omega (arith, same, more, lt_back_false (q - 1) p is)))

    inner_place : (q : ℕ) → 0 < q → q + 1 < length e.domain → literal_holds s (place_literal e.first (length e.domain) q) ≡ (q == p)
    inner_place q more low =
        ap (literal_holds s) (sym (place_inner e.first (length e.domain) q many more low)) ∙ kept (s (e.first + (length e.domain - 1) + (q - 1)))
        ∙ cases (s (e.first + (length e.domain - 1) + (q - 1))) refl
      where
        k : ℕ
        k = q - 1

        tie : IsTied (e.first + k) (e.first + (k + 1)) (e.first + (length e.domain - 1) + k) s
        tie = tied k (omega (arith, more, low))

        lower : s (e.first + k) ≡ nat_lt k p
        lower = reaches k (omega (arith, more, low))

        higher : s (e.first + (k + 1)) ≡ nat_lt (k + 1) p
        higher = reaches (k + 1) (omega (arith, more, low))

        cases : (t : Bool) → s (e.first + (length e.domain - 1) + k) ≡ t → t ≡ (q == p)
        cases true is =
            elim tie.from_low as (λ _. true ≡ (q == p)) [
              | inl off ↦ clash (s (e.first + (length e.domain - 1) + k)) is off
              | inr on ↦ elim tie.from_high as (λ _. true ≡ (q == p)) [
                | inl off ↦ clash (s (e.first + (length e.domain - 1) + k)) is off
                | inr not_high ↦ sym (same_true q p (omega (arith, more, lt_back k p (sym lower ∙ on), lt_back_false (k + 1) p (sym higher ∙ not_high))))
              ]
            ]
        cases false is =
            elim tie.between as (λ _. false ≡ (q == p)) [
              | inl on ↦ clash (s (e.first + (length e.domain - 1) + k)) on is
              | inr other ↦ elim other as (λ _. false ≡ (q == p)) [
                | inl not_low ↦ sym (same_false q p (λ same. omega (arith, same, more, lt_back_false k p (sym lower ∙ not_low))))
                | inr high ↦ sym (same_false q p (λ same. omega (arith, same, more, lt_back (k + 1) p (sym higher ∙ high))))
              ]
            ]

    by : (q : ℕ) → q < length e.domain → (t : Bool) → (q == 0) ≡ t → (u : Bool) → nat_le (length e.domain) (q + 1) ≡ u → literal_holds s (place_literal e.first (length e.domain) q) ≡ (q == p)
    by q low true zero_place u last = first_place q (grind (arith, nat_tests))
    by q low false later true last = last_place q (grind (arith, nat_tests)) low (grind (arith, nat_tests))
    by q low false later false inner = inner_place q (grind (arith, nat_tests)) (grind (arith, nat_tests))

-- tied literals are those of some place
pub tied_somewhere : (s : ℕ → Bool) (e : VariableLiterals) → IsAscending e.domain → 1 < length e.domain → AreTied e.first (length e.domain) s → (p : ℕ) × IsAtPlace s e p
tied_somewhere s e up many tied =
    let found = chain_place s e.first (length e.domain - 1) falls in
    (found.0, tied_at_place s e found.0 up many (omega (arith, many, found.1)) found.2 tied)
  where
    falls : (k : ℕ) → k + 1 < length e.domain - 1 → s (e.first + (k + 1)) ≡ true → s (e.first + k) ≡ true
    falls k low high = elim (tied k (omega (arith, low))).chain as (λ _. s (e.first + k) ≡ true) [
      | inl off ↦ clash (s (e.first + (k + 1))) high off
      | inr on ↦ on
    ]

-- a single literal that is true is that of its one place
pub single_at_place : (s : ℕ → Bool) (e : VariableLiterals) → IsAscending e.domain → length e.domain ≡ 1 → s e.first ≡ true → IsAtPlace s e 0
unfolding literal_holds
single_at_place s e up one on = record {
  ascending = up;
  there = omega (arith, one);
  reaches = λ j low. absurd (omega (arith, low, one));
  is = λ q low.
      ap (literal_holds s) (sym (place_single e.first (length e.domain) q (omega (arith, one)))) ∙ kept (s e.first) ∙ on
      ∙ sym (same_true q 0 (omega (arith, one, low)));
}

-- the assignment that goes on from one, over the variables up to a number, so that the next variable is at a place
abbrev pub chosen : (ℕ → Bool) → ℕ → ℕ → ℕ → ℕ → Bool
chosen s most count p u =
    if nat_le u most
    then s u
    else (if nat_le count 1
    then true
    else (if nat_lt u (most + count) then nat_lt (u - (most + 1)) p else ((u - (most + count)) + 1 == p)))

pub chosen_agrees : (s : ℕ → Bool) (most count p : ℕ) → AgreeUpTo most s (chosen s most count p)
chosen_agrees s most count p v one low = rw (at_most v most low) refl

pub chosen_single : (s : ℕ → Bool) (most count p : ℕ) → count ≤ 1 → chosen s most count p (most + 1) ≡ true
chosen_single s most count p few = rw (not_at_most (most + 1) most (omega arith), at_most count 1 few) refl

pub chosen_reaches : (s : ℕ → Bool) (most count p : ℕ) → 1 < count → (j : ℕ) → j < count - 1 → chosen s most count p (most + 1 + j) ≡ nat_lt j p
chosen_reaches s most count p many j low =
    let back : (most + 1 + j) - (most + 1) ≡ j = omega arith in
    rw (not_at_most (most + 1 + j) most (omega arith), not_at_most count 1 many, lt_true (most + 1 + j) (most + count) (omega (arith, low)), back) refl

pub chosen_is : (s : ℕ → Bool) (most count p : ℕ) → 1 < count → (k : ℕ) → chosen s most count p (most + 1 + (count - 1) + k) ≡ (k + 1 == p)
chosen_is s most count p many k =
    let back : (most + 1 + (count - 1) + k) - (most + count) ≡ k = omega (arith, many) in
    rw (not_at_most (most + 1 + (count - 1) + k) most (omega arith), not_at_most count 1 many, lt_false (most + 1 + (count - 1) + k) (most + count) (omega (arith, many)), back) refl

-- truth values as a place says are tied
tie_made : (t : ℕ → Bool) (low high is k p : ℕ) → t low ≡ nat_lt k p → t high ≡ nat_lt (k + 1) p → t is ≡ (k + 1 == p) → IsTied low high is t
tie_made t low high is k p at_low at_high at_is = by (nat_lt k p) (nat_lt (k + 1) p) refl refl
  where
    by : (a b : Bool) → nat_lt k p ≡ a → nat_lt (k + 1) p ≡ b → IsTied low high is t
    by true true e f =
        let off = at_is ∙ same_false (k + 1) p (λ same. omega (arith, same, lt_back (k + 1) p f)) in
        record { chain = inr (at_low ∙ e); from_low = inr (at_low ∙ e); from_high = inl off; between = inr (inr (at_high ∙ f)) }
    by true false e f =
        let on = at_is ∙ same_true (k + 1) p (omega (arith, lt_back k p e, lt_back_false (k + 1) p f)) in
        record { chain = inl (at_high ∙ f); from_low = inr (at_low ∙ e); from_high = inr (at_high ∙ f); between = inl on }
    by false false e f =
        let off = at_is ∙ same_false (k + 1) p (λ same. omega (arith, same, lt_back_false k p e)) in
        record { chain = inl (at_high ∙ f); from_low = inl off; from_high = inl off; between = inr (inl (at_low ∙ e)) }
    by false true e f = absurd (omega (arith, lt_back_false k p e, lt_back (k + 1) p f))

pub chosen_tied : (s : ℕ → Bool) (most count p : ℕ) → 1 < count → AreTied (most + 1) count (chosen s most count p)
chosen_tied s most count p many k low =
    tie_made (chosen s most count p) (most + 1 + k) (most + 1 + (k + 1)) (most + 1 + (count - 1) + k) k p
    (chosen_reaches s most count p many k (omega (arith, low))) (chosen_reaches s most count p many (k + 1) (omega (arith, low))) (chosen_is s most count p many k)
