-- The places of hints, found one after another.
use Rattle.std.proofs.Common.{ℕ, ◌+◌, ◌<◌, ◌≤◌, inl, inr, ℤ, List, [], ◌∷◌, ◌++◌, length, get_or, drop, refl, sym, subst, append_assoc}
use Rattle.std.proofs.lemmas.List.{append-nil, drop_all, drop_more}
use Rattle.sat_merge.specs.Proofs.{AreIdPlaces, IsNoId, IsPlaceOf}

-- the first so many hints have these places, and the others go on behind them
abbrev pub GoesOn : List ℕ → List ℤ → ℕ → List ℕ → Type 0
GoesOn ids hints k places = (rest : List ℕ) → AreIdPlaces ids (drop k hints) rest → AreIdPlaces ids hints (places ++ rest)

pub goes_more : (ids : List ℕ) (hints : List ℤ) (k : ℕ) (d : ℤ) (places : List ℕ) (place : ℕ) → k < length hints → IsPlaceOf ids (get_or hints k d) place → GoesOn ids hints k places → GoesOn ids hints (k + 1) (places ++ place ∷ [])
goes_more ids hints k d places place below at on = λ rest are.
    subst (AreIdPlaces ids hints) (sym (append_assoc places (place ∷ []) rest))
    (on (place ∷ rest)
    (subst (λ (hs : List ℤ). AreIdPlaces ids hs (place ∷ rest)) (sym (drop_more hints k d below)) (inr (place, rest, refl, at, are))))

pub goes_none : (ids : List ℕ) (hints : List ℤ) (k : ℕ) (d : ℤ) (places : List ℕ) → k < length hints → IsNoId ids (get_or hints k d) → GoesOn ids hints k places → AreIdPlaces ids hints places
goes_none ids hints k d places below none on =
    subst (AreIdPlaces ids hints) (append-nil places)
    (on []
    (subst (λ (hs : List ℤ). AreIdPlaces ids hs []) (sym (drop_more hints k d below)) (inl (none, refl))))

pub goes_all : (ids : List ℕ) (hints : List ℤ) (k : ℕ) (places : List ℕ) → length hints ≤ k → GoesOn ids hints k places → AreIdPlaces ids hints places
goes_all ids hints k places all on =
    subst (AreIdPlaces ids hints) (append-nil places) (on [] (subst (λ (hs : List ℤ). AreIdPlaces ids hs []) (sym (drop_all k hints all)) refl))
