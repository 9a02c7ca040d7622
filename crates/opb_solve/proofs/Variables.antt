-- Each problem has a list of its variables, and a weight.
use Rattle.std.proofs.Common.{◌≡◌, ◌↔◌, ◌⊎◌, inl, inr, ℕ, ◌+◌, ◌*◌, ◌<◌, List, [], ◌∷◌, length, refl, sym, subst, ◌∙◌, arith}
use Rattle.std.specs.List.{AllPairs, Contains}
use Rattle.std.proofs.lemmas.Bool.{cases_lt}
use Rattle.std.proofs.lemmas.List.Elements.{All-contains_itself, All-weaker}
use Rattle.std.proofs.lemmas.List.Kept.{AllPairs-cons}
use Rattle.opb_text.specs.Contents.{OpbContent, named_variables}
use Rattle.opb_text.specs.Weights.{Weighs, sums_cost}
use Rattle.opb_solve.proofs.SameVariables.{above_first, cases, first, later, nothing, tail}

-- numbers in ascending order, each once: those of a list, and one more
record IsWith (v : ℕ) (xs zs : List ℕ) : Type 0 where
  ascending : AllPairs ◌<◌ zs
  same : (w : ℕ) → Contains zs w ↔ ((v ≡ w) ⊎ Contains xs w)

-- a number below all of these comes first
front : (x : ℕ) (zs : List ℕ) → ((w : ℕ) → Contains zs w → x < w) → AllPairs ◌<◌ zs → AllPairs ◌<◌ (x ∷ zs)
front x zs below up = AllPairs-cons ◌<◌ x zs (All-weaker (Contains zs) (λ w. x < w) below zs (All-contains_itself zs)) up

first_or : (x w : ℕ) (xs : List ℕ) → Contains (x ∷ xs) w ↔ ((x ≡ w) ⊎ Contains xs w)
first_or x w xs = (
  λ c. cases x w xs c,
  λ either. elim either as (λ _. Contains (x ∷ xs) w) [ inl e ↦ subst (Contains (x ∷ xs)) e (first x xs) | inr c ↦ later x w xs c ],
)

none_below : (x : ℕ) → (w : ℕ) → Contains [] w → x < w
none_below x w c = nothing w c

with_none : (v : ℕ) → IsWith v [] (v ∷ [])
with_none v = record { ascending = front v [] (none_below v) (λ i j d lt inside. absurd (omega (arith, inside))); same = λ w. first_or v w [] }

with_lowest : (v x : ℕ) (xs : List ℕ) → v < x → AllPairs ◌<◌ (x ∷ xs) → IsWith v (x ∷ xs) (v ∷ x ∷ xs)
with_lowest v x xs lt up =
    let below : (w : ℕ) → Contains (x ∷ xs) w → v < w = λ w c. elim (cases x w xs c) as (λ _. v < w) [
      | inl e ↦ omega (arith, e, lt)
      | inr later_one ↦ let above = above_first x w xs up later_one in omega (arith, above, lt)
    ] in
    record { ascending = front v (x ∷ xs) below up; same = λ w. first_or v w (x ∷ xs) }

with_same : (v x : ℕ) (xs : List ℕ) → v ≡ x → AllPairs ◌<◌ (x ∷ xs) → IsWith v (x ∷ xs) (x ∷ xs)
with_same v x xs e up =
    record {
      ascending = up;
      same = λ w. (
        λ c. inr c,
        λ either. elim either as (λ _. Contains (x ∷ xs) w) [ inl is ↦ subst (Contains (x ∷ xs)) (sym e ∙ is) (first x xs) | inr c ↦ c ],
      );
    }

with_later : (v x : ℕ) (xs zs : List ℕ) → x < v → AllPairs ◌<◌ (x ∷ xs) → IsWith v xs zs → IsWith v (x ∷ xs) (x ∷ zs)
with_later v x xs zs lt up h =
    let below : (w : ℕ) → Contains zs w → x < w = λ w c. elim ((h.same w).0 c) as (λ _. x < w) [
      | inl e ↦ omega (arith, e, lt)
      | inr old ↦ above_first x w xs up old
    ] in
    record {
      ascending = front x zs below h.ascending;
      same = λ w. (
        λ c. elim (cases x w zs c) as (λ _. (v ≡ w) ⊎ Contains (x ∷ xs) w) [
          | inl e ↦ inr (subst (Contains (x ∷ xs)) e (first x xs))
          | inr new ↦ elim ((h.same w).0 new) as (λ _. (v ≡ w) ⊎ Contains (x ∷ xs) w) [ inl e ↦ inl e | inr old ↦ inr (later x w xs old) ]
        ],
        λ either. elim either as (λ _. Contains (x ∷ zs) w) [
          | inl e ↦ later x w zs ((h.same w).1 (inl e))
          | inr old ↦ elim (cases x w xs old) as (λ _. Contains (x ∷ zs) w) [
            | inl e ↦ subst (Contains (x ∷ zs)) e (first x zs)
            | inr c ↦ later x w zs ((h.same w).1 (inr c))
          ]
        ],
      );
    }

with_one : (v : ℕ) (xs : List ℕ) → AllPairs ◌<◌ xs → (zs : List ℕ) × IsWith v xs zs
with_one v [] up = (v ∷ [], with_none v)
with_one v (x ∷ xs) up =
    elim (cases_lt v x) as (λ _. (zs : List ℕ) × IsWith v (x ∷ xs) zs) [
      | inl lt ↦ (v ∷ x ∷ xs, with_lowest v x xs lt up)
      | inr le ↦ elim (cases_lt x v) as (λ _. (zs : List ℕ) × IsWith v (x ∷ xs) zs) [
        | inl lt ↦ let rest = with_one v xs (tail x xs up) in (x ∷ rest.0, with_later v x xs rest.0 lt up rest.1)
        | inr ge ↦ (x ∷ xs, with_same v x xs (omega (arith, le, ge)) up)
      ]
    ]

-- numbers in ascending order, each once: those of a list
record IsOrder (xs zs : List ℕ) : Type 0 where
  ascending : AllPairs ◌<◌ zs
  same : (w : ℕ) → Contains zs w ↔ Contains xs w

order_more : (x : ℕ) (xs zs all : List ℕ) → IsOrder xs zs → IsWith x zs all → IsOrder (x ∷ xs) all
order_more x xs zs all h g =
    record {
      ascending = g.ascending;
      same = λ w. (
        λ c. elim ((g.same w).0 c) as (λ _. Contains (x ∷ xs) w) [ inl e ↦ subst (Contains (x ∷ xs)) e (first x xs) | inr old ↦ later x w xs ((h.same w).0 old) ],
        λ c. elim (cases x w xs c) as (λ _. Contains all w) [ inl e ↦ (g.same w).1 (inl e) | inr old ↦ (g.same w).1 (inr ((h.same w).1 old)) ],
      );
    }

in_order : (xs : List ℕ) → (zs : List ℕ) × IsOrder xs zs
in_order [] = ([], record { ascending = λ i j d lt inside. absurd (omega (arith, inside)); same = λ w. (λ c. c, λ c. c) })
in_order (x ∷ xs) =
    let rest = in_order xs in
    let all = with_one x rest.0 rest.1.ascending in
    (all.0, order_more x xs rest.0 all.0 rest.1 all.1)

-- a problem has a weight
pub weighs_some : (content : OpbContent) → (weight : ℕ) × Weighs content weight
weighs_some content =
    let vars = in_order (named_variables content) in (
      2 * length vars.0 + sums_cost content,
      record { vars = vars.0; variables = record { ascending = vars.1.ascending; same = vars.1.same }; is = refl },
    )
