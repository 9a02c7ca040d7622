-- What holds of lists of runs: membership, order, and one more run at the end.
use Rattle.std.proofs.Common.{◌≡◌, ◌↔◌, ◌⊎◌, inl, inr, ℕ, zero, suc, ◌+◌, ◌<◌, ◌≤◌, ℤ, pos, negsuc, ◌+ℤ◌, ◌-ℤ◌, ◌≤ℤ◌, ◌<ℤ◌, true, false, ltb, List, [], ◌∷◌, ◌++◌, length, get_or, take, refl, sym, ap, subst, ◌∙◌, arith}
use Rattle.std.specs.List.{All, AllAdjacentBelow, AllPairs, Any, Contains}
use Rattle.std.specs.List.Sorted.{IsPermutation}
use Rattle.std.proofs.lemmas.List.Sorted.{Contains-permutation, IsPermutation-sym}
use borrow.Author.Tests.{ltb-true, ltb-false}
use Rattle.std.specs.Int.{int_max}
use Rattle.std.proofs.lemmas.Int.{ints, clamps, by_lt_z}
use Rattle.std.proofs.lemmas.List.{get_or_append_left, length-append, take_more}
use Rattle.std.proofs.Math.Seq.{get_or-append_seam}
use Rattle.std.proofs.lemmas.List.Elements.{All-push, All-append, All-weaker, Contains-get_or, Contains-append_left, Contains-append_right, Contains-push, Contains-push_cases, Contains-append_cases}
use Rattle.std.proofs.lemmas.List.Quantifiers.{all_pairs_push, Any-push}
use Rattle.std.proofs.lemmas.List.Kept.{AllPairs-cons}
use Rattle.ep_base.specs.declared.run_lists.Run.{Run}
use Rattle.ep_base.specs.Runs.{IsIn, counting, or_zero, numbers_in, numbers, AreApart}

any_from_Contains : {X : Type 0} (P : X → Type 0) (xs : List X) (x : X) → Contains xs x → P x → Any P xs
any_from_Contains P xs x h p = (h.0, x, h.1, h.2, p)

no_element : {X : Type 0} {P : Type 0} (x : X) → Contains [] x → P
no_element x h = absurd (omega (arith, h.1))

all_from_contained : {X : Type 0} (P : X → Type 0) (xs : List X) → ((x : X) → Contains xs x → P x) → All P xs
all_from_contained P xs h k d lt = h _ (Contains-get_or xs k d lt)

-- P holds of one of some elements, and of one of more
pub any_more : {X : Type 0} (P : X → Type 0) (xs ys : List X) → Any P xs → Any P (xs ++ ys)
any_more P xs ys h = any_from_Contains P (xs ++ ys) h.1 (Contains-append_left xs ys h.1 (h.0, h.2, h.3)) h.4

pub any_push_cases : {X : Type 0} (P : X → Type 0) (xs : List X) (y : X) → Any P (xs ++ y ∷ []) → Any P xs ⊎ P y
any_push_cases P xs y h =
    elim (Contains-push_cases xs y h.1 (h.0, h.2, h.3)) as (λ _. Any P xs ⊎ P y) [
      | inl w ↦ inl (any_from_Contains P xs h.1 w h.4)
      | inr e ↦ inr (subst P (sym e) h.4)
    ]

pub any_cons_cases : {X : Type 0} (P : X → Type 0) (x : X) (xs : List X) → Any P (x ∷ xs) → P x ⊎ Any P xs
any_cons_cases P x xs h =
    elim (Contains-append_cases (x ∷ []) xs h.1 (h.0, h.2, h.3)) as (λ _. P x ⊎ Any P xs) [
      | inl w ↦ elim (Contains-push_cases [] x h.1 w) as (λ _. P x ⊎ Any P xs) [ inl v ↦ no_element h.1 v | inr e ↦ inl (subst P (sym e) h.4) ]
      | inr w ↦ inr (any_from_Contains P xs h.1 w h.4)
    ]

-- runs that are apart, and one more behind them
pub apart_push : (runs : List Run) (run : Run) → AreApart runs → run.lo ≤ℤ run.hi → All (λ earlier. (earlier.hi +ℤ pos 1) <ℤ run.lo) runs → AreApart (runs ++ run ∷ [])
apart_push runs run h filled gap = record {
  filled = All-push (λ r. r.lo ≤ℤ r.hi) runs run h.filled filled;
  gaps = all_pairs_push (λ r later. (r.hi +ℤ pos 1) <ℤ later.lo) runs run h.gaps gap;
}

-- what holds of the runs before the last one, of the last one, and between them
pub record EndsIn (runs : List Run) (last : Run) : Type 0 where
  pub front : AreApart runs
  pub filled : last.lo ≤ℤ last.hi
  pub gap : All (λ earlier. (earlier.hi +ℤ pos 1) <ℤ last.lo) runs

at_seam : (P : Run → Type 0) (runs : List Run) (last d : Run) → P (get_or (runs ++ last ∷ []) (length runs) d) → P last
at_seam P runs last d h = subst P (get_or-append_seam runs last [] d) h

pub apart_front : (runs : List Run) (last : Run) → AreApart (runs ++ last ∷ []) → EndsIn runs last
apart_front runs last h =
    let longer : length (runs ++ last ∷ []) ≡ length runs + 1 = length-append runs (last ∷ []) in
    record {
      front = record {
        filled = λ k d lt. subst (λ r. r.lo ≤ℤ r.hi) (get_or_append_left runs (last ∷ []) d k lt) (h.filled k d (omega arith));
        gaps = λ i j d lt inside.
            let below : i < length runs = omega arith in
            let wide = h.gaps i j d lt (omega arith) in
            subst (λ r. (r.hi +ℤ pos 1) <ℤ (get_or runs j d).lo) (get_or_append_left runs (last ∷ []) d i below)
            (subst (λ r. ((get_or (runs ++ last ∷ []) i d).hi +ℤ pos 1) <ℤ r.lo) (get_or_append_left runs (last ∷ []) d j inside) wide);
      };
      filled = at_seam (λ r. r.lo ≤ℤ r.hi) runs last last (h.filled (length runs) last (omega arith));
      gap = λ k d lt.
          at_seam (λ r. ((get_or runs k d).hi +ℤ pos 1) <ℤ r.lo) runs last d
          (subst (λ r. (r.hi +ℤ pos 1) <ℤ (get_or (runs ++ last ∷ []) (length runs) d).lo) (get_or_append_left runs (last ∷ []) d k lt) (h.gaps k (length runs) d lt (omega arith)));
    }

-- a part behind a gap after the last run lies behind a gap after each run
pub gap_after : (runs : List Run) (last part : Run) → EndsIn runs last → (last.hi +ℤ pos 1) <ℤ part.lo → All (λ earlier. (earlier.hi +ℤ pos 1) <ℤ part.lo) (runs ++ last ∷ [])
gap_after runs last part h gap =
    All-push (λ r. (r.hi +ℤ pos 1) <ℤ part.lo) runs last
    (All-weaker (λ r. (r.hi +ℤ pos 1) <ℤ last.lo) (λ r. (r.hi +ℤ pos 1) <ℤ part.lo) (λ r w. omega (arith, ints, h.filled, gap, w)) runs h.gap) gap

-- the numbers of a run in the place of two
pub same_numbers : (runs : List Run) (last part both : Run) (number : ℤ) → (IsIn number both ↔ (IsIn number last ⊎ IsIn number part)) → (Any (IsIn number) (runs ++ both ∷ []) ↔ Any (IsIn number) ((runs ++ last ∷ []) ++ part ∷ []))
same_numbers runs last part both number h =
    let P = IsIn number in (
      λ w. elim (any_push_cases P runs both w) as (λ _. Any P ((runs ++ last ∷ []) ++ part ∷ [])) [
        | inl v ↦ any_more P (runs ++ last ∷ []) (part ∷ []) (any_more P runs (last ∷ []) v)
        | inr v ↦ elim (h.0 v) as (λ _. Any P ((runs ++ last ∷ []) ++ part ∷ [])) [
          | inl a ↦ any_more P (runs ++ last ∷ []) (part ∷ []) (Any-push P runs last a)
          | inr a ↦ Any-push P (runs ++ last ∷ []) part a
        ]
      ],
      λ w. elim (any_push_cases P (runs ++ last ∷ []) part w) as (λ _. Any P (runs ++ both ∷ [])) [
        | inl v ↦ elim (any_push_cases P runs last v) as (λ _. Any P (runs ++ both ∷ [])) [
          | inl a ↦ any_more P runs (both ∷ []) a
          | inr a ↦ Any-push P runs both (h.1 (inl a))
        ]
        | inr v ↦ Any-push P runs both (h.1 (inr v))
      ],
    )

-- the numbers that are counted
in_counting : (first : ℤ) (n : ℕ) (v : ℤ) → Contains (counting first n) v → (first ≤ℤ v) × (v <ℤ (first +ℤ pos n))
unfolding counting
in_counting first zero v h = no_element v h
in_counting first (suc n) v h =
    elim (Contains-append_cases (first ∷ []) (counting (first +ℤ pos 1) n) v h) as (λ _. (first ≤ℤ v) × (v <ℤ (first +ℤ pos (suc n)))) [
      | inl w ↦ elim (Contains-push_cases [] first v w) as (λ _. (first ≤ℤ v) × (v <ℤ (first +ℤ pos (suc n)))) [
        | inl a ↦ no_element v a
        | inr e ↦ subst (λ x. (first ≤ℤ x) × (x <ℤ (first +ℤ pos (suc n)))) e (omega (arith, ints), omega (arith, ints))
      ]
      | inr w ↦ let rest = in_counting (first +ℤ pos 1) n v w in (omega (arith, ints, rest.0), omega (arith, ints, rest.1))
    ]

counting_has : (first : ℤ) (n : ℕ) (v : ℤ) → first ≤ℤ v → v <ℤ (first +ℤ pos n) → Contains (counting first n) v
unfolding counting
counting_has first zero v low high = absurd (omega (arith, ints))
counting_has first (suc n) v low high =
    by_lt_z first v
    (λ lt. Contains-append_right (first ∷ []) (counting (first +ℤ pos 1) n) v (counting_has (first +ℤ pos 1) n v (omega (arith, ints)) (omega (arith, ints))))
    (λ le.
    let e : first ≡ v = omega (arith, ints) in
    subst (Contains (first ∷ counting (first +ℤ pos 1) n)) e (Contains-append_left (first ∷ []) (counting (first +ℤ pos 1) n) first (Contains-push [] first)))

or_zero_cases : (z : ℤ) → (z ≡ pos (or_zero z)) ⊎ ((z <ℤ pos 0) × (or_zero z ≡ 0))
or_zero_cases (pos n) = inl refl
or_zero_cases (negsuc n) = inr (omega (arith, ints), refl)

-- the numbers in a run are those between its ends
in_numbers_in : (run : Run) (v : ℤ) → Contains (numbers_in run) v ↔ IsIn v run
unfolding numbers_in
in_numbers_in run v =
    let n = or_zero ((run.hi +ℤ pos 1) -ℤ run.lo) in (
      λ h.
          let w = in_counting run.lo n v h in
          elim (or_zero_cases ((run.hi +ℤ pos 1) -ℤ run.lo)) as (λ _. IsIn v run) [
            | inl e ↦ (w.0, omega (arith, ints, w.1, e))
            | inr e ↦ absurd (omega (arith, ints, w.0, w.1, e.1))
          ],
      λ h. counting_has run.lo n v h.0 (
          elim (or_zero_cases ((run.hi +ℤ pos 1) -ℤ run.lo)) as (λ _. v <ℤ (run.lo +ℤ pos n)) [
            | inl e ↦ omega (arith, ints, h.1, e)
            | inr e ↦ absurd (omega (arith, ints, h.0, h.1, e.0))
          ]),
    )

-- a number in a list of runs is in one of the runs
pub in_numbers : (runs : List Run) (v : ℤ) → Contains (numbers runs) v ↔ Any (IsIn v) runs
unfolding numbers
in_numbers [] v = (λ h. no_element v h, λ h. no_element h.1 (h.0, h.2, h.3))
in_numbers (run ∷ runs) v = (
  λ h. elim (Contains-append_cases (numbers_in run) (numbers runs) v h) as (λ _. Any (IsIn v) (run ∷ runs)) [
    | inl w ↦ any_more (IsIn v) (run ∷ []) runs (Any-push (IsIn v) [] run ((in_numbers_in run v).0 w))
    | inr w ↦ let a = (in_numbers runs v).0 w in any_from_Contains (IsIn v) (run ∷ runs) a.1 (Contains-append_right (run ∷ []) runs a.1 (a.0, a.2, a.3)) a.4
  ],
  λ h. elim (any_cons_cases (IsIn v) run runs h) as (λ _. Contains (numbers_in run ++ numbers runs) v) [
    | inl w ↦ Contains-append_left (numbers_in run) (numbers runs) v ((in_numbers_in run v).1 w)
    | inr w ↦ Contains-append_right (numbers_in run) (numbers runs) v ((in_numbers runs v).1 w)
  ],
)

counting_ascends : (first : ℤ) (n : ℕ) (rest : List ℤ) → AllPairs ◌<ℤ◌ rest → All (λ v. (first +ℤ pos n) ≤ℤ v) rest → AllPairs ◌<ℤ◌ (counting first n ++ rest)
unfolding counting
counting_ascends first zero rest up behind = up
counting_ascends first (suc n) rest up behind =
    let tail = counting (first +ℤ pos 1) n in
    AllPairs-cons ◌<ℤ◌ first (tail ++ rest)
    (All-append (λ v. first <ℤ v) tail rest
    (all_from_contained (λ v. first <ℤ v) tail (λ v h. let w = in_counting (first +ℤ pos 1) n v h in omega (arith, ints, w.0)))
    (All-weaker (λ v. (first +ℤ pos (suc n)) ≤ℤ v) (λ v. first <ℤ v) (λ v h. omega (arith, ints, h)) rest behind))
    (counting_ascends (first +ℤ pos 1) n rest up
    (All-weaker (λ v. (first +ℤ pos (suc n)) ≤ℤ v) (λ v. ((first +ℤ pos 1) +ℤ pos n) ≤ℤ v) (λ v h. omega (arith, ints, h)) rest behind))

pub apart_tail : (run : Run) (runs : List Run) → AreApart (run ∷ runs) → AreApart runs
apart_tail run runs h = record {
  filled = λ k d lt. h.filled (suc k) d (omega arith);
  gaps = λ i j d lt inside. h.gaps (suc i) (suc j) d (omega arith) (omega arith);
}

-- the numbers of runs that are apart ascend
pub numbers_ascend : (runs : List Run) → AreApart runs → AllPairs ◌<ℤ◌ (numbers runs)
unfolding numbers numbers_in
numbers_ascend [] h = λ i j d lt inside. absurd (omega arith)
numbers_ascend (run ∷ runs) h =
    let n = or_zero ((run.hi +ℤ pos 1) -ℤ run.lo) in
    let filled = h.filled 0 run (omega arith) in
    counting_ascends run.lo n (numbers runs) (numbers_ascend runs (apart_tail run runs h))
    (all_from_contained (λ v. (run.lo +ℤ pos n) ≤ℤ v) (numbers runs) (λ v w.
    let a = (in_numbers runs v).0 w in
    let gap = subst (λ later. (run.hi +ℤ pos 1) <ℤ later.lo) a.3 (h.gaps 0 (suc a.0) a.1 (omega arith) (omega (arith, a.2))) in
    elim (or_zero_cases ((run.hi +ℤ pos 1) -ℤ run.lo)) as (λ _. (run.lo +ℤ pos n) ≤ℤ v) [
      | inl e ↦ omega (arith, ints, gap, a.4.0, e)
      | inr e ↦ absurd (omega (arith, ints, filled, e.0))
    ]))

-- the run of two, between which no number lies, has the numbers of both
pub joined_numbers : (last part : Run) (lo hi : ℤ) (number : ℤ) → last.lo ≤ℤ part.lo → part.lo ≤ℤ (last.hi +ℤ pos 1) → lo ≡ last.lo → hi ≡ int_max last.hi part.hi → (IsIn number (record { lo = lo; hi = hi }) ↔ (IsIn number last ⊎ IsIn number part))
joined_numbers last part lo hi number order near start end = (
  λ h. by_lt_z last.hi number
      (λ lt. inr (omega (arith, ints, near), omega (arith, ints, clamps, h.1, end)))
      (λ le. inl (omega (arith, ints, h.0, start), le)),
  λ h. elim h as (λ _. IsIn number (record { lo = lo; hi = hi })) [
    | inl w ↦ (omega (arith, ints, w.0, start), omega (arith, ints, clamps, w.1, end))
    | inr w ↦ (omega (arith, ints, w.0, order, start), omega (arith, ints, clamps, w.1, end))
  ],
)

-- the runs of the first parts, which are sorted by their starts
pub record JoinedSoFar (parts : List Run) (count : ℕ) (runs : List Run) : Type 0 where
  pub apart : AreApart runs
  pub behind : All (λ run. (d : Run) → count < length parts → run.lo ≤ℤ (get_or parts count d).lo) runs
  pub numbers : (number : ℤ) → Any (IsIn number) runs ↔ Any (IsIn number) (take count parts)

-- one more part, whose numbers were added to the runs
pub joined_more : (parts : List Run) (count : ℕ) (old new : List Run) (part : Run) → count < length parts → ((d : Run) → get_or parts count d ≡ part) → AllAdjacentBelow (λ a b. a.lo ≤ℤ b.lo) parts (length parts) → JoinedSoFar parts count old → AreApart new → All (λ run. run.lo ≤ℤ part.lo) new → ((number : ℤ) → Any (IsIn number) new ↔ Any (IsIn number) (old ++ part ∷ [])) → JoinedSoFar parts (count + 1) new
joined_more parts count old new part inside is sorted h apart behind same = record {
  apart = apart;
  behind =
      All-weaker (λ run. run.lo ≤ℤ part.lo) (λ run. (d : Run) → count + 1 < length parts → run.lo ≤ℤ (get_or parts (count + 1) d).lo)
      (λ run w d more. let up = subst (λ r. r.lo ≤ℤ (get_or parts (count + 1) d).lo) (is d) (sorted count d more) in omega (arith, ints, w, up)) new behind;
  numbers = λ number.
      let P = IsIn number in
      let longer : take (count + 1) parts ≡ take count parts ++ part ∷ [] = take_more parts count part inside ∙ ap (λ r. take count parts ++ r ∷ []) (is part) in (
        λ w. subst (Any P) (sym longer) (elim (any_push_cases P old part ((same number).0 w)) as (λ _. Any P (take count parts ++ part ∷ [])) [
          | inl v ↦ any_more P (take count parts) (part ∷ []) ((h.numbers number).0 v)
          | inr v ↦ Any-push P (take count parts) part v
        ]),
        λ w. (same number).1 (elim (any_push_cases P (take count parts) part (subst (Any P) longer w)) as (λ _. Any P (old ++ part ∷ [])) [
          | inl v ↦ any_more P old (part ∷ []) ((h.numbers number).1 v)
          | inr v ↦ Any-push P old part v
        ]),
      );
}

-- one more part, which has no number
pub joined_skip : (parts : List Run) (count : ℕ) (runs : List Run) (part : Run) → count < length parts → ((d : Run) → get_or parts count d ≡ part) → AllAdjacentBelow (λ a b. a.lo ≤ℤ b.lo) parts (length parts) → JoinedSoFar parts count runs → part.hi <ℤ part.lo → JoinedSoFar parts (count + 1) runs
joined_skip parts count runs part inside is sorted h none = record {
  apart = h.apart;
  behind =
      All-weaker (λ run. (d : Run) → count < length parts → run.lo ≤ℤ (get_or parts count d).lo) (λ run. (d : Run) → count + 1 < length parts → run.lo ≤ℤ (get_or parts (count + 1) d).lo)
      (λ run w d more. let before = w d inside in let up = sorted count d more in omega (arith, ints, before, up)) runs h.behind;
  numbers = λ number.
      let P = IsIn number in
      let longer : take (count + 1) parts ≡ take count parts ++ part ∷ [] = take_more parts count part inside ∙ ap (λ r. take count parts ++ r ∷ []) (is part) in (
        λ w. subst (Any P) (sym longer) (any_more P (take count parts) (part ∷ []) ((h.numbers number).0 w)),
        λ w. elim (any_push_cases P (take count parts) part (subst (Any P) longer w)) as (λ _. Any P runs) [
          | inl v ↦ (h.numbers number).1 v
          | inr v ↦ absurd (omega (arith, ints, none, v.0, v.1))
        ],
      );
}

-- the same numbers in another order of the parts
pub any_moved : {X : Type 0} (P : X → Type 0) (xs ys : List X) → IsPermutation xs ys → (Any P xs ↔ Any P ys)
any_moved P xs ys h = (
  λ w. any_from_Contains P ys w.1 (Contains-permutation xs ys w.1 h (w.0, w.2, w.3)) w.4,
  λ w. any_from_Contains P xs w.1 (Contains-permutation ys xs w.1 (IsPermutation-sym xs ys h) (w.0, w.2, w.3)) w.4,
)

by_lt_nat : {P : Type 0} (a b : ℕ) → (a < b → P) → (b ≤ a → P) → P
by_lt_nat {P} a b under over =
    elim (ltb a b) as (λ t. ltb a b ≡ t → P) [
      | true ↦ λ e. under (ltb-true a b e)
      | false ↦ λ e. over (ltb-false a b e)
    ] refl

-- a search among runs: the number lies behind the runs below `low`, and before those from `high` on
pub record LiesBetween (runs : List Run) (number : ℤ) (low high : ℕ) : Type 0 where
  pub ordered : low ≤ high
  pub within : high ≤ length runs
  pub before : (k : ℕ) (d : Run) → k < low → (get_or runs k d).hi <ℤ number
  pub after : (k : ℕ) (d : Run) → high ≤ k → k < length runs → number <ℤ (get_or runs k d).lo

pub narrow_high : (runs : List Run) (number : ℤ) (low high middle : ℕ) (run : Run) → AreApart runs → LiesBetween runs number low high → low ≤ middle → middle < high → ((d : Run) → get_or runs middle d ≡ run) → number <ℤ run.lo → LiesBetween runs number low middle
narrow_high runs number low high middle run apart h above below is left = record {
  ordered = above;
  within = omega (arith, h.within);
  before = h.before;
  after = λ k d from inside.
      let inside' : middle < length runs = omega (arith, h.within) in
      let here = subst (λ r. r.lo ≤ℤ r.hi) (is d) (apart.filled middle d inside') in
      by_lt_nat middle k
      (λ lt. let gap = subst (λ r. (r.hi +ℤ pos 1) <ℤ (get_or runs k d).lo) (is d) (apart.gaps middle k d lt inside) in omega (arith, ints, left, here, gap))
      (λ le. let same : middle ≡ k = omega arith in subst (λ m. number <ℤ (get_or runs m d).lo) same (subst (λ r. number <ℤ r.lo) (sym (is d)) left));
}

pub narrow_low : (runs : List Run) (number : ℤ) (low high middle : ℕ) (run : Run) → AreApart runs → LiesBetween runs number low high → low ≤ middle → middle < high → ((d : Run) → get_or runs middle d ≡ run) → run.hi <ℤ number → LiesBetween runs number (middle + 1) high
narrow_low runs number low high middle run apart h above below is right = record {
  ordered = omega arith;
  within = h.within;
  before = λ k d to.
      let inside : middle < length runs = omega (arith, h.within) in
      let here = subst (λ r. r.lo ≤ℤ r.hi) (is d) (apart.filled middle d inside) in
      by_lt_nat k middle
      (λ lt. let gap = subst (λ r. ((get_or runs k d).hi +ℤ pos 1) <ℤ r.lo) (is d) (apart.gaps k middle d lt inside) in omega (arith, ints, right, here, gap))
      (λ le. let same : middle ≡ k = omega arith in subst (λ m. (get_or runs m d).hi <ℤ number) same (subst (λ r. r.hi <ℤ number) (sym (is d)) right));
  after = h.after;
}

pub not_between : (runs : List Run) (number : ℤ) (low high : ℕ) → LiesBetween runs number low high → high ≤ low → Any (IsIn number) runs → ⊥
not_between runs number low high h met w =
    by_lt_nat w.0 low
    (λ lt. let b = subst (λ r. r.hi <ℤ number) w.3 (h.before w.0 w.1 lt) in absurd (omega (arith, ints, b, w.4.1)))
    (λ le. let a = subst (λ r. number <ℤ r.lo) w.3 (h.after w.0 w.1 (omega arith) w.2) in absurd (omega (arith, ints, a, w.4.0)))
