-- The clauses that are live behind the lines of a proof, and the ids of a formula's clauses.
use Rattle.std.proofs.Common.{◌≡◌, ℕ, zero, suc, ◌+◌, ◌<◌, ◌⊎◌, inl, inr, Bool, true, false, not, ◌&&◌, ◌||◌, cond, ltb, List, [], ◌∷◌, ◌++◌, length, get_or, Option, Some, None, refl, sym, ap, ◌∙◌, arith}
use Rattle.std.specs.Prelude.{filter, nat_eq}
use Rattle.std.specs.List.{list_all, list_any}
use Rattle.std.proofs.lemmas.Bool.{eqb-true, ltb-true, false≢true}
use Rattle.cnf_core.specs.Literal.{Literal}
use Rattle.cnf_core.specs.Lines.{ProofLine}
use Rattle.log_check.specs.Verdict.{Live, numbered_from, live_clause, is_number_among, adds_empty_clause}
use Rattle.sat_merge.specs.Proofs.{first_ids, ids_on}

-- a choice that gives a clause
pub choice : (b : Bool) (c clause : List Literal) (rest : Option (List Literal)) → cond b (Some c) rest ≡ Some clause → ((b ≡ true) × (c ≡ clause)) ⊎ ((b ≡ false) × (rest ≡ Some clause))
choice true c clause rest e = inl (refl, let same : c ≡ clause = cc e in same)
choice false c clause rest e = inr (refl, e)

-- a clause of a formula stands at the place that its id says
pub numbered_stands : (n : ℕ) (clauses : List (List Literal)) (id : ℕ) (clause : List Literal) → live_clause (numbered_from n clauses) id ≡ Some clause → (k : ℕ) × (k < length clauses) × (id ≡ n + k) × (get_or clauses k [] ≡ clause)
numbered_stands n [] id clause e = absurd (let no : ⊥ = cc e in no)
numbered_stands n (c ∷ clauses) id clause e = elim (choice (nat_eq id n) c clause (live_clause (numbered_from (n + 1) clauses) id) e) [
  | inl here ↦ (0, omega arith, (let is : id ≡ n = eqb-true id n here.0 in omega (arith, is)), here.1)
  | inr later ↦
      let found = numbered_stands (n + 1) clauses id clause later.1 in
      (suc found.0, omega (arith, found.1), omega (arith, found.2), found.3)
]

pub length_ids : (n count : ℕ) → length (ids_on n count) ≡ count
length_ids n zero = refl
length_ids n (suc count) = omega (arith, length_ids (n + 1) count)

pub id_at : (n count k : ℕ) → k < count → get_or (ids_on n count) k 0 ≡ n + k
id_at n zero k below = absurd (omega (arith, below))
id_at n (suc count) zero below = omega arith
id_at n (suc count) (suc k) below = let later = id_at (n + 1) count k (omega (arith, below)) in omega (arith, later)

-- what was deleted isn't live
gone_none : (gone : List ℕ) (live : List Live) (id : ℕ) → is_number_among gone id ≡ true → live_clause (filter (λ l. not (is_number_among gone l.id)) live) id ≡ None
gone_none gone [] id is = refl
gone_none gone (l ∷ live) id is = by (is_number_among gone l.id) refl (gone_none gone live id is)
  where
    others : List Live
    others = filter (λ m. not (is_number_among gone m.id)) live

    other : (same : Bool) → nat_eq id l.id ≡ same → is_number_among gone l.id ≡ false → live_clause others id ≡ None → cond same (Some l.clause) (live_clause others id) ≡ None
    other true equal isnt none = absurd (false≢true (sym isnt ∙ ap (is_number_among gone) (sym (eqb-true id l.id equal)) ∙ is))
    other false equal isnt none = none

    by : (b : Bool) → is_number_among gone l.id ≡ b → live_clause others id ≡ None → live_clause (cond (not b) (l ∷ others) others) id ≡ None
    by true e none = none
    by false e none = other (nat_eq id l.id) refl e none

-- what is live behind a deletion was live before
pub live_before : (gone : List ℕ) (live : List Live) (id : ℕ) (clause : List Literal) → live_clause (filter (λ l. not (is_number_among gone l.id)) live) id ≡ Some clause → live_clause live id ≡ Some clause
live_before gone [] id clause e = e
live_before gone (l ∷ live) id clause e = by (is_number_among gone l.id) refl (λ now. live_before gone live id clause now) e
  where
    others : List Live
    others = filter (λ m. not (is_number_among gone m.id)) live

    kept : (same : Bool) → (live_clause others id ≡ Some clause → live_clause live id ≡ Some clause) → cond same (Some l.clause) (live_clause others id) ≡ Some clause → cond same (Some l.clause) (live_clause live id) ≡ Some clause
    kept true before now = now
    kept false before now = before now

    left : (same : Bool) → nat_eq id l.id ≡ same → is_number_among gone l.id ≡ true → (live_clause others id ≡ Some clause → live_clause live id ≡ Some clause) → live_clause others id ≡ Some clause → cond same (Some l.clause) (live_clause live id) ≡ Some clause
    left true equal is before now =
        let none : live_clause others id ≡ None = gone_none gone live id (ap (is_number_among gone) (eqb-true id l.id equal) ∙ is) in
        absurd (let no : ⊥ = cc (sym none ∙ now) in no)
    left false equal is before now = before now

    by : (b : Bool) → is_number_among gone l.id ≡ b → (live_clause others id ≡ Some clause → live_clause live id ≡ Some clause) → live_clause (cond (not b) (l ∷ others) others) id ≡ Some clause → live_clause (l ∷ live) id ≡ Some clause
    by true is before now = left (nat_eq id l.id) refl is before now
    by false isnt before now = kept (nat_eq id l.id) before now

pub and_left : (a b : Bool) → (a && b) ≡ true → a ≡ true
and_left true b e = refl
and_left false b e = e

pub and_right : (a b : Bool) → (a && b) ≡ true → b ≡ true
and_right true b e = e
and_right false b e = absurd (false≢true e)

-- all of these are below a number
pub all_below : (most : ℕ) (ids : List ℕ) → list_all (λ n. ltb n most) ids ≡ true → (k : ℕ) → k < length ids → get_or ids k 0 < most
all_below most [] all k below = absurd (omega (arith, below))
all_below most (id ∷ ids) all zero below = ltb-true id most (and_left (ltb id most) (list_all (λ n. ltb n most) ids) all)
all_below most (id ∷ ids) all (suc k) below = all_below most ids (and_right (ltb id most) (list_all (λ n. ltb n most) ids) all) k (omega (arith, below))

or_off : (a b : Bool) → (a || b) ≡ false → (a ≡ false) × (b ≡ false)
or_off true b e = absurd (false≢true (sym e))
or_off false b e = (refl, e)

both_off : (a b : Bool) → a ≡ false → b ≡ false → (a || b) ≡ false
both_off true b off last = absurd (false≢true (sym off))
both_off false b off last = last

-- no line up to one more adds the empty clause
pub none_empty : (lines : List ProofLine) (line : ProofLine) → list_any adds_empty_clause lines ≡ false → adds_empty_clause line ≡ false → list_any adds_empty_clause (lines ++ line ∷ []) ≡ false
none_empty [] line none last = both_off (adds_empty_clause line) false last refl
none_empty (l ∷ lines) line none last =
    let off = or_off (adds_empty_clause l) (list_any adds_empty_clause lines) none in
    both_off (adds_empty_clause l) (list_any adds_empty_clause (lines ++ line ∷ [])) off.0 (none_empty lines line off.1 last)

-- one id more
ids_more : (n count : ℕ) → ids_on n (suc count) ≡ ids_on n count ++ (n + count) ∷ []
ids_more n zero = let same : n ≡ n + 0 = omega arith in ap (λ (x : ℕ). x ∷ []) same
ids_more n (suc count) =
    let same : n + 1 + count ≡ n + suc count = omega arith in
    ap (λ (ids : List ℕ). n ∷ ids) (ids_more (n + 1) count ∙ ap (λ (x : ℕ). ids_on (n + 1) count ++ x ∷ []) same)

pub first_more : (count : ℕ) → first_ids (count + 1) ≡ first_ids count ++ (count + 1) ∷ []
first_more count =
    let next : count + 1 ≡ suc count = omega arith in
    let here : 1 + count ≡ count + 1 = omega arith in
    ap first_ids next ∙ ids_more 1 count ∙ ap (λ (x : ℕ). first_ids count ++ x ∷ []) here
