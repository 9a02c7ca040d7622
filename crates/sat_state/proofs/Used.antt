-- How many entries a literal has: no more than there are clauses with it.
use Rattle.std.proofs.Common.{◌≡◌, ◌≢◌, ℕ, suc, ◌+◌, ◌*◌, ◌/◌, ◌<◌, ◌≤◌, Bool, true, false, ◌||◌, cond, eqb, List, [], ◌∷◌, ◌++◌, length, set, Contains, refl, sym, ap, ◌∙◌, subst, inl, inr, ⊎_elim, arith}
use Rattle.std.proofs.lemmas.Bool.{cases_eq, ne_eqb, eq-eqb}
use Rattle.std.proofs.lemmas.List.Sums.{sum_by-cons, sum_by-set, sum_by_push}
use Rattle.cnf_core.specs.Literal.{Literal, code_of}
use Rattle.cnf_core.proofs.Members.{Contains-cases, none_in_nil}
use Rattle.sat_state.specs.Trail.{Entry}
use Rattle.sat_state.specs.Stored.{clause_at}
use Rattle.sat_state.specs.Watching.{no_lit, lit_at, links}
use Rattle.sat_state.specs.Guards.{ArePartners, IsPair, AreWatched}
use Rattle.sat_state.specs.Joined.{has_code, uses}
use Rattle.sat_state.specs.WatchesInside.{literal_at}
use Rattle.sat_state.proofs.Codes.{literal_again}

abbrev one_if : Bool → ℕ
one_if b = cond b 1 0

abbrev weight : ℕ → Literal → ℕ
weight code l = cond (eqb (code_of l) code) 1 0

weight_most : (code : ℕ) (l : Literal) → weight code l ≤ 1
weight_most code l = by_test (eqb (code_of l) code)
  where
    by_test : (b : Bool) → cond b 1 0 ≤ 1
    by_test true = omega arith
    by_test false = omega arith

weight_other : (code : ℕ) (l : Literal) → code_of l ≢ code → weight code l ≡ 0
weight_other code l ne = ap one_if (ne_eqb (code_of l) code ne)

weight_same : (code : ℕ) (l : Literal) → code_of l ≡ code → weight code l ≡ 1
weight_same code l is = ap one_if (eq-eqb (code_of l) code is)

-- a literal of a clause has one of its codes
pub has_its_code : (clause : List Literal) (l : Literal) (code : ℕ) → Contains clause l → code_of l ≡ code → has_code clause code ≡ true
has_its_code [] l code in_it is = absurd (none_in_nil l in_it)
has_its_code (x ∷ clause) l code in_it is =
    elim (Contains-cases x clause l in_it) [
      | inl same ↦ ap (λ (b : Bool). b || has_code clause code) (eq-eqb (code_of x) code (ap code_of same ∙ is))
      | inr later ↦ or_true (eqb (code_of x) code) (has_code clause code) (has_its_code clause l code later is)
    ]
  where
    or_true : (a b : Bool) → b ≡ true → (a || b) ≡ true
    or_true true b e = refl
    or_true false b e = e

two_links : (a b : Literal) (code : ℕ) → links (a ∷ b ∷ []) code ≡ weight code a + weight code b
two_links a b code =
    sum_by-cons (weight code) a (b ∷ []) ∙ ap (λ (n : ℕ). weight code a + n) (sum_by-cons (weight code) b [] ∙ (let e : weight code b + 0 ≡ weight code b = omega arith in e))

-- two different literals of a clause
pair_below : (clause : List Literal) (a b : Literal) (code : ℕ) → IsPair clause a b → IsPair clause b a → weight code a + weight code b ≤ one_if (has_code clause code)
pair_below clause a b code first second = ⊎_elim
    (λ (is : code_of a ≡ code).
    let other : code_of b ≢ code = λ same. first.two (sym (literal_again a) ∙ ap literal_at (is ∙ sym same) ∙ literal_again b) in
    omega (arith, weight_same code a is, weight_other code b other, ap one_if (has_its_code clause a code first.in_clause is)))
    (λ (ne : code_of a ≢ code). ⊎_elim
    (λ (is : code_of b ≡ code). omega (arith, weight_other code a ne, weight_same code b is, ap one_if (has_its_code clause b code second.in_clause is)))
    (λ (nb : code_of b ≢ code). omega (arith, weight_other code a ne, weight_other code b nb))
    (cases_eq (code_of b) code))
    (cases_eq (code_of a) code)

-- what is so of the two entries of each clause is so of all
pairs_below : (clauses : List (List Literal)) (lits : List Literal) (code : ℕ) → length lits ≡ 2 * length clauses
    → ((k : ℕ) → k < length clauses → weight code (lit_at lits (2 * k)) + weight code (lit_at lits (2 * k + 1)) ≤ one_if (has_code (clause_at clauses k) code)) → links lits code ≤ uses clauses code
pairs_below [] [] code size each = omega arith
pairs_below [] (a ∷ lits) code size each = absurd (omega (arith, size))
pairs_below (clause ∷ clauses) [] code size each = absurd (omega (arith, size))
pairs_below (clause ∷ clauses) (a ∷ []) code size each = absurd (omega (arith, size))
pairs_below (clause ∷ clauses) (a ∷ b ∷ lits) code size each =
    let here : weight code a + weight code b ≤ one_if (has_code clause code) = each 0 (omega arith) in
    let rest = pairs_below clauses lits code (omega (arith, size)) (λ k lt.
    let first : 2 * suc k ≡ suc (suc (2 * k)) = omega arith in
    let second : 2 * suc k + 1 ≡ suc (suc (2 * k + 1)) = omega arith in
    let at_first : lit_at (a ∷ b ∷ lits) (2 * suc k) ≡ lit_at lits (2 * k) = ap (lit_at (a ∷ b ∷ lits)) first in
    let at_second : lit_at (a ∷ b ∷ lits) (2 * suc k + 1) ≡ lit_at lits (2 * k + 1) = ap (lit_at (a ∷ b ∷ lits)) second in
    subst (λ (l : Literal). weight code l + weight code (lit_at lits (2 * k + 1)) ≤ one_if (has_code (clause_at clauses k) code)) at_first
    (subst (λ (l : Literal). weight code (lit_at (a ∷ b ∷ lits) (2 * suc k)) + weight code l ≤ one_if (has_code (clause_at clauses k) code)) at_second
    (each (suc k) (omega (arith, lt))))) in
    omega (
      arith,
      here,
      rest,
      sum_by-cons (weight code) a (b ∷ lits),
      sum_by-cons (weight code) b lits,
      sum_by-cons (λ (c : List Literal). one_if (has_code c code)) clause clauses,
    )

-- a literal of no variable has a code below 2
no_variable : (l : Literal) (code : ℕ) → l.var ≡ 0 → 2 ≤ code → code_of l ≢ code
no_variable l code none some same = absurd (by_sign l.positive same)
  where
    by_sign : (p : Bool) → 2 * l.var + cond p 0 1 ≡ code → ⊥
    by_sign true e = omega (arith, e, none, some)
    by_sign false e = omega (arith, e, none, some)

pub links_below : (clauses : List (List Literal)) (lits : List Literal) (trail : List Entry) (checked : ℕ) (heads : ℕ → ℕ) → AreWatched clauses lits trail checked heads → (code : ℕ) → 2 ≤ code → links lits code ≤ uses clauses code
links_below clauses lits trail checked heads w code some = pairs_below clauses lits code w.entries each
  where
    each : (k : ℕ) → k < length clauses → weight code (lit_at lits (2 * k)) + weight code (lit_at lits (2 * k + 1)) ≤ one_if (has_code (clause_at clauses k) code)
    each k lt =
        let e = 2 * k in
        let f = 2 * k + 1 in
        let at_e : e / 2 ≡ k = omega arith in
        let at_f : f / 2 ≡ k = omega arith in
        let in_e : e < length lits = omega (arith, lt, w.entries) in
        let in_f : f < length lits = omega (arith, lt, w.entries) in
        let p : ArePartners e f = record { clause = at_e ∙ sym at_f; apart = λ same. absurd (omega (arith, same)) } in
        let q : ArePartners f e = record { clause = at_f ∙ sym at_e; apart = λ same. absurd (omega (arith, same)) } in
        ⊎_elim
        (λ (none : (lit_at lits e).var ≡ 0).
        let also : (lit_at lits f).var ≡ 0 = ⊎_elim
        (λ (z : (lit_at lits f).var ≡ 0). z)
        (λ (nz : (lit_at lits f).var ≢ 0). absurd (omega (arith, none, w.both f e q in_f (omega (arith, nz)))))
        (cases_eq (lit_at lits f).var 0) in
        omega (arith, weight_other code (lit_at lits e) (no_variable (lit_at lits e) code none some), weight_other code (lit_at lits f) (no_variable (lit_at lits f) code also some)))
        (λ (one : (lit_at lits e).var ≢ 0).
        let some_e : 1 ≤ (lit_at lits e).var = omega (arith, one) in
        pair_below (clause_at clauses k) (lit_at lits e) (lit_at lits f) code
        (subst (λ (n : ℕ). IsPair (clause_at clauses n) (lit_at lits e) (lit_at lits f)) at_e (w.pairs e f p in_e some_e))
        (subst (λ (n : ℕ). IsPair (clause_at clauses n) (lit_at lits f) (lit_at lits e)) at_f (w.pairs f e q in_f (w.both e f p in_e some_e))))
        (cases_eq (lit_at lits e).var 0)

-- an entry that watched nothing watches a literal
pub links_set : (lits : List Literal) (e : ℕ) (l : Literal) → e < length lits → lit_at lits e ≡ no_lit → 2 ≤ code_of l → links (set lits e l) (code_of l) ≡ links lits (code_of l) + 1
links_set lits e l there none some =
    let moved : links (set lits e l) (code_of l) + weight (code_of l) (lit_at lits e) ≡ links lits (code_of l) + weight (code_of l) l = sum_by-set (weight (code_of l)) lits e l no_lit there in
    omega (arith, moved, ap (weight (code_of l)) none, weight_other (code_of l) no_lit (λ same. absurd (omega (arith, same, some))), weight_same (code_of l) l refl)

pub links_more : (lits : List Literal) (e : ℕ) (l : Literal) (code : ℕ) → e < length lits → lit_at lits e ≡ no_lit → 2 ≤ code → links lits code ≤ links (set lits e l) code
links_more lits e l code there none some =
    let moved : links (set lits e l) code + weight code (lit_at lits e) ≡ links lits code + weight code l = sum_by-set (weight code) lits e l no_lit there in
    omega (arith, moved, ap (weight code) none, weight_other code no_lit (λ same. absurd (omega (arith, same, some))))

-- one clause more
pub uses_more : (clauses : List (List Literal)) (clause : List Literal) (code : ℕ) → uses (clauses ++ clause ∷ []) code ≡ uses clauses code + cond (has_code clause code) 1 0
uses_more clauses clause code = sum_by_push (λ (c : List Literal). one_if (has_code c code)) clauses clause

-- one literal more
pub has_push : (clause : List Literal) (l : Literal) (code : ℕ) → one_if (has_code (clause ++ l ∷ []) code) ≤ one_if (has_code clause code) + weight code l
has_push [] l code = by_test (eqb (code_of l) code)
  where
    by_test : (b : Bool) → one_if (b || false) ≤ 0 + one_if b
    by_test true = omega arith
    by_test false = omega arith
has_push (x ∷ clause) l code = by_test (eqb (code_of x) code) (has_push clause l code)
  where
    by_test : (b : Bool) → one_if (has_code (clause ++ l ∷ []) code) ≤ one_if (has_code clause code) + weight code l → one_if (b || has_code (clause ++ l ∷ []) code) ≤ one_if (b || has_code clause code) + weight code l
    by_test true le = omega arith
    by_test false le = le

-- there is room for a literal more where room was made for it, and the others kept theirs
pub room_push : (clause : List Literal) (l : Literal) (code was before now : ℕ) → was + one_if (has_code clause code) ≤ before → before ≤ now → (code_of l ≡ code → now ≡ before + 1) → was + one_if (has_code (clause ++ l ∷ []) code) ≤ now
room_push clause l code was before now had kept more = ⊎_elim
    (λ (is : code_of l ≡ code). omega (arith, has_push clause l code, weight_most code l, had, more is))
    (λ (ne : code_of l ≢ code). omega (arith, has_push clause l code, weight_other code l ne, had, kept))
    (cases_eq (code_of l) code)
