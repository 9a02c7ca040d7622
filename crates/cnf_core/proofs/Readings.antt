-- How a reading succeeds: it gains from more true literals, goes on at a clause that gives a literal, and ends at a conflict.
use Rattle.std.proofs.Common.{◌≡◌, ◌≢◌, Bool, true, false, not, ◌⊎◌, inl, inr, List, [], ◌∷◌, refl, ap, ◌∙◌, sym, subst, cond, arith}
use Rattle.std.specs.Prelude.{Contains, map}
use Rattle.std.specs.List.{list_all, AllByRecursion}
use Rattle.std.proofs.lemmas.Bool.{false≢true, or_right}
use Rattle.std.proofs.lemmas.List.Kept.{AllPairs-filter}
use Rattle.cnf_core.specs.Literal.{Literal, negation, Precedes, IsOrdered, same_literal, is_among}
use Rattle.cnf_core.specs.Reading.{is_false, not_false, trues_after, reading_succeeds, has_contradiction, is_shown_by}
use Rattle.cnf_core.proofs.Members.{Contains-here, Contains-there, Contains-cases, none_in_nil, or_cases, either, or_left, Contains-from_test, test_from_Contains, Contains-filter, Contains-from_filter, passes_each, all_pass, literals_from_test, same_literal-true}

-- a list has each literal of another
abbrev pub Covers : List Literal → List Literal → Type 0
Covers more trues = (l : Literal) → Contains trues l → Contains more l

false_with_more : (trues more : List Literal) → Covers more trues → (l : Literal) → is_false trues l ≡ true → is_false more l ≡ true
false_with_more trues more covers l is = test_from_Contains more (negation l) (covers (negation l) (Contains-from_test trues (negation l) is))

-- a clause none of whose literals is kept has only false ones
all_false_from_none : (trues clause : List Literal) → not_false trues clause ≡ [] → list_all (is_false trues) clause ≡ true
all_false_from_none trues clause none =
    all_pass (is_false trues) clause (λ l found. elim (either (is_false trues l)) [
      | inl is ↦ is
      | inr isnt ↦ absurd (none_in_nil l (subst (λ (ls : List Literal). Contains ls l) none (Contains-filter (λ m. not (is_false trues m)) clause l found (ap not isnt))))
    ])

not_true : (p : Bool) → not p ≡ true → p ≡ true → ⊥
not_true true e f = false≢true e
not_true false e f = false≢true f

-- what isn't false where more is true isn't false where less is
kept_with_less : (trues more clause : List Literal) → Covers more trues → (l : Literal) → Contains (not_false more clause) l → Contains (not_false trues clause) l
kept_with_less trues more clause covers l found =
    let parts = Contains-from_filter (λ m. not (is_false more m)) clause l found in
    Contains-filter (λ m. not (is_false trues m)) clause l parts.0 (elim (either (is_false trues l)) [
      | inl is ↦ absurd (not_true (is_false more l) parts.1 (false_with_more trues more covers l is))
      | inr isnt ↦ ap not isnt
    ])

covers_after_one : (trues more : List Literal) → Covers more trues → (l : Literal) → (b : Bool) → is_among more l ≡ b → Covers (cond b more (l ∷ more)) (l ∷ trues)
covers_after_one trues more covers l true is m found =
    elim (Contains-cases l trues m found) [
      | inl here ↦ subst (Contains more) here (Contains-from_test more l is)
      | inr there ↦ covers m there
    ]
covers_after_one trues more covers l false is m found =
    elim (Contains-cases l trues m found) [
      | inl here ↦ subst (Contains (l ∷ more)) here (Contains-here l more)
      | inr there ↦ Contains-there l more m (covers m there)
    ]

trues_stay : (trues rest : List Literal) → Covers (trues_after trues rest) trues
trues_stay trues [] l found = found
trues_stay trues (k ∷ []) l found = chosen (is_among trues k)
  where
    chosen : (b : Bool) → Contains (cond b trues (k ∷ trues)) l
    chosen true = found
    chosen false = Contains-there k trues l found
trues_stay trues (k ∷ m ∷ others) l found = found

only : (l x : Literal) → Contains (l ∷ []) x → l ≡ x
only l x found = elim (Contains-cases l [] x found) [ inl is ↦ is | inr none ↦ absurd (none_in_nil x none) ]

-- a conflict ends a reading
pub reading_ends : (trues clause : List Literal) (clauses : List (List Literal)) → ((l : Literal) → Contains clause l → Contains trues (negation l)) → reading_succeeds trues (clause ∷ clauses) ≡ true
reading_ends trues clause clauses all =
    or_left (list_all (is_false trues) clause) _ (all_pass (is_false trues) clause (λ l found. test_from_Contains trues (negation l) (all l found)))

precedes_itself : (l : Literal) → Precedes l l → ⊥
precedes_itself l (inl below) = omega arith
precedes_itself l (inr same) = false≢true (sym same.2 ∙ same.1)

-- a list in order has no two literals that are one
two_alike : (k m l : Literal) (others : List Literal) → IsOrdered (k ∷ m ∷ others) → l ≡ k → l ≡ m → ⊥
two_alike k m l others ordered one other =
    precedes_itself l (subst (λ (x : Literal). Precedes l x) (sym other) (subst (λ (x : Literal). Precedes x m) (sym one) (ordered 0 1 k (omega arith) (omega arith))))

-- what one clause makes true where more is true covers what it makes true where less is
covers_after : (trues more : List Literal) → Covers more trues → (less rest : List Literal) → ((l : Literal) → Contains rest l → Contains less l) → (rest ≡ [] → ⊥) → IsOrdered rest → Covers (trues_after more rest) (trues_after trues less)
covers_after trues more covers [] rest within some ordered x found = trues_stay more rest x (covers x found)
covers_after trues more covers (k ∷ m ∷ others) rest within some ordered x found = trues_stay more rest x (covers x found)
covers_after trues more covers (l ∷ []) [] within some ordered x found = absurd (some refl)
covers_after trues more covers (l ∷ []) (k ∷ m ∷ others) within some ordered x found =
    absurd (two_alike k m l others ordered (only l k (within k (Contains-here k (m ∷ others)))) (only l m (within m (Contains-there k (m ∷ others) m (Contains-here m others)))))
covers_after trues more covers (l ∷ []) (k ∷ []) within some ordered x found =
    subst (λ (c : Literal). Contains (trues_after more (c ∷ [])) x) (only l k (within k (Contains-here k [])))
    (covers_after_one trues more covers l (is_among more l) refl x (with_l (is_among trues l) found))
  where
    with_l : (b : Bool) → Contains (cond b trues (l ∷ trues)) x → Contains (l ∷ trues) x
    with_l true stands = Contains-there l trues x stands
    with_l false stands = stands

nil_or_not : (xs : List Literal) → (xs ≡ []) ⊎ (xs ≡ [] → ⊥)
nil_or_not [] = inl refl
nil_or_not (x ∷ xs) = inr (λ e. cc)

-- a reading that succeeds does so where more is true
pub reading_more : (clauses : List (List Literal)) (trues more : List Literal) → AllByRecursion IsOrdered clauses → Covers more trues → reading_succeeds trues clauses ≡ true → reading_succeeds more clauses ≡ true
reading_more [] trues more ordered covers succeeds = succeeds
reading_more (clause ∷ clauses) trues more ordered covers succeeds =
    elim (or_cases (list_all (is_false trues) clause) (reading_succeeds (trues_after trues (not_false trues clause)) clauses) succeeds) [
      | inl all ↦ or_left (list_all (is_false more) clause) _
          (all_pass (is_false more) clause (λ l found. false_with_more trues more covers l (passes_each (is_false trues) clause l all found)))
      | inr later ↦ elim (nil_or_not (not_false more clause)) [
        | inl none ↦ or_left (list_all (is_false more) clause) _ (all_false_from_none more clause none)
        | inr some ↦ or_right (list_all (is_false more) clause) _
            (reading_more clauses (trues_after trues (not_false trues clause)) (trues_after more (not_false more clause)) ordered.1
            (covers_after trues more covers (not_false trues clause) (not_false more clause) (kept_with_less trues more clause covers) some
            (AllPairs-filter Precedes (λ l. not (is_false more l)) clause ordered.0))
            later)
      ]
    ]

-- the one literal of a clause that may not be false
the_one : (trues clause : List Literal) (l : Literal) → ((m : Literal) → Contains clause m → m ≢ l → Contains trues (negation m)) → (k : Literal) → Contains (not_false trues clause) k → l ≡ k
the_one trues clause l others k found =
    let parts = Contains-from_filter (λ m. not (is_false trues m)) clause k found in
    elim (either (same_literal l k)) [
      | inl same ↦ literals_from_test l k same
      | inr differ ↦ absurd (not_true (is_false trues k) parts.1 (test_from_Contains trues (negation k)
          (others k parts.0 (λ e. false≢true (sym differ ∙ same_literal-true l k (sym e))))))
    ]

-- a clause whose literals are all false but for one at most makes that one true, if it isn't a conflict
pub reading_goes_on : (trues clause : List Literal) (clauses : List (List Literal)) (l : Literal) → IsOrdered clause → AllByRecursion IsOrdered clauses → ((m : Literal) → Contains clause m → m ≢ l → Contains trues (negation m)) → reading_succeeds (l ∷ trues) clauses ≡ true → reading_succeeds trues (clause ∷ clauses) ≡ true
reading_goes_on trues clause clauses l ordered all_ordered others succeeds =
    elim (nil_or_not (not_false trues clause)) [
      | inl none ↦ or_left (list_all (is_false trues) clause) _ (all_false_from_none trues clause none)
      | inr some ↦ or_right (list_all (is_false trues) clause) _
          (reading_more clauses (l ∷ trues) (trues_after trues (not_false trues clause)) all_ordered
          (given_by (not_false trues clause) (the_one trues clause l others) some (AllPairs-filter Precedes (λ m. not (is_false trues m)) clause ordered)) succeeds)
    ]
  where
    given_by : (rest : List Literal) → ((k : Literal) → Contains rest k → l ≡ k) → (rest ≡ [] → ⊥) → IsOrdered rest → Covers (trues_after trues rest) (l ∷ trues)
    given_by [] one some ordered = absurd (some refl)
    given_by (k ∷ m ∷ more) one some ordered = absurd (two_alike k m l more ordered (one k (Contains-here k (m ∷ more))) (one m (Contains-there k (m ∷ more) m (Contains-here m more))))
    given_by (k ∷ []) one some ordered = λ x found.
        subst (λ (c : Literal). Contains (trues_after trues (c ∷ [])) x) (one k (Contains-here k []))
        (covers_after_one trues trues (λ y stands. stands) l (is_among trues l) refl x found)

-- a clause is shown where the reading from its negated literals succeeds
pub shown_by_reading : (clause : List Literal) (hints : List (List Literal)) → reading_succeeds (map negation clause) hints ≡ true → is_shown_by clause hints ≡ true
shown_by_reading clause hints succeeds = or_right (has_contradiction (map negation clause)) (reading_succeeds (map negation clause) hints) succeeds
