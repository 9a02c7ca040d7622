-- What a reading of a cube's clauses shows, the joined ones show, where the cube's literals are true from the start.
use Rattle.std.proofs.Common.{◌≡◌, Bool, true, false, not, ◌||◌, ◌⊎◌, inl, inr, List, [], ◌∷◌, ◌++◌, refl, ap, ◌∙◌, sym, subst, cond}
use Rattle.std.specs.Prelude.{Contains, map}
use Rattle.std.specs.List.{list_all, AllByRecursion}
use Rattle.std.proofs.lemmas.Bool.{false≢true, or_right}
use Rattle.std.proofs.lemmas.List.Elements.{Contains-append_left, Contains-append_right, All-contains}
use Rattle.cnf_core.specs.Literal.{Literal, negation, IsOrdered, HaveSameLiterals, is_among}
use Rattle.cnf_core.specs.Reading.{is_false, not_false, trues_after, reading_succeeds, has_contradiction, is_shown_by}
use Rattle.cnf_core.specs.Steps.{IsConsistent}
use Rattle.cnf_core.proofs.Members.{Contains-here, Contains-there, Contains-cases, none_in_nil, or_cases, either, Contains-from_test, test_from_Contains, Contains-filter, passes_each, passes_none, passes_some, negation-negation}
use Rattle.cnf_core.proofs.Readings.{Covers, reading_more, reading_goes_on, reading_ends, shown_by_reading}

pub Contains-map : (ls : List Literal) (l : Literal) → Contains ls l → Contains (map negation ls) (negation l)
Contains-map [] l found = absurd (none_in_nil l found)
Contains-map (m ∷ ls) l found = elim (Contains-cases m ls l found) [
  | inl here ↦ subst (λ (x : Literal). Contains (map negation (m ∷ ls)) (negation x)) here (Contains-here (negation m) (map negation ls))
  | inr there ↦ Contains-there (negation m) (map negation ls) (negation l) (Contains-map ls l there)
]

-- what stands among negations is the negation of one of these
pub Contains-from_map : (ls : List Literal) (x : Literal) → Contains (map negation ls) x → Contains ls (negation x)
Contains-from_map [] x found = absurd (none_in_nil x found)
Contains-from_map (m ∷ ls) x found = elim (Contains-cases (negation m) (map negation ls) x found) [
  | inl here ↦ subst (Contains (m ∷ ls)) (sym (negation-negation m) ∙ ap negation here) (Contains-here m ls)
  | inr there ↦ Contains-there m ls (negation x) (Contains-from_map ls x there)
]

-- in a reading of the joined clauses more is true than in that of the cube's: all of the cube's literals, and no negation of one
pub record IsWider (literals trues more : List Literal) : Type 0 where
  pub covers : Covers more trues
  pub cube : (q : Literal) → Contains literals q → Contains more q
  pub none : (q : Literal) → Contains literals q → Contains more (negation q) → ⊥

-- The joined clauses are the cube's in order, each with negations of the cube's literals at most, without some of those that one of these
-- literals makes true.
abbrev pub Mirrors : List Literal → List (List Literal) → List (List Literal) → Type 0
Mirrors literals [] joined = joined ≡ []
Mirrors literals (clause ∷ clauses) joined =
    (((q : Literal) × Contains literals q × Contains clause q) × Mirrors literals clauses joined)
    ⊎ ((wide : List Literal) × (rest : List (List Literal)) × (joined ≡ wide ∷ rest) × IsOrdered wide
    × ((l : Literal) → Contains wide l → Contains clause l ⊎ Contains literals (negation l)) × Mirrors literals clauses rest)

mirrors_ordered : (literals : List Literal) (clauses joined : List (List Literal)) → Mirrors literals clauses joined → AllByRecursion IsOrdered joined
mirrors_ordered literals [] joined is = subst (AllByRecursion IsOrdered) (sym is) tt
mirrors_ordered literals (clause ∷ clauses) joined (inl left) = mirrors_ordered literals clauses joined left.1
mirrors_ordered literals (clause ∷ clauses) joined (inr here) =
    subst (AllByRecursion IsOrdered) (sym here.2) (here.3, mirrors_ordered literals clauses here.1 here.5)

-- what is true after a clause was true before, or is the one literal that was left of it
after_cases : (trues rest : List Literal) (x : Literal) → Contains (trues_after trues rest) x → Contains trues x ⊎ (rest ≡ x ∷ [])
after_cases trues [] x found = inl found
after_cases trues (l ∷ m ∷ others) x found = inl found
after_cases trues (l ∷ []) x found = chosen (is_among trues l) found
  where
    chosen : (b : Bool) → Contains (cond b trues (l ∷ trues)) x → Contains trues x ⊎ (l ∷ [] ≡ x ∷ [])
    chosen true there = inl there
    chosen false there = elim (Contains-cases l trues x there) [ inl here ↦ inr (ap (λ (y : Literal). y ∷ []) here) | inr later ↦ inl later ]

trues_stay : (trues rest : List Literal) → Covers (trues_after trues rest) trues
trues_stay trues [] l found = found
trues_stay trues (k ∷ m ∷ others) l found = found
trues_stay trues (k ∷ []) l found = chosen (is_among trues k)
  where
    chosen : (b : Bool) → Contains (cond b trues (k ∷ trues)) l
    chosen true = found
    chosen false = Contains-there k trues l found

only : (l x : Literal) → Contains (l ∷ []) x → l ≡ x
only l x found = elim (Contains-cases l [] x found) [ inl is ↦ is | inr none ↦ absurd (none_in_nil x none) ]

-- a literal of a clause is false, or among those that aren't
false_or_left : (trues clause : List Literal) (l : Literal) → Contains clause l → Contains trues (negation l) ⊎ Contains (not_false trues clause) l
false_or_left trues clause l found = elim (either (is_false trues l)) [
  | inl is ↦ inl (Contains-from_test trues (negation l) is)
  | inr isnt ↦ inr (Contains-filter (λ m. not (is_false trues m)) clause l found (ap not isnt))
]

-- a clause that has a literal of the cube makes nothing true that isn't true in the wider reading
left_out : (literals trues more clause : List Literal) (q : Literal) → IsWider literals trues more → Contains literals q → Contains clause q → IsWider literals (trues_after trues (not_false trues clause)) more
left_out literals trues more clause q wider in_cube in_clause = record {
  cube = wider.cube;
  none = wider.none;
  covers = λ x found. elim (after_cases trues (not_false trues clause) x found) [
    | inl before ↦ wider.covers x before
    | inr one ↦ elim (false_or_left trues clause q in_clause) [
      | inl is ↦ absurd (wider.none q in_cube (wider.covers (negation q) is))
      | inr left ↦ subst (Contains more) (sym (only x q (subst (λ (ls : List Literal). Contains ls q) one left))) (wider.cube q in_cube)
    ]
  ];
}

module _ (literals trues more clause wide : List Literal) (rest : List (List Literal)) (wider : IsWider literals trues more)
    (within : (l : Literal) → Contains wide l → Contains clause l ⊎ Contains literals (negation l)) where
  -- a literal of the joined clause is false in the wider reading, or left of the cube's clause
  wide_or_left : (l : Literal) → Contains wide l → Contains more (negation l) ⊎ Contains (not_false trues clause) l
  wide_or_left l found = elim (within l found) [
    | inl in_clause ↦ elim (false_or_left trues clause l in_clause) [
      | inl is ↦ inl (wider.covers (negation l) is)
      | inr left ↦ inr left
    ]
    | inr in_cube ↦ inl (wider.cube (negation l) in_cube)
  ]

  wide_ends : list_all (is_false trues) clause ≡ true → reading_succeeds more (wide ∷ rest) ≡ true
  wide_ends all = reading_ends more wide rest (λ l found. elim (within l found) [
    | inl in_clause ↦ wider.covers (negation l) (Contains-from_test trues (negation l) (passes_each (is_false trues) clause l all in_clause))
    | inr in_cube ↦ wider.cube (negation l) in_cube
  ])

  -- one more clause does no harm
  one_more : AllByRecursion IsOrdered rest → reading_succeeds more rest ≡ true → reading_succeeds more (wide ∷ rest) ≡ true
  one_more ordered succeeds =
      or_right (list_all (is_false more) wide) _
      (reading_more rest more (trues_after more (not_false more wide)) ordered (trues_stay more (not_false more wide)) succeeds)

  wider_with : (l : Literal) → is_among more (negation l) ≡ false → IsWider literals (trues_after trues (l ∷ [])) (l ∷ more)
  wider_with l isnt = record {
    covers = λ x found. elim (after_cases trues (l ∷ []) x found) [
      | inl before ↦ Contains-there l more x (wider.covers x before)
      | inr one ↦ subst (Contains (l ∷ more)) (only l x (subst (λ (ls : List Literal). Contains ls x) (sym one) (Contains-here x []))) (Contains-here l more)
    ];
    cube = λ q found. Contains-there l more q (wider.cube q found);
    none = λ q found negated. elim (Contains-cases l more (negation q) negated) [
      | inl here ↦ false≢true (sym isnt ∙ test_from_Contains more (negation l) (subst (Contains more) (sym (ap negation here ∙ negation-negation q)) (wider.cube q found)))
      | inr there ↦ wider.none q found there
    ];
  }

  goes_on : (clauses : List (List Literal)) → IsOrdered wide → AllByRecursion IsOrdered rest
      → ((fewer wider' : List Literal) → IsWider literals fewer wider' → reading_succeeds fewer clauses ≡ true → reading_succeeds wider' rest ≡ true)
      → (left : List Literal) → not_false trues clause ≡ left → reading_succeeds (trues_after trues left) clauses ≡ true → reading_succeeds more (wide ∷ rest) ≡ true
  goes_on clauses ordered all next [] is succeeds = one_more all (next trues more wider succeeds)
  goes_on clauses ordered all next (l ∷ m ∷ others) is succeeds = one_more all (next trues more wider succeeds)
  goes_on clauses ordered all next (l ∷ []) is succeeds = elim (either (is_among more (negation l))) [
    | inl closed ↦ reading_ends more wide rest (λ x found. elim (wide_or_left x found) [
      | inl it ↦ it
      | inr left ↦ subst (λ (y : Literal). Contains more (negation y)) (only l x (subst (λ (ls : List Literal). Contains ls x) is left)) (Contains-from_test more (negation l) closed)
    ])
    | inr isnt ↦ reading_goes_on more wide rest l ordered all (λ x found differs. elim (wide_or_left x found) [
      | inl it ↦ it
      | inr left ↦ absurd (differs (sym (only l x (subst (λ (ls : List Literal). Contains ls x) is left))))
    ]) (next (trues_after trues (l ∷ [])) (l ∷ more) (wider_with l isnt) succeeds)
  ]

-- where the cube's clauses are read with success, so are the joined ones
pub reads : (literals : List Literal) (clauses joined : List (List Literal)) (trues more : List Literal) → Mirrors literals clauses joined → IsWider literals trues more → reading_succeeds trues clauses ≡ true → reading_succeeds more joined ≡ true
reads literals [] joined trues more mirrors wider succeeds = absurd (false≢true succeeds)
reads literals (clause ∷ clauses) joined trues more (inl left) wider succeeds =
    elim (or_cases (list_all (is_false trues) clause) (reading_succeeds (trues_after trues (not_false trues clause)) clauses) succeeds) [
      | inl all ↦ absurd (wider.none left.0.0 left.0.1 (wider.covers (negation left.0.0)
          (Contains-from_test trues (negation left.0.0) (passes_each (is_false trues) clause left.0.0 all left.0.2))))
      | inr later ↦ reads literals clauses joined (trues_after trues (not_false trues clause)) more left.1 (left_out literals trues more clause left.0.0 wider left.0.1 left.0.2) later
    ]
reads literals (clause ∷ clauses) joined trues more (inr here) wider succeeds =
    subst (λ (cs : List (List Literal)). reading_succeeds more cs ≡ true) (sym here.2)
    (elim (or_cases (list_all (is_false trues) clause) (reading_succeeds (trues_after trues (not_false trues clause)) clauses) succeeds) [
      | inl all ↦ wide_ends literals trues more clause here.0 here.1 wider here.4 all
      | inr later ↦ goes_on literals trues more clause here.0 here.1 wider here.4 clauses here.3 (mirrors_ordered literals clauses here.1 here.5)
          (λ fewer wider' w s. reads literals clauses here.1 fewer wider' here.5 w s) (not_false trues clause) refl later
    ])

twice : (ls : List Literal) (l : Literal) → Contains ls (negation (negation l)) → Contains ls l
twice ls l found = subst (Contains ls) (negation-negation l) found

-- the same where no literal stands together with its negation
consistent_shown : (literals clause wide : List Literal) (clauses joined : List (List Literal)) → Mirrors literals clauses joined → HaveSameLiterals wide (map negation literals ++ clause) → IsConsistent wide → is_shown_by clause clauses ≡ true → is_shown_by wide joined ≡ true
consistent_shown literals clause wide clauses joined mirrors same consistent shown =
    let in_wide : (l : Literal) → Contains clause l → Contains wide l =
    λ l found. All-contains (Contains wide) (map negation literals ++ clause) l same.from_second (Contains-append_right (map negation literals) clause l found) in
    let cube_in_wide : (q : Literal) → Contains literals q → Contains wide (negation q) =
    λ q found. All-contains (Contains wide) (map negation literals ++ clause) (negation q) same.from_second (Contains-append_left (map negation literals) clause (negation q) (Contains-map literals q found)) in
    elim (or_cases (has_contradiction (map negation clause)) (reading_succeeds (map negation clause) clauses) shown) [
      | inl clash ↦
          let found = passes_some (is_false (map negation clause)) (map negation clause) clash in
          absurd (consistent (negation found.0) (in_wide (negation found.0) (Contains-from_map clause found.0 found.1))
          (in_wide (negation (negation found.0)) (Contains-from_map clause (negation found.0) (Contains-from_test (map negation clause) (negation found.0) found.2))))
      | inr succeeds ↦ shown_by_reading wide joined (reads literals clauses joined (map negation clause) (map negation wide) mirrors (record {
        covers = λ x found. twice (map negation wide) x (Contains-map wide (negation x) (in_wide (negation x) (Contains-from_map clause x found)));
        cube = λ q found. twice (map negation wide) q (Contains-map wide (negation q) (cube_in_wide q found));
        none = λ q found negated. consistent q (twice wide q (Contains-from_map wide (negation q) negated)) (cube_in_wide q found);
      }) succeeds)
    ]

-- hints that show a step of the cube show it with the negations of the cube's literals
pub wide_shown : (literals clause wide : List Literal) (clauses joined : List (List Literal)) → Mirrors literals clauses joined → HaveSameLiterals wide (map negation literals ++ clause) → is_shown_by clause clauses ≡ true → is_shown_by wide joined ≡ true
wide_shown literals clause wide clauses joined mirrors same shown = elim (either (has_contradiction (map negation wide))) [
  | inl clash ↦ ap (λ (b : Bool). b || reading_succeeds (map negation wide) joined) clash
  | inr apart ↦ consistent_shown literals clause wide clauses joined mirrors same (λ l here there.
      let T = map negation wide in
      false≢true (sym (passes_none (is_false T) T (negation l) apart (Contains-map wide l here)) ∙ test_from_Contains T (negation (negation l)) (Contains-map wide (negation l) there))) shown
]
