-- A step that is effective in its cube is new where steps of cubes are joined.
use Rattle.std.proofs.Common.{◌≡◌, ◌⊎◌, inl, inr, List, [], ◌∷◌, ◌++◌, ◌∙◌, sym, subst}
use Rattle.std.specs.Prelude.{ℕ, Contains, map}
use Rattle.std.proofs.lemmas.Bool.{false≢true}
use Rattle.std.proofs.lemmas.List.Elements.{Contains-append_cases, All-contains}
use Rattle.cnf_core.specs.Literal.{Literal, negation, HaveSameLiterals, same_literal}
use Rattle.cnf_core.specs.Events.{LogEvent, clauses_of}
use Rattle.cnf_core.specs.Steps.{IsConsistent, IsEffectiveStep, IsNewStep, StandsInGiven, HasTrueLiteral, HasTwoNotFalse, Includes}
use Rattle.cnf_core.proofs.Members.{All-from_contains, Contains-cases, none_in_nil, either, literals_from_test, same_literal-true, negation-negation}
use Rattle.sat_join.proofs.Wider.{Contains-from_map}

only : (l x : Literal) → Contains (l ∷ []) x → l ≡ x
only l x found = elim (Contains-cases l [] x found) [ inl is ↦ is | inr none ↦ absurd (none_in_nil x none) ]

same_or_not : (l m : Literal) → (l ≡ m) ⊎ (l ≡ m → ⊥)
same_or_not l m = elim (either (same_literal l m)) [
  | inl same ↦ inl (literals_from_test l m same)
  | inr differ ↦ inr (λ e. false≢true (sym differ ∙ same_literal-true l m e))
]

-- no literal stands among these together with its negation
abbrev pub AreApart : List Literal → Type 0
AreApart literals = (q : Literal) → Contains literals q → Contains literals (negation q) → ⊥

-- a joined clause has all literals of one that stood before the step, or a literal of the cube
abbrev pub ComesFrom : List LogEvent → List Literal → List Literal → Type 0
ComesFrom before literals other =
    ((old : List Literal) × Contains (clauses_of before) old × ((l : Literal) → Contains old l → Contains other l))
    ⊎ ((q : Literal) × Contains literals q × Contains other q)

module _ (before : List LogEvent) (clause literals : List Literal) (effective : IsEffectiveStep before clause)
    (units : (q : Literal) → Contains literals q → Contains (clauses_of before) (q ∷ [])) where
  settled : (other : List Literal) → Contains (clauses_of before) other → HasTrueLiteral effective.trues other ⊎ HasTwoNotFalse effective.trues other
  settled other there = All-contains (λ c. HasTrueLiteral effective.trues c ⊎ HasTwoNotFalse effective.trues c) (clauses_of before) other effective.at_end.settled there

  -- where propagation is at its end the cube's literals are true
  cube_true : (q : Literal) → Contains literals q → Contains effective.trues q
  cube_true q found = elim (settled (q ∷ []) (units q found)) [
    | inl one ↦ subst (Contains effective.trues) (sym (only q one.0 one.1)) one.2
    | inr two ↦ absurd (two.two (sym (only q two.one two.one_in) ∙ only q two.other two.other_in))
  ]

  -- a literal of the widened clause is false there, but for the last
  false_or_last : (l : Literal) → Contains (map negation literals ++ clause) l → Contains effective.trues (negation l) ⊎ (l ≡ effective.last)
  false_or_last l found = elim (Contains-append_cases (map negation literals) clause l found) [
    | inl in_cube ↦ inl (cube_true (negation l) (Contains-from_map literals l in_cube))
    | inr in_clause ↦ elim (same_or_not l effective.last) [
      | inl is ↦ inr is
      | inr differs ↦ inl (effective.is_last.others l in_clause differs)
    ]
  ]

  not_below : (other : List Literal) → Contains (clauses_of before) other → ((l : Literal) → Contains other l → Contains (map negation literals ++ clause) l) → ⊥
  not_below other there within = elim (settled other there) [
    | inl one ↦ elim (false_or_last one.0 (within one.0 one.1)) [
      | inl it ↦ effective.at_end.consistent one.0 one.2 it
      | inr is ↦ effective.is_last.not_true (subst (Contains effective.trues) is one.2)
    ]
    | inr two ↦ elim (false_or_last two.one (within two.one two.one_in)) [
      | inl it ↦ two.one_not_false it
      | inr is ↦ elim (false_or_last two.other (within two.other two.other_in)) [
        | inl it ↦ two.other_not_false it
        | inr also ↦ two.two (is ∙ sym also)
      ]
    ]
  ]

  -- the step has no literal of the cube
  none_of_cube : (q : Literal) → Contains literals q → Contains clause q → ⊥
  none_of_cube q in_cube in_clause = elim (same_or_not q effective.last) [
    | inl is ↦ effective.is_last.not_true (subst (Contains effective.trues) is (cube_true q in_cube))
    | inr differs ↦ effective.at_end.consistent q (cube_true q in_cube) (effective.is_last.others q in_clause differs)
  ]

  wide_consistent : AreApart literals → (wide : List Literal) → HaveSameLiterals wide (map negation literals ++ clause) → IsConsistent wide
  wide_consistent apart wide same l here there =
      elim (Contains-append_cases (map negation literals) clause l (within l here)) [
        | inl in_cube ↦ elim (Contains-append_cases (map negation literals) clause (negation l) (within (negation l) there)) [
          | inl also ↦ apart (negation l) (Contains-from_map literals l in_cube) (Contains-from_map literals (negation l) also)
          | inr in_clause ↦ none_of_cube (negation l) (Contains-from_map literals l in_cube) in_clause
        ]
        | inr in_clause ↦ elim (Contains-append_cases (map negation literals) clause (negation l) (within (negation l) there)) [
          | inl also ↦ none_of_cube l (subst (Contains literals) (negation-negation l) (Contains-from_map literals (negation l) also)) in_clause
          | inr also ↦ effective.new.consistent l in_clause also
        ]
      ]
    where
      within : (x : Literal) → Contains wide x → Contains (map negation literals ++ clause) x
      within x found = All-contains (Contains (map negation literals ++ clause)) wide x same.from_first found

  pub new_wide : (joined : List LogEvent) (wide : List Literal) → AreApart literals → HaveSameLiterals wide (map negation literals ++ clause)
      → ((q : Literal) → Contains literals q → StandsInGiven joined q.var)
      → ((v : ℕ) → StandsInGiven before v → StandsInGiven joined v)
      → ((other : List Literal) → Contains (clauses_of joined) other → ComesFrom before literals other)
      → IsNewStep joined wide
  new_wide joined wide apart same cube_stands stands origins = record {
    consistent = wide_consistent apart wide same;
    variables = All-from_contains (λ (l : Literal). StandsInGiven joined l.var) wide (λ l found.
        elim (Contains-append_cases (map negation literals) clause l (within l found)) [
          | inl in_cube ↦ cube_stands (negation l) (Contains-from_map literals l in_cube)
          | inr in_clause ↦ stands l.var (All-contains (λ m. StandsInGiven before m.var) clause l effective.new.variables in_clause)
        ]);
    not_included = All-from_contains (λ other. Includes wide other → ⊥) (clauses_of joined) (λ other found includes.
        elim (origins other found) [
          | inl old ↦ not_below old.0 old.1 (λ l there. within l (All-contains (Contains wide) other l includes (old.2 l there)))
          | inr one ↦ elim (Contains-append_cases (map negation literals) clause one.0 (within one.0 (All-contains (Contains wide) other one.0 includes one.2))) [
            | inl in_cube ↦ apart one.0 one.1 (Contains-from_map literals one.0 in_cube)
            | inr in_clause ↦ none_of_cube one.0 one.1 in_clause
          ]
        ]);
  }
    where
      within : (x : Literal) → Contains wide x → Contains (map negation literals ++ clause) x
      within x found = All-contains (Contains (map negation literals ++ clause)) wide x same.from_first found
