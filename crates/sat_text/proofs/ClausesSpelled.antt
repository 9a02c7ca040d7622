-- The reader of clauses reads what their grammar spells.
use Rattle.std.proofs.Common.{◌≡◌, ℕ, zero, suc, ℤ, pos, ◌≤◌, true, false, leb, List, [], ◌∷◌, ◌++◌, length, map, Option, Some, None, Result, Ok, Err, refl, sym, ap, subst, ◌∙◌, append_assoc, arith, inl, inr, ◌⊎◌}
use Rattle.std.proofs.lemmas.Bool.Decides.{nat_tests}
use Rattle.std.proofs.lemmas.Bool.{leb-true}
use Rattle.std.proofs.lemmas.List.{append-nil}
use Rattle.std.proofs.lemmas.List.Elements.{All-from_recursion, recursion_from_All}
use Rattle.std.specs.List.{AllByRecursion}
use Rattle.cnf_core.specs.Literal.{Literal}
use Rattle.sat_text.specs.Words.{PlacedWord}
use Rattle.sat_text.specs.Numbers.{whole_of}
use Rattle.sat_text.specs.Clauses.{is_zero, literal_of, number_of, in_order}
use Rattle.sat_text.specs.Cnf.{with_clause, number_next, clauses_of_words}
use Rattle.sat_text.specs.CnfGrammar.{SpellsNumbers, SpellsClauses}
use Rattle.sat_text.proofs.Cuts.{bool_cases}
use Rattle.sat_text.proofs.Spelling.{cons_same, cons_head, cons_tail, literal_of_number, number_not_zero, number_of_literal, literal_some, zero_number, in_order_is_clause, clause_is_in_order}

abbrev Read : Type 0
Read = Result (List (List Literal)) ℕ

abbrev pub bytes_of : List PlacedWord → List (List ℕ)
bytes_of found = map (λ word. word.bytes) found

abbrev IsUpTo : ℕ → Literal → Type 0
IsUpTo vars l = (1 ≤ l.var) × (l.var ≤ vars)

-- the numbers of clauses, of which the first one is begun
abbrev pub Grouped : ℕ → List Literal → List (List Literal) → List ℤ → Type 0
Grouped vars begun [] numbers = numbers ≡ []
Grouped vars begun (clause ∷ clauses) numbers =
    (literals : List Literal) × (later : List ℤ) × (numbers ≡ map number_of literals ++ pos 0 ∷ later)
    × AllByRecursion (IsUpTo vars) literals × (clause ≡ in_order (begun ++ literals)) × Grouped vars [] clauses later

pub grouped_spells : (vars : ℕ) (clauses : List (List Literal)) (numbers : List ℤ) → Grouped vars [] clauses numbers → SpellsClauses vars clauses numbers
grouped_spells vars [] numbers g = g
grouped_spells vars (clause ∷ clauses) numbers g =
    (g.0, g.1, g.2, All-from_recursion (IsUpTo vars) g.0 g.3, in_order_is_clause clause g.0 g.4, grouped_spells vars clauses g.1 g.5)

pub spells_grouped : (vars : ℕ) (clauses : List (List Literal)) (numbers : List ℤ) → SpellsClauses vars clauses numbers → Grouped vars [] clauses numbers
spells_grouped vars [] numbers s = s
spells_grouped vars (clause ∷ clauses) numbers s =
    (s.0, s.1, s.2, recursion_from_All (IsUpTo vars) s.0 s.3, clause_is_in_order clause s.0 s.4, spells_grouped vars clauses s.1 s.5)

-- ---- what is read is spelled

next_cases : (line vars : ℕ) (o : Option ℤ) (f : ℤ → Read) (g : Read) (clauses : List (List Literal)) → number_next line vars o f g ≡ Ok clauses
    → (n : ℤ) × (o ≡ Some n) × (((is_zero n ≡ true) × (g ≡ Ok clauses)) ⊎ ((is_zero n ≡ false) × ((literal_of n).var ≤ vars) × (f n ≡ Ok clauses)))
next_cases line vars None f g clauses e = absurd cc
next_cases line vars (Some n) f g clauses e = elim (bool_cases (is_zero n)) [
  | inl t ↦ (n, refl, inl (t, rw t at e))
  | inr z ↦ elim (bool_cases (leb (literal_of n).var vars)) [
    | inl t ↦ (n, refl, inr (z, leb-true _ _ t, rw (z, t) at e))
    | inr u ↦ absurd (let wrong = rw (z, u) at e in cc)
  ]
]

pub clause_before : (clause : List Literal) (read : Read) (clauses : List (List Literal)) → with_clause clause read ≡ Ok clauses → (later : List (List Literal)) × (read ≡ Ok later) × (clauses ≡ clause ∷ later)
clause_before clause (Ok later) clauses e = let same : clause ∷ later ≡ clauses = cc in (later, refl, sym same)
clause_before clause (Err line) clauses e = absurd cc

-- words spell clauses, of which the first one is begun
abbrev Said : ℕ → ℕ → List Literal → List PlacedWord → List (List Literal) → Type 0
Said vars count begun found clauses =
    (numbers : List ℤ) × SpellsNumbers numbers (bytes_of found) × (length clauses ≡ count) × Grouped vars begun clauses numbers

said_ends : (vars count : ℕ) (begun : List Literal) (word : PlacedWord) (later : List PlacedWord) (clauses rest : List (List Literal)) (n : ℤ) → whole_of word.bytes ≡ Some n → is_zero n ≡ true
    → clauses ≡ in_order begun ∷ rest → Said vars count [] later rest → Said vars (suc count) begun (word ∷ later) clauses
said_ends vars count begun word later clauses rest n e z is s =
    let zero-is : whole_of word.bytes ≡ Some (pos 0) = e ∙ ap (λ (m : ℤ). Some m) (zero_number n z) in
    subst (Said vars (suc count) begun (word ∷ later)) (sym is)
    (pos 0 ∷ s.0, cons_same (whole_of word.bytes) (Some (pos 0)) (map whole_of (bytes_of later)) (map (λ m. Some m) s.0) zero-is s.1, omega (arith, s.2), ([], s.0, refl, tt, ap in_order (sym (append-nil begun)), s.3))

said_more : (vars count : ℕ) (begun : List Literal) (word : PlacedWord) (later : List PlacedWord) (clauses : List (List Literal)) (n : ℤ) → whole_of word.bytes ≡ Some n → is_zero n ≡ false
    → (literal_of n).var ≤ vars → Said vars (suc count) (begun ++ literal_of n ∷ []) later clauses → Said vars (suc count) begun (word ∷ later) clauses
said_more vars count begun word later [] n e z le s = absurd (omega (arith, s.2))
said_more vars count begun word later (clause ∷ clauses) n e z le s =
    let g = s.3 in
    let front = map number_of g.0 ++ pos 0 ∷ g.1 in (
      n ∷ s.0,
      cons_same (whole_of word.bytes) (Some n) (map whole_of (bytes_of later)) (map (λ m. Some m) s.0) e s.1,
      s.2,
      (
        literal_of n ∷ g.0,
        g.1,
        cons_same n (number_of (literal_of n)) s.0 front (sym (number_of_literal n z)) g.2,
        ((literal_some n z, le), g.3),
        g.4 ∙ ap in_order (append_assoc begun (literal_of n ∷ []) g.0),
        g.5,
      ),
    )

pub clauses_sound : (last vars count : ℕ) (begun : List Literal) (found : List PlacedWord) (clauses : List (List Literal)) → clauses_of_words last vars count begun found ≡ Ok clauses → Said vars count begun found clauses
unfolding clauses_of_words
clauses_sound last vars zero begun [] clauses e = let none : [] ≡ clauses = cc in subst (Said vars zero begun []) none ([], refl, refl, refl)
clauses_sound last vars (suc count) begun [] clauses e = absurd cc
clauses_sound last vars zero begun (word ∷ later) clauses e = absurd cc
clauses_sound last vars (suc count) begun (word ∷ later) clauses e =
    let c = next_cases word.line vars (whole_of word.bytes) _ _ clauses e in
    elim c.2 [
      | inl ends ↦
          let w = clause_before (in_order begun) _ clauses ends.1 in
          said_ends vars count begun word later clauses w.0 c.0 c.1 ends.0 w.2 (clauses_sound last vars count [] later w.0 w.1)
      | inr more ↦ said_more vars count begun word later clauses c.0 c.1 more.0 more.1 (clauses_sound last vars (suc count) (begun ++ literal_of c.0 ∷ []) later clauses more.2)
    ]

-- ---- what is spelled is read

at_end : (last vars : ℕ) (begun : List Literal) (word : PlacedWord) (later : List PlacedWord) (clauses : List (List Literal)) (count : ℕ) → whole_of word.bytes ≡ Some (pos 0) → clauses_of_words last vars count [] later ≡ Ok clauses
    → clauses_of_words last vars (suc count) begun (word ∷ later) ≡ Ok (in_order begun ∷ clauses)
unfolding clauses_of_words
at_end last vars begun word later clauses count e r = rw (e, r) refl

at_literal : (last vars : ℕ) (begun : List Literal) (word : PlacedWord) (later : List PlacedWord) (clauses : List (List Literal)) (count : ℕ) (l : Literal) → whole_of word.bytes ≡ Some (number_of l) → IsUpTo vars l
    → clauses_of_words last vars (suc count) (begun ++ l ∷ []) later ≡ Ok clauses → clauses_of_words last vars (suc count) begun (word ∷ later) ≡ Ok clauses
unfolding clauses_of_words
at_literal last vars begun word later clauses count l e up r =
    let fits : leb l.var vars ≡ true = grind (arith, nat_tests, up.1) in
    rw (e, number_not_zero l up.0, literal_of_number l up.0, fits) r

clause_more : (last vars : ℕ) (begun : List Literal) (word : PlacedWord) (later : List PlacedWord) (clause : List Literal) (clauses : List (List Literal)) (n : ℤ) (numbers : List ℤ) → whole_of word.bytes ≡ Some n
    → ((next : List Literal) → Grouped vars next (clause ∷ clauses) numbers → clauses_of_words last vars (suc (length clauses)) next later ≡ Ok (clause ∷ clauses))
    → (Grouped vars [] clauses numbers → clauses_of_words last vars (length clauses) [] later ≡ Ok clauses)
    → (literals : List Literal) (rest : List ℤ) → n ∷ numbers ≡ map number_of literals ++ pos 0 ∷ rest → AllByRecursion (IsUpTo vars) literals → clause ≡ in_order (begun ++ literals) → Grouped vars [] clauses rest
    → clauses_of_words last vars (suc (length clauses)) begun (word ∷ later) ≡ Ok (clause ∷ clauses)
clause_more last vars begun word later clause clauses n numbers e again ends [] rest is up made g =
    let zero-is : n ≡ pos 0 = cons_head n (pos 0) numbers rest is in
    let same : rest ≡ numbers = sym (cons_tail n (pos 0) numbers rest is) in
    at_end last vars begun word later clauses (length clauses) (e ∙ ap (λ (m : ℤ). Some m) zero-is) (ends (subst (Grouped vars [] clauses) same g))
    ∙ ap (λ (c : List Literal). Ok (c ∷ clauses)) (ap in_order (sym (append-nil begun)) ∙ sym made)
clause_more last vars begun word later clause clauses n numbers e again ends (l ∷ literals) rest is up made g =
    let first : n ≡ number_of l = cons_head n (number_of l) numbers (map number_of literals ++ pos 0 ∷ rest) is in
    let others : numbers ≡ map number_of literals ++ pos 0 ∷ rest = cons_tail n (number_of l) numbers (map number_of literals ++ pos 0 ∷ rest) is in
    at_literal last vars begun word later (clause ∷ clauses) (length clauses) l (e ∙ ap (λ (m : ℤ). Some m) first) up.0
    (again (begun ++ l ∷ []) (literals, rest, others, up.1, made ∙ ap in_order (sym (append_assoc begun (l ∷ []) literals)), g))

none_left : (literals : List Literal) (later : List ℤ) → [] ≡ map number_of literals ++ pos 0 ∷ later → ⊥
none_left [] later e = cc
none_left (l ∷ literals) later e = cc

pub clauses_complete : (last vars : ℕ) (begun : List Literal) (found : List PlacedWord) (clauses : List (List Literal)) (numbers : List ℤ) → SpellsNumbers numbers (bytes_of found) → Grouped vars begun clauses numbers
    → clauses_of_words last vars (length clauses) begun found ≡ Ok clauses
unfolding clauses_of_words
clauses_complete last vars begun [] [] numbers s g = refl
clauses_complete last vars begun [] (clause ∷ clauses) [] s g = absurd (none_left g.0 g.1 g.2)
clauses_complete last vars begun [] (clause ∷ clauses) (n ∷ numbers) s g = absurd cc
clauses_complete last vars begun (word ∷ later) [] [] s g = absurd cc
clauses_complete last vars begun (word ∷ later) [] (n ∷ numbers) s g = absurd cc
clauses_complete last vars begun (word ∷ later) (clause ∷ clauses) [] s g = absurd cc
clauses_complete last vars begun (word ∷ later) (clause ∷ clauses) (n ∷ numbers) s g =
    let first = cons_head (whole_of word.bytes) (Some n) (map whole_of (bytes_of later)) (map (λ m. Some m) numbers) s in
    let others = cons_tail (whole_of word.bytes) (Some n) (map whole_of (bytes_of later)) (map (λ m. Some m) numbers) s in
    clause_more last vars begun word later clause clauses n numbers first
    (λ next. clauses_complete last vars next later (clause ∷ clauses) numbers others)
    (clauses_complete last vars [] later clauses numbers others)
    g.0 g.1 g.2 g.3 g.4 g.5
