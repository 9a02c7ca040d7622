-- Where the words of clauses are wrong.
use Rattle.std.proofs.Common.{◌≡◌, ℕ, zero, suc, ℤ, true, false, leb, List, [], ◌∷◌, ◌++◌, Option, Some, None, Result, Ok, Err, refl, sym, ap, subst, ◌∙◌, inl, inr, ◌⊎◌}
use Rattle.cnf_core.specs.Literal.{Literal}
use Rattle.sat_text.specs.Words.{PlacedWord}
use Rattle.sat_text.specs.Numbers.{whole_of}
use Rattle.sat_text.specs.Clauses.{is_zero, literal_of, in_order}
use Rattle.sat_text.specs.Cnf.{with_clause, clauses_of_words}
use Rattle.sat_text.proofs.Cuts.{bool_cases}
use Rattle.sat_text.proofs.ClausesSpelled.{clause_before}

abbrev Read : Type 0
Read = Result (List (List Literal)) ℕ

-- words of a 0 on one line
abbrev pub zeros : ℕ → ℕ → List PlacedWord
zeros line zero = []
zeros line (suc n) = record { line = line; bytes = 48 ∷ [] } ∷ zeros line n

-- some 0 behind these words complete the clauses
abbrev pub Finishes : ℕ → ℕ → ℕ → ℕ → List Literal → List PlacedWord → Type 0
Finishes last vars count line begun front =
    (n : ℕ) × (clauses : List (List Literal)) × (clauses_of_words last vars count begun (front ++ zeros line n) ≡ Ok clauses)

-- the first word that nothing behind it mends
abbrev pub WrongWord : ℕ → ℕ → ℕ → ℕ → List Literal → List PlacedWord → ℕ → Type 0
WrongWord last vars count line begun found at =
    (front later : List PlacedWord) × (word : PlacedWord) × (found ≡ front ++ word ∷ later) × Finishes last vars count line begun front
    × ((more : List PlacedWord) (clauses : List (List Literal)) → clauses_of_words last vars count begun (front ++ word ∷ more) ≡ Ok clauses → ⊥) × (at ≡ word.line)

-- the words go on, and are too few
abbrev pub TooFew : ℕ → ℕ → ℕ → ℕ → List Literal → List PlacedWord → ℕ → Type 0
TooFew last vars count line begun found at = Finishes last vars count line begun found × (at ≡ last)

abbrev pub ClauseFault : ℕ → ℕ → ℕ → ℕ → List Literal → List PlacedWord → ℕ → Type 0
ClauseFault last vars count line begun found at = WrongWord last vars count line begun found at ⊎ TooFew last vars count line begun found at

pub zeros_finish : (last vars count line : ℕ) (begun : List Literal) → (clauses : List (List Literal)) × (clauses_of_words last vars count begun (zeros line count) ≡ Ok clauses)
unfolding clauses_of_words
zeros_finish last vars zero line begun = ([], refl)
zeros_finish last vars (suc count) line begun =
    let later = zeros_finish last vars count line [] in
    (in_order begun ∷ later.0, ap (with_clause (in_order begun)) later.1)

finishes_now : (last vars count line : ℕ) (begun : List Literal) → Finishes last vars count line begun []
finishes_now last vars count line begun = let z = zeros_finish last vars count line begun in (count, z.0, z.1)

-- a word is the first one, and wrong
wrong_now : (last vars count line : ℕ) (begun : List Literal) (word : PlacedWord) (later : List PlacedWord) → ((more : List PlacedWord) (clauses : List (List Literal)) → clauses_of_words last vars count begun (word ∷ more) ≡ Ok clauses → ⊥)
    → ClauseFault last vars count line begun (word ∷ later) word.line
wrong_now last vars count line begun word later never = inl ([], later, word, refl, finishes_now last vars count line begun, never, refl)

-- how what is read changes by a word before it
record Before (last vars count next : ℕ) (begun then : List Literal) (word : PlacedWord) : Type 0 where
  on : Read → Read
  read : (xs : List PlacedWord) → clauses_of_words last vars count begun (word ∷ xs) ≡ on (clauses_of_words last vars next then xs)
  gives : (clauses : List (List Literal)) → (more : List (List Literal)) × (on (Ok clauses) ≡ Ok more)
  needs : (r : Read) (clauses : List (List Literal)) → on r ≡ Ok clauses → (fewer : List (List Literal)) × (r ≡ Ok fewer)

finishes_before : (last vars count next line : ℕ) (begun then : List Literal) (word : PlacedWord) (front : List PlacedWord) → Before last vars count next begun then word → Finishes last vars next line then front
    → Finishes last vars count line begun (word ∷ front)
finishes_before last vars count next line begun then word front b f =
    let more = b.gives f.1 in
    (f.0, more.0, b.read (front ++ zeros line f.0) ∙ ap b.on f.2 ∙ more.1)

fault_before : (last vars count next line : ℕ) (begun then : List Literal) (word : PlacedWord) (later : List PlacedWord) (at : ℕ) → Before last vars count next begun then word
    → ClauseFault last vars next line then later at → ClauseFault last vars count line begun (word ∷ later) at
fault_before last vars count next line begun then word later at b (inl w) =
    inl (
      word ∷ w.0,
      w.1,
      w.2,
      ap (λ (ws : List PlacedWord). word ∷ ws) w.3,
      finishes_before last vars count next line begun then word w.0 b w.4,
      λ more clauses e. let r = b.needs (clauses_of_words last vars next then (w.0 ++ w.2 ∷ more)) clauses (sym (b.read (w.0 ++ w.2 ∷ more)) ∙ e) in w.5 more r.0 r.1,
      w.6,
    )
fault_before last vars count next line begun then word later at b (inr f) = inr (finishes_before last vars count next line begun then word later b f.0, f.1)

err_is : (line at : ℕ) → ◌≡◌ {A = Read} (Err line) (Err at) → at ≡ line
err_is line at e = cc

clause_error : (clause : List Literal) (read : Read) (at : ℕ) → with_clause clause read ≡ Err at → read ≡ Err at
clause_error clause (Ok clauses) at e = absurd cc
clause_error clause (Err line) at e = e

before_end : (last vars count : ℕ) (begun : List Literal) (word : PlacedWord) (n : ℤ) → whole_of word.bytes ≡ Some n → is_zero n ≡ true → Before last vars (suc count) count begun [] word
unfolding clauses_of_words
before_end last vars count begun word n e z = record {
  on = with_clause (in_order begun);
  read = λ xs. rw (e, z) refl;
  gives = λ clauses. (in_order begun ∷ clauses, refl);
  needs = λ r clauses same. let c = clause_before (in_order begun) r clauses same in (c.0, c.1);
}

before_literal : (last vars count : ℕ) (begun : List Literal) (word : PlacedWord) (n : ℤ) → whole_of word.bytes ≡ Some n → is_zero n ≡ false → leb (literal_of n).var vars ≡ true
    → Before last vars (suc count) (suc count) begun (begun ++ literal_of n ∷ []) word
unfolding clauses_of_words
before_literal last vars count begun word n e z fits = record {
  on = λ r. r;
  read = λ xs. rw (e, z, fits) refl;
  gives = λ clauses. (clauses, refl);
  needs = λ r clauses same. (clauses, same);
}

option_cases : (o : Option ℤ) → (o ≡ None) ⊎ ((n : ℤ) × (o ≡ Some n))
option_cases None = inl refl
option_cases (Some n) = inr (n, refl)

pub clauses_fault : (last vars count line : ℕ) (begun : List Literal) (found : List PlacedWord) (at : ℕ) → clauses_of_words last vars count begun found ≡ Err at → ClauseFault last vars count line begun found at
unfolding clauses_of_words
clauses_fault last vars zero line begun [] at e = absurd cc
clauses_fault last vars (suc count) line begun [] at e = inr (finishes_now last vars (suc count) line begun, err_is last at e)
clauses_fault last vars zero line begun (word ∷ later) at e =
    subst (ClauseFault last vars zero line begun (word ∷ later)) (sym (err_is word.line at e)) (wrong_now last vars zero line begun word later (λ more clauses same. cc))
clauses_fault last vars (suc count) line begun (word ∷ later) at e = elim (option_cases (whole_of word.bytes)) [
  | inl none ↦
      subst (ClauseFault last vars (suc count) line begun (word ∷ later)) (sym (err_is word.line at (rw none at e)))
      (wrong_now last vars (suc count) line begun word later (λ more clauses same. let wrong = rw none at same in cc))
  | inr some ↦ elim (bool_cases (is_zero some.0)) [
    | inl z ↦
        let b = before_end last vars count begun word some.0 some.1 z in
        fault_before last vars (suc count) count line begun [] word later at b
        (clauses_fault last vars count line [] later at (clause_error (in_order begun) (clauses_of_words last vars count [] later) at (rw (some.1, z) at e)))
    | inr z ↦ elim (bool_cases (leb (literal_of some.0).var vars)) [
      | inl t ↦
          let b = before_literal last vars count begun word some.0 some.1 z t in
          fault_before last vars (suc count) (suc count) line begun (begun ++ literal_of some.0 ∷ []) word later at b
          (clauses_fault last vars (suc count) line (begun ++ literal_of some.0 ∷ []) later at (rw (some.1, z, t) at e))
      | inr f ↦
          subst (ClauseFault last vars (suc count) line begun (word ∷ later)) (sym (err_is word.line at (rw (some.1, z, f) at e)))
          (wrong_now last vars (suc count) line begun word later (λ more clauses same. let wrong = rw (some.1, z, f) at same in cc))
    ]
  ]
]
