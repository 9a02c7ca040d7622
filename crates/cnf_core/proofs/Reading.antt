-- A reading doesn't succeed over clauses that are settled where its literals are true.
use Rattle.std.proofs.Common.{◌≡◌, ◌≢◌, Bool, true, false, not, ◌⊎◌, inl, inr, List, [], ◌∷◌, refl, ap, ◌∙◌, sym, subst, cond}
use Rattle.std.specs.Prelude.{All, Contains, map}
use Rattle.std.specs.List.{list_all}
use Rattle.std.proofs.lemmas.Bool.{false≢true}
use Rattle.std.proofs.lemmas.List.Elements.{All-head, All-tail}
use Rattle.cnf_core.specs.Literal.{Literal, negation, is_among}
use Rattle.cnf_core.specs.Reading.{is_false, not_false, trues_after, trues_from, reading_succeeds, has_contradiction, is_shown_by}
use Rattle.cnf_core.proofs.Members.{Contains-cases, none_in_nil, or_cases, either, Contains-from_test, Contains-filter, passes_each, passes_some}

-- a clause has a literal for which T holds, or two for whose negations it doesn't
pub record TwoOpen (T : Literal → Type 0) (clause : List Literal) : Type 0 where
  pub one : Literal
  pub other : Literal
  pub two : one ≢ other
  pub one_in : Contains clause one
  pub other_in : Contains clause other
  pub one_open : T (negation one) → ⊥
  pub other_open : T (negation other) → ⊥

abbrev pub Settled : (Literal → Type 0) → List Literal → Type 0
Settled T clause = ((l : Literal) × Contains clause l × T l) ⊎ TwoOpen T clause

module _ (T : Literal → Type 0) (consistent : (l : Literal) → T l → T (negation l) → ⊥) where
  -- no settled clause has only literals whose negations are true
  not_all_false : (trues clause : List Literal) → Settled T clause → ((l : Literal) → Contains trues l → T l) → list_all (is_false trues) clause ≡ true → ⊥
  not_all_false trues clause settled known all =
      let false_there : (l : Literal) → Contains clause l → T (negation l) =
      λ l found. known (negation l) (Contains-from_test trues (negation l) (passes_each (is_false trues) clause l all found)) in
      elim settled [
        | inl found ↦ consistent found.0 found.2 (false_there found.0 found.1)
        | inr pair ↦ pair.one_open (false_there pair.one pair.one_in)
      ]

  -- a literal whose negation isn't true is among those that aren't false
  kept : (trues clause : List Literal) → ((l : Literal) → Contains trues l → T l) → (x : Literal) → Contains clause x → (T (negation x) → ⊥) → Contains (not_false trues clause) x
  kept trues clause known x found unsettled =
      Contains-filter (λ l. not (is_false trues l)) clause x found (elim (either (is_false trues x)) [
        | inl is ↦ absurd (unsettled (known (negation x) (Contains-from_test trues (negation x) is)))
        | inr isnt ↦ ap not isnt
      ])

  only : (l x : Literal) → Contains (l ∷ []) x → l ≡ x
  only l x found = elim (Contains-cases l [] x found) [ inl is ↦ is | inr none ↦ absurd (none_in_nil x none) ]

  -- the one literal of a settled clause that isn't false is true
  single : (trues clause : List Literal) → Settled T clause → ((l : Literal) → Contains trues l → T l) → (l : Literal) → not_false trues clause ≡ l ∷ [] → T l
  single trues clause settled known l is =
      let among : (x : Literal) → Contains clause x → (T (negation x) → ⊥) → l ≡ x =
      λ x found unsettled. only l x (subst (λ (ls : List Literal). Contains ls x) is (kept trues clause known x found unsettled)) in
      elim settled [
        | inl found ↦ subst T (sym (among found.0 found.1 (λ t. consistent found.0 found.2 t))) found.2
        | inr pair ↦ absurd (pair.two (sym (among pair.one pair.one_in pair.one_open) ∙ among pair.other pair.other_in pair.other_open))
      ]

  -- what becomes true is true
  after : (trues rest : List Literal) → ((l : Literal) → Contains trues l → T l) → ((l : Literal) → rest ≡ l ∷ [] → T l) → (x : Literal) → Contains (trues_after trues rest) x → T x
  after trues [] known one x found = known x found
  after trues (l ∷ []) known one x found = chosen (is_among trues l) found
    where
      chosen : (b : Bool) → Contains (cond b trues (l ∷ trues)) x → T x
      chosen true there = known x there
      chosen false there = elim (Contains-cases l trues x there) [ inl here ↦ subst T here (one l refl) | inr later ↦ known x later ]
  after trues (l ∷ m ∷ others) known one x found = known x found

  -- so the reading fails
  pub reading_fails : (clauses : List (List Literal)) (trues : List Literal) → All (Settled T) clauses → ((l : Literal) → Contains trues l → T l) → reading_succeeds trues clauses ≡ true → ⊥
  reading_fails [] trues settled known succeeds = false≢true succeeds
  reading_fails (clause ∷ clauses) trues settled known succeeds =
      let here = All-head (Settled T) clause clauses settled in
      elim (or_cases (list_all (is_false trues) clause) (reading_succeeds (trues_after trues (not_false trues clause)) clauses) succeeds) [
        | inl all ↦ not_all_false trues clause here known all
        | inr later ↦ reading_fails clauses (trues_after trues (not_false trues clause)) (All-tail (Settled T) clause clauses settled)
            (after trues (not_false trues clause) known (single trues clause here known)) later
      ]

  -- nor does one show a clause whose negated literals are true
  pub not_shown : (clause : List Literal) (hints : List (List Literal)) → All (Settled T) hints → ((l : Literal) → Contains (map negation clause) l → T l) → is_shown_by clause hints ≡ true → ⊥
  not_shown clause hints settled known shown =
      elim (or_cases (has_contradiction (map negation clause)) (reading_succeeds (map negation clause) hints) shown) [
        | inl both ↦ let found = passes_some (is_false (map negation clause)) (map negation clause) both in
            consistent found.0 (known found.0 found.1) (known (negation found.0) (Contains-from_test (map negation clause) (negation found.0) found.2))
        | inr reads ↦ reading_fails hints (map negation clause) settled known reads
      ]

  -- what such a reading makes true is true
  pub reading_gives : (clauses : List (List Literal)) (trues : List Literal) → All (Settled T) clauses → ((l : Literal) → Contains trues l → T l) → (l : Literal) → Contains (trues_from trues clauses) l → T l
  reading_gives [] trues settled known l found = known l found
  reading_gives (clause ∷ clauses) trues settled known l found =
      reading_gives clauses (trues_after trues (not_false trues clause)) (All-tail (Settled T) clause clauses settled)
      (after trues (not_false trues clause) known (single trues clause (All-head (Settled T) clause clauses settled) known)) l found
