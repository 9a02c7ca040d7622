-- Where the clauses of a cube's hints stand in the joined log.
use Rattle.std.proofs.Common.{◌≡◌, ℕ, ◌+◌, ◌<◌, ◌≤◌, ◌⊎◌, inl, inr, Some, None, List, [], ◌∷◌, ◌++◌, length, get_or, refl, ap, ◌∙◌, sym, subst, arith}
use Rattle.std.specs.Prelude.{All, Contains, map}
use Rattle.std.proofs.lemmas.List.{length-map}
use Rattle.std.proofs.lemmas.List.Elements.{All-head, All-tail, All-cons, All-nil, All-contains, All-get_or, Contains-append_cases}
use Rattle.cnf_core.specs.Literal.{Literal, negation, IsClause}
use Rattle.cnf_core.specs.Events.{LogEvent, clause_of, clauses_of, HintsAreThere}
use Rattle.cnf_core.specs.Steps.{clauses_at}
use Rattle.cnf_core.proofs.Members.{Contains-here}
use Rattle.sat_join.specs.Joins.{clause_at, IsPlace, ArePlaces, IsWidened}
use Rattle.sat_join.proofs.Wider.{Mirrors, Contains-from_map}

-- the places of some hints and of one more, which has none
pub places_none : (clauses : List (List Literal)) (literals : List Literal) (first : ℕ) (hints places : List ℕ) (hint : ℕ) → ArePlaces clauses literals first hints places → IsPlace clauses literals first hint None → ArePlaces clauses literals first (hints ++ hint ∷ []) places
places_none clauses literals first [] places hint are none = inl (none, are)
places_none clauses literals first (h ∷ hints) places hint (inl left) none = inl (left.0, places_none clauses literals first hints places hint left.1 none)
places_none clauses literals first (h ∷ hints) places hint (inr here) none = inr (here.0, here.1, here.2, here.3, places_none clauses literals first hints here.1 hint here.4 none)

-- or one
pub places_some : (clauses : List (List Literal)) (literals : List Literal) (first : ℕ) (hints places : List ℕ) (hint place : ℕ) → ArePlaces clauses literals first hints places → IsPlace clauses literals first hint (Some place) → ArePlaces clauses literals first (hints ++ hint ∷ []) (places ++ place ∷ [])
places_some clauses literals first [] places hint place are some =
    inr (place, [], ap (λ (ps : List ℕ). ps ++ place ∷ []) are, some, refl)
places_some clauses literals first (h ∷ hints) places hint place (inl left) some = inl (left.0, places_some clauses literals first hints places hint place left.1 some)
places_some clauses literals first (h ∷ hints) places hint place (inr here) some =
    inr (here.0, here.1 ++ place ∷ [], ap (λ (ps : List ℕ). ps ++ place ∷ []) here.2, here.3, places_some clauses literals first hints here.1 hint place here.4 some)

-- How a joined log goes on with the events of a cube's log, of which these were looked at: the formula's clauses stand at their places in
-- both, then come the cube's literals, and then its steps, which stand in the joined log from a place on, with negations of these literals.
pub record Follows (clauses : List (List Literal)) (literals : List Literal) (first : ℕ) (before joined : List LogEvent) : Type 0 where
  pub counted : length joined + (length clauses + length literals) ≡ first + length before
  pub whole : length clauses + length literals ≤ length before
  pub enough : length clauses ≤ length joined
  pub givens_before : (h : ℕ) → h < length clauses → clause_at before h ≡ get_or clauses h []
  pub givens_joined : (h : ℕ) → h < length clauses → clause_at joined h ≡ get_or clauses h []
  pub own : (h : ℕ) → length clauses ≤ h → h < length clauses + length literals → (q : Literal) × Contains literals q × (clause_at before h ≡ q ∷ [])
  pub steps : (h place : ℕ) → length clauses + length literals ≤ h → h < length before → place + (length clauses + length literals) ≡ first + h → IsWidened literals (clause_at before h) (clause_at joined place)

module _ (clauses : List (List Literal)) (literals : List Literal) (first : ℕ) (before joined : List LogEvent)
    (follows : Follows clauses literals first before joined) (are : All IsClause (clauses_of joined)) where
  place_there : (hint place : ℕ) → IsPlace clauses literals first hint (Some place) → hint < length before → place < length joined
  place_there hint place (inl same) below = omega (arith, same.0, same.1, follows.enough)
  place_there hint place (inr moved) below = omega (arith, moved.0, moved.1, below, follows.counted)

  -- a clause that is left out has a literal of the cube
  left_literal : (hint : ℕ) → IsPlace clauses literals first hint None → (q : Literal) × Contains literals q × Contains (clause_at before hint) q
  left_literal hint (inl true_there) =
      (true_there.1.0, true_there.1.1, subst (λ (c : List Literal). Contains c true_there.1.0) (sym (follows.givens_before hint true_there.0)) true_there.1.2)
  left_literal hint (inr own) =
      let unit = follows.own hint own.0 own.1 in
      (unit.0, unit.1, subst (λ (c : List Literal). Contains c unit.0) (sym unit.2) (Contains-here unit.0 []))

  -- another has at most negations of the cube's literals more
  wide_there : (hint place : ℕ) → IsPlace clauses literals first hint (Some place) → hint < length before → (l : Literal) → Contains (clause_at joined place) l → Contains (clause_at before hint) l ⊎ Contains literals (negation l)
  wide_there hint place (inl same) below l found =
      inl (subst (λ (c : List Literal). Contains c l)
      (ap (clause_at joined) same.1 ∙ follows.givens_joined hint same.0 ∙ sym (follows.givens_before hint same.0)) found)
  wide_there hint place (inr moved) below l found =
      let wide = follows.steps hint place moved.0 below moved.1 in
      elim (Contains-append_cases (map negation literals) (clause_at before hint) l
      (All-contains (Contains (map negation literals ++ clause_at before hint)) (clause_at joined place) l wide.from_first found)) [
        | inl in_cube ↦ inr (Contains-from_map literals l in_cube)
        | inr in_clause ↦ inl in_clause
      ]

  pub places_mirror : (hints places : List ℕ) → ArePlaces clauses literals first hints places → HintsAreThere before hints → HintsAreThere joined places × Mirrors literals (clauses_at before hints) (clauses_at joined places)
  places_mirror [] places none there =
      subst (λ (ps : List ℕ). HintsAreThere joined ps × Mirrors literals [] (clauses_at joined ps)) (sym none) (All-nil (λ (h : ℕ). h < length joined), refl)
  places_mirror (hint ∷ hints) places (inl left) there =
      let later = places_mirror hints places left.1 (All-tail (λ (h : ℕ). h < length before) hint hints there) in
      (later.0, inl (left_literal hint left.0, later.1))
  places_mirror (hint ∷ hints) places (inr here) there =
      let below : hint < length before = All-head (λ (h : ℕ). h < length before) hint hints there in
      let later = places_mirror hints here.1 here.4 (All-tail (λ (h : ℕ). h < length before) hint hints there) in
      let stands : here.0 < length joined = place_there hint here.0 here.3 below in
      let is_clause : IsClause (clause_at joined here.0) = All-get_or IsClause (clauses_of joined) here.0 [] (omega (arith, stands, length-map joined clause_of)) are in
      subst (λ (ps : List ℕ). HintsAreThere joined ps × Mirrors literals (clauses_at before (hint ∷ hints)) (clauses_at joined ps)) (sym here.2) (
        All-cons (λ (h : ℕ). h < length joined) here.0 here.1 stands later.0,
        inr (clause_at joined here.0, clauses_at joined here.1, refl, is_clause.ordered, wide_there hint here.0 here.3 below, later.1),
      )
