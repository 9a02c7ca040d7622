-- A text has one line of its fault.
use Rattle.std.proofs.Common.{◌≡◌, ◌⊎◌, inl, inr, ℕ, List, [], ◌∷◌, ◌++◌, drop, get_or, append_assoc, sym, ap, subst, ◌∙◌}
use Rattle.std.proofs.lemmas.List.{map-append}
use Rattle.opb_text.specs.Grammar.{CanGoOnAsOpb, IsFirstWrongOpbWord, IsOpbFaultLine, bare_words}
use Rattle.opb_text.specs.Words.{placed_opb_words}
use Rattle.sat_text.specs.Words.{PlacedWord}

-- where a text can go on with words it can with the first of them
shorter : (front more : List (List ℕ)) → CanGoOnAsOpb (front ++ more) → CanGoOnAsOpb front
shorter front more c = (c.0, more ++ c.1, c.2, c.3 ∙ append_assoc front more c.1, c.4)

-- the words up to one, and those behind it
cut_words : (front : List PlacedWord) (word : PlacedWord) (later : List PlacedWord) → bare_words (front ++ word ∷ later) ≡ (bare_words front ++ word.bytes ∷ []) ++ bare_words later
cut_words front word later =
    map-append (λ (w : PlacedWord). w.bytes) front (word ∷ later) ∙ sym (append_assoc (bare_words front) (word.bytes ∷ []) (bare_words later))

-- of two places in the same words one is further on, or they are one
one_place : (f g : List PlacedWord) (w v : PlacedWord) (r s : List PlacedWord) → f ++ w ∷ r ≡ g ++ v ∷ s
    → (w ≡ v) ⊎ (((more : List PlacedWord) × (g ≡ f ++ w ∷ more)) ⊎ ((more : List PlacedWord) × (f ≡ g ++ v ∷ more)))
one_place [] [] w v r s e = inl (ap (λ (zs : List PlacedWord). get_or zs 0 w) e)
one_place [] (y ∷ g) w v r s e = inr (inl (g, ap (λ (z : PlacedWord). z ∷ g) (sym (ap (λ (zs : List PlacedWord). get_or zs 0 w) e))))
one_place (x ∷ f) [] w v r s e = inr (inr (f, ap (λ (z : PlacedWord). z ∷ f) (ap (λ (zs : List PlacedWord). get_or zs 0 x) e)))
one_place (x ∷ f) (y ∷ g) w v r s e =
    let head : x ≡ y = ap (λ (zs : List PlacedWord). get_or zs 0 x) e in
    elim (one_place f g w v r s (ap (λ (zs : List PlacedWord). drop 1 zs) e)) as (λ _. (w ≡ v) ⊎ (((more : List PlacedWord) × (y ∷ g ≡ (x ∷ f) ++ w ∷ more)) ⊎ ((more : List PlacedWord) × (x ∷ f ≡ (y ∷ g) ++ v ∷ more)))) [
      | inl same ↦ inl same
      | inr (inl (more, is)) ↦ inr (inl (more, ap (λ (z : PlacedWord). z ∷ g) (sym head) ∙ ap (λ (zs : List PlacedWord). x ∷ zs) is))
      | inr (inr (more, is)) ↦ inr (inr (more, ap (λ (z : PlacedWord). z ∷ f) head ∙ ap (λ (zs : List PlacedWord). y ∷ zs) is))
    ]

-- no text goes on behind a first wrong word
none_behind : (found : List PlacedWord) (word : PlacedWord) (h : IsFirstWrongOpbWord found word) (more : List PlacedWord) → CanGoOnAsOpb (bare_words (h.front ++ word ∷ more)) → ⊥
none_behind found word h more good = h.not_good (shorter (bare_words h.front ++ word.bytes ∷ []) (bare_words more) (subst CanGoOnAsOpb (cut_words h.front word more) good))

one_first : (found : List PlacedWord) (word other : PlacedWord) → IsFirstWrongOpbWord found word → IsFirstWrongOpbWord found other → word ≡ other
one_first found word other h g =
    elim (one_place h.front g.front word other h.later g.later (sym h.all_words ∙ g.all_words)) as (λ _. word ≡ other) [
      | inl same ↦ same
      | inr (inl (more, is)) ↦ absurd (none_behind found word h more (subst (λ (ws : List PlacedWord). CanGoOnAsOpb (bare_words ws)) is g.good_before))
      | inr (inr (more, is)) ↦ absurd (none_behind found other g more (subst (λ (ws : List PlacedWord). CanGoOnAsOpb (bare_words ws)) is h.good_before))
    ]

not_all : (found : List PlacedWord) (word : PlacedWord) → IsFirstWrongOpbWord found word → CanGoOnAsOpb (bare_words found) → ⊥
not_all found word h good = none_behind found word h h.later (subst (λ (ws : List PlacedWord). CanGoOnAsOpb (bare_words ws)) h.all_words good)

pub one_fault_line : (text : List ℕ) (line other : ℕ) → IsOpbFaultLine text line → IsOpbFaultLine text other → line ≡ other
one_fault_line text line other (inl (word, h, is)) (inl (second, g, it)) = is ∙ ap (λ (w : PlacedWord). w.line) (one_first (placed_opb_words text) word second h g) ∙ sym it
one_fault_line text line other (inl (word, h, is)) (inr (good, none, it)) = absurd (not_all (placed_opb_words text) word h good)
one_fault_line text line other (inr (good, none, is)) (inl (word, h, it)) = absurd (not_all (placed_opb_words text) word h good)
one_fault_line text line other (inr (good, none, is)) (inr (also, no_more, it)) = is ∙ sym it
