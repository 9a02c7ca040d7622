-- Words that are signs, and what they aren't.
use Rattle.std.proofs.Common.{◌≡◌, ℕ, ℤ, Bool, true, false, eqb, cond, ◌&&◌, List, [], ◌∷◌, Some, None, refl, sym, ap, subst, ◌∙◌, inl, inr}
use Rattle.std.specs.Prelude.{codes}
use Rattle.std.proofs.lemmas.Bool.{eqb-true}
use Rattle.sat_text.proofs.Cuts.{bool_cases}
use Rattle.sat_text.proofs.Again.{and_parts}
use Rattle.opb_text.specs.Words.{is_end, is_goal, relation_of}
use Rattle.opb_text.specs.Numbers.{signed_number_of}
use Rattle.opb_text.specs.Grammar.{relation_word, end_word}

pub end_is : (word : List ℕ) → is_end word ≡ true → word ≡ end_word
end_is [] e = absurd cc
end_is (b ∷ []) e = ap (λ (x : ℕ). x ∷ []) (eqb-true b 59 e)
end_is (b ∷ c ∷ word) e = absurd cc

pub goal_is : (word : List ℕ) → is_goal word ≡ true → word ≡ codes "min:"
goal_is [] e = absurd cc
goal_is (a ∷ []) e = absurd cc
goal_is (a ∷ b ∷ []) e = absurd cc
goal_is (a ∷ b ∷ c ∷ []) e = absurd cc
goal_is (a ∷ b ∷ c ∷ d ∷ []) e =
    let first = and_parts (eqb a 109) (eqb b 105 && (eqb c 110 && eqb d 58)) e in
    let second = and_parts (eqb b 105) (eqb c 110 && eqb d 58) first.1 in
    let third = and_parts (eqb c 110) (eqb d 58) second.1 in
    ap (λ (x : ℕ). x ∷ b ∷ c ∷ d ∷ []) (eqb-true a 109 first.0)
    ∙ ap (λ (x : ℕ). 109 ∷ x ∷ c ∷ d ∷ []) (eqb-true b 105 second.0)
    ∙ ap (λ (x : ℕ). 109 ∷ 105 ∷ x ∷ d ∷ []) (eqb-true c 110 third.0)
    ∙ ap (λ (x : ℕ). 109 ∷ 105 ∷ 110 ∷ x ∷ []) (eqb-true d 58 third.1)
goal_is (a ∷ b ∷ c ∷ d ∷ e ∷ word) f = absurd cc

no_some : {X : Type 0} {A : Type 0} {x : A} → None ≡ Some x → X
no_some e = absurd cc

one_is : (b : ℕ) (equal : Bool) → (cond (eqb b 61) (Some true) None) ≡ Some equal → (b ∷ []) ≡ relation_word equal
one_is b equal e = elim (bool_cases (eqb b 61)) [
  | inl is ↦
      let same : Some true ≡ Some equal = sym (rw is refl) ∙ e in
      let chosen : true ≡ equal = cc in
      ap (λ (x : ℕ). x ∷ []) (eqb-true b 61 is) ∙ ap relation_word chosen
  | inr isnt ↦ no_some (let h : None ≡ Some equal = sym (rw isnt refl) ∙ e in h)
]

two_is : (b c : ℕ) (equal : Bool) → (cond (eqb b 62 && eqb c 61) (Some false) None) ≡ Some equal → (b ∷ c ∷ []) ≡ relation_word equal
two_is b c equal e = elim (bool_cases (eqb b 62 && eqb c 61)) [
  | inl is ↦
      let same : Some false ≡ Some equal = sym (rw is refl) ∙ e in
      let chosen : false ≡ equal = cc in
      let both = and_parts (eqb b 62) (eqb c 61) is in
      ap (λ (x : ℕ). x ∷ c ∷ []) (eqb-true b 62 both.0) ∙ ap (λ (x : ℕ). 62 ∷ x ∷ []) (eqb-true c 61 both.1) ∙ ap relation_word chosen
  | inr isnt ↦ no_some (let h : None ≡ Some equal = sym (rw isnt refl) ∙ e in h)
]

pub relation_is : (word : List ℕ) (equal : Bool) → relation_of word ≡ Some equal → word ≡ relation_word equal
relation_is [] equal e = no_some e
relation_is (b ∷ []) equal e = one_is b equal e
relation_is (b ∷ c ∷ []) equal e = two_is b c equal e
relation_is (b ∷ c ∷ d ∷ word) equal e = no_some e

-- a number is no sign, and no sign is a number
pub relation_no_number : (equal : Bool) → signed_number_of (relation_word equal) ≡ None
relation_no_number true = refl
relation_no_number false = refl

pub relation_again : (equal : Bool) → relation_of (relation_word equal) ≡ Some equal
relation_again true = refl
relation_again false = refl

pub relation_no_goal : (equal : Bool) → is_goal (relation_word equal) ≡ false
relation_no_goal true = refl
relation_no_goal false = refl

pub number_no_goal : (word : List ℕ) (n : ℤ) → signed_number_of word ≡ Some n → is_goal word ≡ false
number_no_goal word n e = elim (bool_cases (is_goal word)) [
  | inl is ↦
      let h : signed_number_of (codes "min:") ≡ Some n = subst (λ (w : List ℕ). signed_number_of w ≡ Some n) (goal_is word is) e in
      no_some h
  | inr isnt ↦ isnt
]
