-- A text has one line of its fault at most.
use Rattle.std.proofs.Common.{◌≡◌, ◌+◌, ◌∙◌, ℕ, List, [], ◌∷◌, ◌++◌, length, All, inl, inr, refl, sym, ap, subst, append_assoc}
use Rattle.std.proofs.lemmas.List.Elements.{All-head, All-tail}
use Rattle.sat_text.specs.CnfGrammar.{CanGoOn, IsFaultLine, IsFirstWrongWord, SpellsFormula}
use Rattle.sat_text.specs.LogGrammar.{IsFirstWrongLine, IsLogLine}
use Rattle.sat_text.specs.Words.{PlacedWord, placed_words}

-- ---- two cuts of one list

-- two elements of one list, behind these fronts: they are one, or the front of the one has the other
data Cuts {A : Type 0} (f g : List A) (x y : A) : Type 0 where
  here : f ≡ g → x ≡ y → Cuts f g x y
  before : (m : List A) → g ≡ f ++ x ∷ m → Cuts f g x y
  behind : (m : List A) → f ≡ g ++ y ∷ m → Cuts f g x y

later : {A : Type 0} (a b : A) (f g : List A) (x y : A) → a ≡ b → Cuts f g x y → Cuts (a ∷ f) (b ∷ g) x y
later a b f g x y e (here same one) = here (ap (λ z. z ∷ f) e ∙ ap (λ z. b ∷ z) same) one
later a b f g x y e (before m is) = before m (ap (λ z. z ∷ g) (sym e) ∙ ap (λ z. a ∷ z) is)
later a b f g x y e (behind m is) = behind m (ap (λ z. z ∷ f) e ∙ ap (λ z. b ∷ z) is)

cuts : {A : Type 0} (f g k l : List A) (x y : A) → f ++ x ∷ k ≡ g ++ y ∷ l → Cuts f g x y
cuts [] [] k l x y e = here refl cc
cuts [] (b ∷ g) k l x y e = let same : x ≡ b = cc in before g (ap (λ z. z ∷ g) (sym same))
cuts (a ∷ f) [] k l x y e = let same : a ≡ y = cc in behind f (ap (λ z. z ∷ f) same)
cuts (a ∷ f) (b ∷ g) k l x y e =
    let same : a ≡ b = cc in
    let rest : f ++ x ∷ k ≡ g ++ y ∷ l = cc in
    later a b f g x y same (cuts f g k l x y rest)

-- ---- the fault of a formula's text

-- what others can stand behind, they can stand behind a front of
goes_on_shorter : (front : List PlacedWord) (word : PlacedWord) (more : List PlacedWord) → CanGoOn (front ++ word ∷ more) → CanGoOn (front ++ word ∷ [])
goes_on_shorter front word more h =
    let P : List PlacedWord → Type 0 = SpellsFormula h.1 h.2 in
    let e : (front ++ word ∷ more) ++ h.0 ≡ (front ++ word ∷ []) ++ (more ++ h.0) = append_assoc front (word ∷ more) h.0 ∙ sym (append_assoc front (word ∷ []) (more ++ h.0)) in
    (more ++ h.0, h.1, h.2, subst P e h.3)

first_word_by : (found : List PlacedWord) (v w : PlacedWord) (a : IsFirstWrongWord found v) (b : IsFirstWrongWord found w) → Cuts a.front b.front v w → v ≡ w
first_word_by found v w a b (here same one) = one
first_word_by found v w a b (before m is) = absurd (a.not_good (goes_on_shorter a.front v m (subst CanGoOn is b.good_before)))
first_word_by found v w a b (behind m is) = absurd (b.not_good (goes_on_shorter b.front w m (subst CanGoOn is a.good_before)))

first_word_once : (found : List PlacedWord) (v w : PlacedWord) → IsFirstWrongWord found v → IsFirstWrongWord found w → v ≡ w
first_word_once found v w a b = first_word_by found v w a b (cuts a.front b.front a.later b.later v w (sym a.all_words ∙ b.all_words))

none_wrong : (found : List PlacedWord) (w : PlacedWord) → IsFirstWrongWord found w → CanGoOn found → ⊥
none_wrong found w a h = a.not_good (goes_on_shorter a.front w a.later (subst CanGoOn a.all_words h))

pub one_fault_line : (text : List ℕ) (m n : ℕ) → IsFaultLine text m → IsFaultLine text n → m ≡ n
one_fault_line text m n g h =
    elim g [
      | inl one ↦ elim h [
        | inl other ↦ one.2 ∙ ap (λ w. w.line) (first_word_once (placed_words text) one.0 other.0 one.1 other.1) ∙ sym other.2
        | inr other ↦ absurd (none_wrong (placed_words text) one.0 one.1 other.0)
      ]
      | inr one ↦ elim h [
        | inl other ↦ absurd (none_wrong (placed_words text) other.0 other.1 one.0)
        | inr other ↦ one.2 ∙ sym other.2
      ]
    ]

-- ---- the fault of a proof's text

all_at : {A : Type 0} (P : A → Type 0) (f : List A) (x : A) (m : List A) → All P (f ++ x ∷ m) → P x
all_at P [] x m h = All-head P x m h
all_at P (y ∷ f) x m h = all_at P f x m (All-tail P y (f ++ x ∷ m) h)

first_line_by : (text : List ℕ) (m n : ℕ) (a : IsFirstWrongLine text m) (b : IsFirstWrongLine text n) → Cuts a.front b.front a.wrong b.wrong → m ≡ n
first_line_by text m n a b (here same one) = a.place ∙ ap (λ f. length f + 1) same ∙ sym b.place
first_line_by text m n a b (before k is) = absurd (a.not_good (all_at IsLogLine a.front a.wrong k (subst (All IsLogLine) is b.good_before)))
first_line_by text m n a b (behind k is) = absurd (b.not_good (all_at IsLogLine b.front b.wrong k (subst (All IsLogLine) is a.good_before)))

pub one_wrong_line : (text : List ℕ) (m n : ℕ) → IsFirstWrongLine text m → IsFirstWrongLine text n → m ≡ n
one_wrong_line text m n a b = first_line_by text m n a b (cuts a.front b.front a.later b.later a.wrong b.wrong (sym a.all_lines ∙ b.all_lines))
