-- The reader of items reads what numbers and a 0 spell.
use Rattle.std.proofs.Common.{◌≡◌, ℕ, zero, suc, ℤ, pos, negsuc, ◌≤◌, false, List, [], ◌∷◌, ◌++◌, map, Option, Some, None, refl, sym, ap, subst, ◌∙◌, arith, inl, inr}
use Rattle.std.specs.List.{AllByRecursion}
use Rattle.cnf_core.specs.Literal.{Literal}
use Rattle.sat_text.specs.Numbers.{whole_of}
use Rattle.sat_text.specs.Clauses.{is_zero, literal_of, number_of}
use Rattle.sat_text.specs.Answers.{◌>>=◌}
use Rattle.sat_text.specs.Proofs.{items_at, positive_of, any_literal, any_hint}
use Rattle.sat_text.specs.CnfGrammar.{SpellsNumbers}
use Rattle.sat_text.proofs.Cuts.{bool_cases}
use Rattle.sat_text.proofs.ItemSteps.{zero_is, zero_not}
use Rattle.sat_text.proofs.Spelling.{cons_same, cons_head, cons_tail, literal_of_number, number_not_zero, number_of_literal, literal_some, zero_number}

-- a step that gave something
pub bind_some : {A B : Type 0} (r : Option A) (f : A → Option B) (y : B) → (r >>= f) ≡ Some y → (x : A) × (r ≡ Some x) × (f x ≡ Some y)
bind_some (Some x) f y e = (x, refl, e)
bind_some None f y e = absurd cc

abbrev some : {A : Type 0} → A → Option A
some x = Some x

pub some_is : {A : Type 0} (x y : A) → some x ≡ some y → x ≡ y
some_is x y e = cc

-- ---- numbers one after another

pub numbers_append : (xs ys : List ℤ) (front back : List (List ℕ)) → SpellsNumbers xs front → SpellsNumbers ys back → SpellsNumbers (xs ++ ys) (front ++ back)
numbers_append [] ys [] back s t = t
numbers_append [] ys (word ∷ front) back s t = absurd cc
numbers_append (x ∷ xs) ys [] back s t = absurd cc
numbers_append (x ∷ xs) ys (word ∷ front) back s t =
    cons_same (whole_of word) (Some x) (map whole_of (front ++ back)) (map (λ n. Some n) (xs ++ ys)) (cons_head _ _ _ _ s) (numbers_append xs ys front back (cons_tail _ _ _ _ s) t)

pub numbers_split : (xs ys : List ℤ) (found : List (List ℕ)) → SpellsNumbers (xs ++ ys) found → (front back : List (List ℕ)) × (found ≡ front ++ back) × SpellsNumbers xs front × SpellsNumbers ys back
numbers_split [] ys found s = ([], found, refl, refl, s)
numbers_split (x ∷ xs) ys [] s = absurd cc
numbers_split (x ∷ xs) ys (word ∷ found) s =
    let r = numbers_split xs ys found (cons_tail _ _ _ _ s) in
    (word ∷ r.0, r.1, ap (λ (ws : List (List ℕ)). word ∷ ws) r.2, cons_same (whole_of word) (Some x) (map whole_of r.0) (map (λ n. Some n) xs) (cons_head _ _ _ _ s) r.3, r.4)

-- ---- items and their numbers

-- each item has a number that isn't 0, which gives it, and a number that isn't 0 is that of its item
pub record HaveNumbers {X : Type 0} (item : ℤ → Option X) (number : X → ℤ) (Fits : X → Type 0) : Type 0 where
  pub given : (n : ℤ) (x : X) → is_zero n ≡ false → item n ≡ Some x → (number x ≡ n) × Fits x
  pub taken : (x : X) → Fits x → (is_zero (number x) ≡ false) × (item (number x) ≡ Some x)

pub literals_have : HaveNumbers any_literal number_of (λ l. 1 ≤ l.var)
literals_have = record {
  given = λ n x z e.
      let same : literal_of n ≡ x = cc in
      subst (λ (l : Literal). (number_of l ≡ n) × (1 ≤ l.var)) same (number_of_literal n z, literal_some n z);
  taken = λ l some. (number_not_zero l some, ap (λ (m : Literal). Some m) (literal_of_number l some));
}

pub hints_have : HaveNumbers any_hint (λ n. n) (λ n. n ≡ pos 0 → ⊥)
hints_have = record {
  given = λ n x z e.
      let same : n ≡ x = cc in
      (sym same, λ is. let wrong = sym (zero_is n (same ∙ is)) ∙ z in cc);
  taken = λ n some. (zero_not n some, refl);
}

positive_is : (n : ℤ) (k : ℕ) → positive_of n ≡ Some k → (pos k ≡ n) × (1 ≤ k)
positive_is (pos zero) k e = absurd cc
positive_is (pos (suc m)) k e =
    let same : suc m ≡ k = cc in
    subst (λ (j : ℕ). (pos j ≡ pos (suc m)) × (1 ≤ j)) same (refl, omega arith)
positive_is (negsuc m) k e = absurd cc

positive_again : (k : ℕ) → 1 ≤ k → (is_zero (pos k) ≡ false) × (positive_of (pos k) ≡ Some k)
positive_again zero some = absurd (omega arith)
positive_again (suc k) some = (zero_not (pos (suc k)) (λ e. cc), refl)

pub positive_sound : (n : ℤ) (k : ℕ) → positive_of n ≡ Some k → (n ≡ pos k) × (1 ≤ k)
positive_sound n k e = let p = positive_is n k e in (sym p.0, p.1)

pub positive_complete : (k : ℕ) → 1 ≤ k → positive_of (pos k) ≡ Some k
positive_complete k some = (positive_again k some).1

pub ids_have : HaveNumbers positive_of (λ n. pos n) (λ n. 1 ≤ n)
ids_have = record {
  given = λ n k z e. positive_is n k e;
  taken = λ k some. positive_again k some;
}

-- ---- items and a 0 behind them

-- the numbers of items and a 0 stand before the rest
abbrev pub Takes : {X : Type 0} → (X → ℤ) → (X → Type 0) → List (List ℕ) → List X → List (List ℕ) → Type 0
Takes number Fits found xs rest =
    (front : List (List ℕ)) × (found ≡ front ++ rest) × SpellsNumbers (map number xs ++ pos 0 ∷ []) front × AllByRecursion Fits xs

pub items_sound : {X : Type 0} (item : ℤ → Option X) (number : X → ℤ) (Fits : X → Type 0) → HaveNumbers item number Fits → (found : List (List ℕ)) (xs : List X) (rest : List (List ℕ)) → items_at item found ≡ Some (xs, rest)
    → Takes number Fits found xs rest
unfolding items_at
items_sound item number Fits have [] xs rest e = absurd cc
items_sound {X} item number Fits have (word ∷ later) xs rest e =
    let a = bind_some (whole_of word) _ (xs, rest) e in
    elim (bool_cases (is_zero a.0)) [
      | inl z ↦
          let pair : ([], later) ≡ (xs, rest) = some_is ([], later) (xs, rest) (rw z at a.2) in
          subst (λ (p : List X × List (List ℕ)). Takes number Fits (word ∷ later) p.0 p.1) pair
          (word ∷ [], refl, cons_same (whole_of word) (Some (pos 0)) [] [] (a.1 ∙ ap (λ (m : ℤ). Some m) (zero_number a.0 z)) refl, tt)
      | inr z ↦
          let b = bind_some (item a.0) _ (xs, rest) (rw z at a.2) in
          let d = bind_some (items_at item later) _ (xs, rest) b.2 in
          let pair : (b.0 ∷ d.0.0, d.0.1) ≡ (xs, rest) = some_is (b.0 ∷ d.0.0, d.0.1) (xs, rest) d.2 in
          let others = items_sound item number Fits have later d.0.0 d.0.1 d.1 in
          let fits = have.given a.0 b.0 z b.1 in
          subst (λ (p : List X × List (List ℕ)). Takes number Fits (word ∷ later) p.0 p.1) pair (
            word ∷ others.0,
            ap (λ (ws : List (List ℕ)). word ∷ ws) others.1,
            cons_same (whole_of word) (Some (number b.0)) (map whole_of others.0) (map (λ n. Some n) (map number d.0.0 ++ pos 0 ∷ [])) (a.1 ∙ ap (λ (m : ℤ). Some m) (sym fits.0)) others.2,
            (fits.1, others.3),
          )
    ]

pub items_complete : {X : Type 0} (item : ℤ → Option X) (number : X → ℤ) (Fits : X → Type 0) → HaveNumbers item number Fits → (front rest : List (List ℕ)) (xs : List X) → SpellsNumbers (map number xs ++ pos 0 ∷ []) front
    → AllByRecursion Fits xs → items_at item (front ++ rest) ≡ Some (xs, rest)
unfolding items_at
items_complete item number Fits have [] rest [] s fits = absurd cc
items_complete item number Fits have [] rest (x ∷ xs) s fits = absurd cc
items_complete item number Fits have (word ∷ []) rest [] s fits = rw (cons_head _ _ _ _ s) refl
items_complete item number Fits have (word ∷ other ∷ front) rest [] s fits = absurd (let wrong = cons_tail _ _ _ _ s in cc)
items_complete item number Fits have (word ∷ front) rest (x ∷ xs) s fits =
    let t = have.taken x fits.0 in
    rw (cons_head _ _ _ _ s, t.0, t.1, items_complete item number Fits have front rest xs (cons_tail _ _ _ _ s) fits.1) refl
