-- A turn of a list and of a chain that grows, without counting steps: where each turn takes tokens, so many steps as
-- tokens are enough, and one more changes nothing.
use Rattle.std.specs.Prelude.{◌≡◌, ℕ, zero, suc, ◌≤◌, ◌<◌, List, [], ◌∷◌, length, Option, Some, None, refl}
use Rattle.std.proofs.Common.{ap, arith, sym, ◌∙◌}
use Rattle.ep_parse_parts.specs.Readers.{Read, Reader, going_on, grown, grown_from, growing, high, more_from, others_from, took, wrong, ◌and_then◌}
use Rattle.ep_tree.specs.Phrases.{Lexeme}

-- ---- lists

module _ {A : Type 0} (goes_on : A → List Lexeme → Option (List Lexeme)) (item : A → Reader A)
    (ends : (last : A) → goes_on last [] ≡ None)
    (shrinks : (last : A) (ls next : List Lexeme) (x : A) (rest : List Lexeme) → goes_on last ls ≡ Some next → item last next ≡ took x rest → length rest < length ls) where
  -- an item before others
  abbrev pub turn : (A → Reader (List A)) → A → Reader (List A)
  turn others x rest = others x rest and_then λ xs end. took (x ∷ xs) end

  same_item : (F G : A → Reader (List A)) (r : Read A) → ((x : A) (rest : List Lexeme) → r ≡ took x rest → F x rest ≡ G x rest) → (r and_then turn F) ≡ (r and_then turn G)
  same_item F G (took x rest) agree = ap (λ q. q and_then λ xs end. took (x ∷ xs) end) (agree x rest refl)
  same_item F G (wrong ls) agree = refl
  same_item F G (high ls) agree = refl

  same_turn : (F G : A → Reader (List A)) (o : Option (List Lexeme)) (last : A) (ls : List Lexeme)
      → ((next : List Lexeme) (x : A) (rest : List Lexeme) → o ≡ Some next → item last next ≡ took x rest → F x rest ≡ G x rest)
      → going_on o ls (λ next. item last next and_then turn F) ≡ going_on o ls (λ next. item last next and_then turn G)
  same_turn F G None last ls agree = refl
  same_turn F G (Some next) last ls agree = same_item F G (item last next) (λ x rest e. agree next x rest refl e)

  enough : (n m : ℕ) (last : A) (ls : List Lexeme) → length ls ≤ n → length ls ≤ m → more_from goes_on item n last ls ≡ more_from goes_on item m last ls
  unfolding more_from
  enough zero zero last ls h k = refl
  enough zero (suc m) last [] h k = sym (ap (λ o. going_on o [] (λ next. item last next and_then turn (more_from goes_on item m))) (ends last))
  enough zero (suc m) last (l ∷ ls) h k = absurd (omega (arith, h))
  enough (suc n) zero last [] h k = ap (λ o. going_on o [] (λ next. item last next and_then turn (more_from goes_on item n))) (ends last)
  enough (suc n) zero last (l ∷ ls) h k = absurd (omega (arith, k))
  enough (suc n) (suc m) last ls h k =
      same_turn (more_from goes_on item n) (more_from goes_on item m) (goes_on last ls) last ls
      (λ next x rest o e. let s = shrinks last ls next x rest o e in enough n m x rest (omega (arith, s, h)) (omega (arith, s, k)))

  -- a list is a turn and then a list again
  pub list_turn : (last : A) (ls : List Lexeme) → others_from goes_on item last ls ≡ going_on (goes_on last ls) ls (λ next. item last next and_then turn (others_from goes_on item))
  unfolding more_from
  list_turn last ls =
      enough (length ls) (suc (length ls)) last ls (omega arith) (omega arith)
      ∙ same_turn (more_from goes_on item (length ls)) (others_from goes_on item) (goes_on last ls) last ls
      (λ next x rest o e. let s = shrinks last ls next x rest o e in enough (length ls) (length rest) x rest (omega (arith, s)) (omega arith))

-- ---- chains that grow

module _ {A : Type 0} (step : A → List Lexeme → Option (Read A))
    (ends : (x : A) → step x [] ≡ None)
    (shrinks : (x y : A) (ls rest : List Lexeme) → step x ls ≡ Some (took y rest) → length rest < length ls) where
  same_read : (F G : A → Reader A) (r : Read A) → ((y : A) (rest : List Lexeme) → r ≡ took y rest → F y rest ≡ G y rest) → (r and_then F) ≡ (r and_then G)
  same_read F G (took y rest) agree = agree y rest refl
  same_read F G (wrong ls) agree = refl
  same_read F G (high ls) agree = refl

  same_step : (F G : A → Reader A) (o : Option (Read A)) (x : A) (ls : List Lexeme) → ((y : A) (rest : List Lexeme) → o ≡ Some (took y rest) → F y rest ≡ G y rest) → growing o x ls F ≡ growing o x ls G
  same_step F G None x ls agree = refl
  same_step F G (Some r) x ls agree = same_read F G r (λ y rest e. agree y rest (ap Some e))

  enough_steps : (n m : ℕ) (x : A) (ls : List Lexeme) → length ls ≤ n → length ls ≤ m → grown_from step n x ls ≡ grown_from step m x ls
  unfolding grown_from
  enough_steps zero zero x ls h k = refl
  enough_steps zero (suc m) x [] h k = sym (ap (λ o. growing o x [] (grown_from step m)) (ends x))
  enough_steps zero (suc m) x (l ∷ ls) h k = absurd (omega (arith, h))
  enough_steps (suc n) zero x [] h k = ap (λ o. growing o x [] (grown_from step n)) (ends x)
  enough_steps (suc n) zero x (l ∷ ls) h k = absurd (omega (arith, k))
  enough_steps (suc n) (suc m) x ls h k =
      same_step (grown_from step n) (grown_from step m) (step x ls) x ls
      (λ y rest e. let s = shrinks x y ls rest e in enough_steps n m y rest (omega (arith, s, h)) (omega (arith, s, k)))

  -- what grows takes a step and then grows again
  pub grown_turn : (x : A) (ls : List Lexeme) → grown step x ls ≡ growing (step x ls) x ls (grown step)
  unfolding grown_from
  grown_turn x ls =
      enough_steps (length ls) (suc (length ls)) x ls (omega arith) (omega arith)
      ∙ same_step (grown_from step (length ls)) (grown step) (step x ls) x ls
      (λ y rest e. let s = shrinks x y ls rest e in enough_steps (length ls) (length rest) y rest (omega (arith, s)) (omega arith))
