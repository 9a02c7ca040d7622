-- Where a reader stops, nothing goes on: of this a reader has to be complete, and steady.
use Rattle.std.specs.Prelude.{◌≡◌, ℕ, suc, ◌+◌, ◌≤◌, ◌<◌, Bool, true, false, List, [], ◌∷◌, ◌++◌, length, take, refl}
use Rattle.std.proofs.Common.{ap, arith, sym, subst, ◌∙◌, append-nil, append_assoc, length-append}
use Rattle.std.proofs.Math.Seq.{take-append-add, take-append_seam}
use Rattle.ep_tree.specs.Phrases.{Lexeme, Phrase}
use Rattle.ep_tree.specs.Reading.{Begins, Low, Stops}
use Rattle.ep_parse_parts.specs.Readers.{Reader, high, took, wrong}
use Rattle.ep_parse_expr.proofs.Steady.{Cut, Cuts, Steady, StopsSo, before_cut, behind_too, ended, going, high_alone, high_both, left_by, took_both, wrong_both}
use Rattle.ep_parse_expr.proofs.SteadyOperators.{Higher}

-- ---- places

-- The first tokens go well, and with the next nothing does.
pub stops_at : (begins : List Lexeme → Type 0) (front rest : List Lexeme) → (0 < length front → begins front)
    → ((t : Lexeme) (a : List Lexeme) → rest ≡ t ∷ a → begins (front ++ t ∷ []) → ⊥) → Stops begins (front ++ rest) (length front)
stops_at begins front rest before after = record {
  within = omega (arith, length-append front rest);
  before = λ some. subst begins (sym (take-append_seam front rest)) (before some);
  after = λ inside. go rest refl inside;
}
  where
    go : (z : List Lexeme) → rest ≡ z → length front < length (front ++ rest) → begins (take (suc (length front)) (front ++ rest)) → ⊥
    go [] e inside h = let none : length rest ≡ 0 = ap length e in absurd (omega (arith, inside, none, length-append front rest))
    go (t ∷ a) e inside h =
        let one : suc (length front) ≡ length front + 1 = omega arith in
        let cut : take (suc (length front)) (front ++ rest) ≡ front ++ t ∷ [] =
        ap (λ n. take n (front ++ rest)) one ∙ ap (λ z. take (length front + 1) (front ++ z)) e ∙ take-append-add front (t ∷ a) 1 in
        after t a e (subst begins cut h)

module _ {A : Type 0} (spells : A → Phrase) (height_of : A → ℕ) (reader : ℕ → Reader A)
    (complete : (most : ℕ) (tree : A) (ls : List Lexeme) → spells tree ls → height_of tree ≤ most → reader most ls ≡ took tree [])
    (steady : (c : Cut) (most most2 : ℕ) → Higher c most most2 → (ls ls2 : List Lexeme) → Cuts c ls ls2 → Steady c (length ls) (reader most ls) (reader most2 ls2)) where
  -- the same tokens and the next, with others behind them
  pub onwards : (exact : Bool) (t : Lexeme) (a b : List Lexeme) → Cut
  onwards exact t a b = record { exact = exact; one = t ∷ a; two = t ∷ b; same = going t a b refl refl }

  -- the tokens before
  unfoldable pub cut_off : List Lexeme → Cut
  cut_off a = record { exact = false; one = a; two = []; same = ended refl refl }

  pub compared : (c : Cut) (most most2 : ℕ) → Higher c most most2 → (front : List Lexeme) → StopsSo c (reader most (front ++ c.one)) (reader most2 (front ++ c.two))
  compared c most most2 higher front = let st = steady c most most2 higher (front ++ c.one) (front ++ c.two) (before_cut front refl refl) in st.stops

  some_left : (t : Lexeme) (a f : List Lexeme) → [] ≡ f ++ t ∷ a → ⊥
  some_left t a f e = let none : 0 ≡ length (f ++ t ∷ a) = ap length e in omega (arith, none, length-append f (t ∷ a))

  regroup : (front rest : List Lexeme) (t : Lexeme) → (front ++ t ∷ []) ++ rest ≡ front ++ t ∷ rest
  regroup front rest t = append_assoc front (t ∷ []) rest

  pub higher_by : (c : Cut) → c.exact ≡ false → (most more : ℕ) → Higher c most (most + more)
  higher_by c e most more = record { le = omega arith; alike = λ x. let no : true ≡ false = sym x ∙ e in absurd cc }

  -- Behind what is taken nothing goes on.
  pub took_ends : (most : ℕ) (front a : List Lexeme) (t : Lexeme) (x : A) → reader most (front ++ t ∷ a) ≡ took x (t ∷ a) → Begins spells (front ++ t ∷ []) → ⊥
  unfolding onwards
  took_ends most front a t x e (tree, rest, s) =
      let c = onwards false t a rest in
      let high_enough = most + height_of tree in
      let whole : reader high_enough (front ++ t ∷ rest) ≡ took tree [] = complete high_enough tree (front ++ t ∷ rest) (subst (spells tree) (regroup front rest t) s) (omega arith) in
      go rest high_enough tree whole (compared c most high_enough (higher_by c refl most (height_of tree)) front)
    where
      go : (rest : List Lexeme) (m : ℕ) (tree : A) → reader m (front ++ t ∷ rest) ≡ took tree [] → StopsSo (onwards false t a rest) (reader most (front ++ t ∷ a)) (reader m (front ++ t ∷ rest)) → ⊥
      go rest m tree whole (behind_too p) = let lt : length (t ∷ a) < length (t ∷ a) = subst (λ z. length (left_by z) < length (t ∷ a)) e p in omega (arith, lt)
      go rest m tree whole (took_both y f e1 e2) = some_left t rest f (ap left_by (sym whole ∙ e2))
      go rest m tree whole (wrong_both f e1 e2) = let no : took x (t ∷ a) ≡ wrong (f ++ t ∷ a) = sym e ∙ e1 in cc
      go rest m tree whole (high_both f e1 e2) = let no : took x (t ∷ a) ≡ high (f ++ t ∷ a) = sym e ∙ e1 in cc
      go rest m tree whole (high_alone z e1 e2) = let no : took x (t ∷ a) ≡ high z = sym e ∙ e1 in cc

  -- With a token that is wrong nothing goes on, however high it is.
  pub wrong_ends : (most : ℕ) (front a : List Lexeme) (t : Lexeme) → reader most (front ++ t ∷ a) ≡ wrong (t ∷ a) → Begins spells (front ++ t ∷ []) → ⊥
  unfolding onwards
  wrong_ends most front a t e (tree, rest, s) =
      let c = onwards false t a rest in
      let high_enough = most + height_of tree in
      let whole : reader high_enough (front ++ t ∷ rest) ≡ took tree [] = complete high_enough tree (front ++ t ∷ rest) (subst (spells tree) (regroup front rest t) s) (omega arith) in
      go rest high_enough tree whole (compared c most high_enough (higher_by c refl most (height_of tree)) front)
    where
      go : (rest : List Lexeme) (m : ℕ) (tree : A) → reader m (front ++ t ∷ rest) ≡ took tree [] → StopsSo (onwards false t a rest) (reader most (front ++ t ∷ a)) (reader m (front ++ t ∷ rest)) → ⊥
      go rest m tree whole (behind_too p) = let lt : length (t ∷ a) < length (t ∷ a) = subst (λ z. length (left_by z) < length (t ∷ a)) e p in omega (arith, lt)
      go rest m tree whole (took_both y f e1 e2) = let no : wrong (t ∷ a) ≡ took y (f ++ t ∷ a) = sym e ∙ e1 in cc
      go rest m tree whole (wrong_both f e1 e2) = let no : took tree [] ≡ wrong (f ++ t ∷ rest) = sym whole ∙ e2 in cc
      go rest m tree whole (high_both f e1 e2) = let no : wrong (t ∷ a) ≡ high (f ++ t ∷ a) = sym e ∙ e1 in cc
      go rest m tree whole (high_alone z e1 e2) = let no : wrong (t ∷ a) ≡ high z = sym e ∙ e1 in cc

  -- And the tokens before it are nothing whole.
  pub wrong_incomplete : (most : ℕ) (front a : List Lexeme) → reader most (front ++ a) ≡ wrong a → (tree : A) → spells tree front → ⊥
  unfolding cut_off
  wrong_incomplete most front a e tree s =
      let c = cut_off a in
      let high_enough = most + height_of tree in
      let whole : reader high_enough (front ++ []) ≡ took tree [] = complete high_enough tree (front ++ []) (subst (spells tree) (sym (append-nil front)) s) (omega arith) in
      go high_enough whole (compared c most high_enough (higher_by c refl most (height_of tree)) front)
    where
      go : (m : ℕ) → reader m (front ++ []) ≡ took tree [] → StopsSo (cut_off a) (reader most (front ++ a)) (reader m (front ++ [])) → ⊥
      go m whole (behind_too p) = let lt : length a < length a = subst (λ z. length (left_by z) < length a) e p in omega (arith, lt)
      go m whole (took_both y f e1 e2) = let no : wrong a ≡ took y (f ++ a) = sym e ∙ e1 in cc
      go m whole (wrong_both f e1 e2) = let no : took tree [] ≡ wrong (f ++ []) = sym whole ∙ e2 in cc
      go m whole (high_both f e1 e2) = let no : wrong a ≡ high (f ++ a) = sym e ∙ e1 in cc
      go m whole (high_alone z e1 e2) = let no : wrong a ≡ high z = sym e ∙ e1 in cc

  -- With a token that is too high nothing low enough goes on.
  pub high_ends : (most : ℕ) (front a : List Lexeme) (t : Lexeme) → reader most (front ++ t ∷ a) ≡ high (t ∷ a) → Begins (Low height_of most spells) (front ++ t ∷ []) → ⊥
  unfolding onwards
  high_ends most front a t e (tree, rest, s) =
      let c = onwards true t a rest in
      let whole : reader most (front ++ t ∷ rest) ≡ took tree [] = complete most tree (front ++ t ∷ rest) (subst (spells tree) (regroup front rest t) s.1) s.0 in
      go rest tree whole (compared c most most (record { le = omega arith; alike = λ x. refl }) front)
    where
      go : (rest : List Lexeme) (tree : A) → reader most (front ++ t ∷ rest) ≡ took tree [] → StopsSo (onwards true t a rest) (reader most (front ++ t ∷ a)) (reader most (front ++ t ∷ rest)) → ⊥
      go rest tree whole (behind_too p) = let lt : length (t ∷ a) < length (t ∷ a) = subst (λ z. length (left_by z) < length (t ∷ a)) e p in omega (arith, lt)
      go rest tree whole (took_both y f e1 e2) = let no : high (t ∷ a) ≡ took y (f ++ t ∷ a) = sym e ∙ e1 in cc
      go rest tree whole (wrong_both f e1 e2) = let no : high (t ∷ a) ≡ wrong (f ++ t ∷ a) = sym e ∙ e1 in cc
      go rest tree whole (high_both f e1 e2) = let no : took tree [] ≡ high (f ++ t ∷ rest) = sym whole ∙ e2 in cc
      go rest tree whole (high_alone z e1 e2) = let no : true ≡ false = e2 in cc
