-- Where a text is refused, no text goes on.
use Rattle.std.specs.Prelude.{◌≡◌, ℕ, ◌+◌, ◌≤◌, ◌<◌, Bool, true, false, List, [], ◌∷◌, ◌++◌, length, refl}
use Rattle.std.proofs.Common.{ap, arith, sym, subst, ◌∙◌, append-nil, append_assoc, length-append}
use Rattle.ep_tree.specs.Phrases.{Lexeme, Phrase}
use Rattle.ep_tree.specs.Reading.{Begins, Low}
use Rattle.ep_tree.specs.StatementSpelling.{SpellsModel, SpellsParams}
use Rattle.ep_tree.specs.Statements.{TextTree, text_height}
use Rattle.ep_parse_parts.proofs.AgainAll.{all_complete, readers}
use Rattle.ep_parse_expr.proofs.Steady.{Cut, Cuts, Steady, StopsSo, before_cut, behind_too, ended, going, high_alone, high_both, left_by, took_both, wrong_both}
use Rattle.ep_parse_expr.proofs.SteadyAll.{all_sound, all_steady}
use Rattle.ep_parse_expr.proofs.SteadyOperators.{Higher}
use Rattle.ep_parse_parts.specs.Readers.{Reader, high, took, wrong}
use Rattle.ep_parse_model.proofs.TextsAgain.{model_again, params_again}
use Rattle.ep_parse_model.proofs.TextsSteady.{Going, ends_too, goes, model_steady, params_steady}
use Rattle.ep_parse_model.specs.TextReaders.{model_from, params_from}

-- the same tokens and the next, with others behind them
abbrev pub onwards : Bool → Lexeme → List Lexeme → List Lexeme → Cut
onwards exact t a b = record { exact = exact; one = t ∷ a; two = t ∷ b; same = going t a b refl refl }

pub goes_onwards : (exact : Bool) (t : Lexeme) (a b : List Lexeme) → Going (onwards exact t a b)
goes_onwards exact t a b = goes t a b refl refl

-- the end of both lists
abbrev at_end : Cut
at_end = record { exact = false; one = []; two = []; same = ended refl refl }

module _ (spells : TextTree → Phrase) (reader : ℕ → Reader TextTree)
    (complete : (most : ℕ) (tree : TextTree) (ls : List Lexeme) → spells tree ls → text_height tree ≤ most → reader most ls ≡ took tree [])
    (steady : (c : Cut) → Going c → (most most2 : ℕ) → Higher c most most2 → (ls ls2 : List Lexeme) → Cuts c ls ls2 → Steady c (length ls) (reader most ls) (reader most2 ls2)) where
  compared : (exact : Bool) (t : Lexeme) (a b : List Lexeme) (most most2 : ℕ) → Higher (onwards exact t a b) most most2 → (front : List Lexeme)
      → StopsSo (onwards exact t a b) (reader most (front ++ t ∷ a)) (reader most2 (front ++ t ∷ b))
  compared exact t a b most most2 higher front =
      let st = steady (onwards exact t a b) (goes_onwards exact t a b) most most2 higher (front ++ t ∷ a) (front ++ t ∷ b) (before_cut front refl refl) in st.stops

  some_left : (t : Lexeme) (a f : List Lexeme) → [] ≡ f ++ t ∷ a → ⊥
  some_left t a f e = let none : 0 ≡ length (f ++ t ∷ a) = ap length e in omega (arith, none, length-append f (t ∷ a))

  regroup : (front rest : List Lexeme) (t : Lexeme) → (front ++ t ∷ []) ++ rest ≡ front ++ t ∷ rest
  regroup front rest t = append_assoc front (t ∷ []) rest

  higher_by : (t : Lexeme) (a b : List Lexeme) (most more : ℕ) → Higher (onwards false t a b) most (most + more)
  higher_by t a b most more = record { le = omega arith; alike = λ x. let no : false ≡ true = x in absurd cc }

  -- With a token that is wrong no text goes on, however high it is.
  pub wrong_ends : (most : ℕ) (front a : List Lexeme) (t : Lexeme) → reader most (front ++ t ∷ a) ≡ wrong (t ∷ a) → Begins spells (front ++ t ∷ []) → ⊥
  wrong_ends most front a t e (tree, rest, s) =
      let high_enough = most + text_height tree in
      let whole : reader high_enough (front ++ t ∷ rest) ≡ took tree [] = complete high_enough tree (front ++ t ∷ rest) (subst (spells tree) (regroup front rest t) s) (omega arith) in
      go rest high_enough tree whole (compared false t a rest most high_enough (higher_by t a rest most (text_height tree)) front)
    where
      go : (rest : List Lexeme) (m : ℕ) (tree : TextTree) → reader m (front ++ t ∷ rest) ≡ took tree [] → StopsSo (onwards false t a rest) (reader most (front ++ t ∷ a)) (reader m (front ++ t ∷ rest)) → ⊥
      go rest m tree whole (behind_too p) = let lt : length (t ∷ a) < length (t ∷ a) = subst (λ z. length (left_by z) < length (t ∷ a)) e p in omega (arith, lt)
      go rest m tree whole (took_both y f e1 e2) = let no : wrong (t ∷ a) ≡ took y (f ++ t ∷ a) = sym e ∙ e1 in cc
      go rest m tree whole (wrong_both f e1 e2) = let no : took tree [] ≡ wrong (f ++ t ∷ rest) = sym whole ∙ e2 in cc
      go rest m tree whole (high_both f e1 e2) = let no : wrong (t ∷ a) ≡ high (f ++ t ∷ a) = sym e ∙ e1 in cc
      go rest m tree whole (high_alone z e1 e2) = let no : wrong (t ∷ a) ≡ high z = sym e ∙ e1 in cc

  -- With a token that is too high no text that is low enough goes on.
  pub high_ends : (most : ℕ) (front a : List Lexeme) (t : Lexeme) → reader most (front ++ t ∷ a) ≡ high (t ∷ a) → Begins (Low text_height most spells) (front ++ t ∷ []) → ⊥
  high_ends most front a t e (tree, rest, s) =
      let whole : reader most (front ++ t ∷ rest) ≡ took tree [] = complete most tree (front ++ t ∷ rest) (subst (spells tree) (regroup front rest t) s.1) s.0 in
      go rest tree whole (compared true t a rest most most (record { le = omega arith; alike = λ x. refl }) front)
    where
      go : (rest : List Lexeme) (tree : TextTree) → reader most (front ++ t ∷ rest) ≡ took tree [] → StopsSo (onwards true t a rest) (reader most (front ++ t ∷ a)) (reader most (front ++ t ∷ rest)) → ⊥
      go rest tree whole (behind_too p) = let lt : length (t ∷ a) < length (t ∷ a) = subst (λ z. length (left_by z) < length (t ∷ a)) e p in omega (arith, lt)
      go rest tree whole (took_both y f e1 e2) = let no : high (t ∷ a) ≡ took y (f ++ t ∷ a) = sym e ∙ e1 in cc
      go rest tree whole (wrong_both f e1 e2) = let no : high (t ∷ a) ≡ wrong (f ++ t ∷ a) = sym e ∙ e1 in cc
      go rest tree whole (high_both f e1 e2) = let no : took tree [] ≡ high (f ++ t ∷ rest) = sym whole ∙ e2 in cc
      go rest tree whole (high_alone z e1 e2) = let no : true ≡ false = e2 in cc

  -- Where the tokens end too soon they are no text.
  pub wrong_incomplete : (most : ℕ) (ls : List Lexeme) → reader most ls ≡ wrong [] → (tree : TextTree) → spells tree ls → ⊥
  wrong_incomplete most ls e tree s =
      let high_enough = most + text_height tree in
      let st = steady at_end (ends_too refl refl) most high_enough (record { le = omega arith; alike = λ x. let no : false ≡ true = x in absurd cc }) ls ls (before_cut ls (sym (append-nil ls)) (sym (append-nil ls))) in
      go high_enough (complete high_enough tree ls s (omega arith)) st.stops
    where
      go : (m : ℕ) → reader m ls ≡ took tree [] → StopsSo at_end (reader most ls) (reader m ls) → ⊥
      go m whole (behind_too p) = let lt : length (left_by (reader most ls)) < 0 = p in omega (arith, lt)
      go m whole (took_both y f e1 e2) = let no : wrong [] ≡ took y (f ++ []) = sym e ∙ e1 in cc
      go m whole (wrong_both f e1 e2) = let no : took tree [] ≡ wrong (f ++ []) = sym whole ∙ e2 in cc
      go m whole (high_both f e1 e2) = let no : wrong [] ≡ high (f ++ []) = sym e ∙ e1 in cc
      go m whole (high_alone z e1 e2) = let no : wrong [] ≡ high z = sym e ∙ e1 in cc

-- ---- models and parameter texts

pub model_so : (c : Cut) → Going c → (most most2 : ℕ) → Higher c most most2 → (ls ls2 : List Lexeme) → Cuts c ls ls2 → Steady c (length ls) (model_from (readers most) ls) (model_from (readers most2) ls2)
model_so c g most most2 higher ls ls2 s = model_steady c g most (readers most) (readers most2) (all_steady c most most2 higher) (all_sound most) ls ls2 s

pub params_so : (c : Cut) → Going c → (most most2 : ℕ) → Higher c most most2 → (ls ls2 : List Lexeme) → Cuts c ls ls2 → Steady c (length ls) (params_from (readers most) ls) (params_from (readers most2) ls2)
params_so c g most most2 higher ls ls2 s = params_steady c g most (readers most) (readers most2) (all_steady c most most2 higher) (all_sound most) ls ls2 s

pub model_complete : (most : ℕ) (tree : TextTree) (ls : List Lexeme) → SpellsModel tree ls → text_height tree ≤ most → model_from (readers most) ls ≡ took tree []
model_complete most tree ls s small = model_again most (readers most) (all_complete most) tree ls s small

pub params_complete : (most : ℕ) (tree : TextTree) (ls : List Lexeme) → SpellsParams tree ls → text_height tree ≤ most → params_from (readers most) ls ≡ took tree []
params_complete most tree ls s small = params_again most (readers most) (all_complete most) tree ls s small
