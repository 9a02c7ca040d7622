-- A refusal of a reader of whole texts is a fault of syntax or of height, where what stands before it can be completed.
use Rattle.std.specs.Prelude.{◌≡◌, ℕ, suc, ◌+◌, ◌≤◌, ◌<◌, List, [], ◌∷◌, ◌++◌, length, take}
use Rattle.std.proofs.Common.{ap, arith, sym, subst, ◌∙◌, length-append}
use Rattle.std.proofs.Math.Seq.{take-append-add}
use Rattle.ep_tree.specs.Phrases.{Lexeme, Phrase}
use Rattle.ep_tree.specs.Reading.{Begins, IsTextFault, IsTooHigh, Low}
use Rattle.ep_tree.specs.Statements.{TextTree, text_height}
use Rattle.ep_parse_expr.proofs.Steady.{Cut, Cuts, Steady}
use Rattle.ep_parse_expr.proofs.SteadyOperators.{Higher}
use Rattle.ep_parse_expr.proofs.Stopping.{stops_at}
use Rattle.ep_parse_parts.specs.Readers.{Reader, high, took, wrong}
use Rattle.ep_parse_model.proofs.TextStops.{high_ends, wrong_ends, wrong_incomplete}
use Rattle.ep_parse_model.proofs.TextsSteady.{Going}

module _ (spells : TextTree → Phrase) (reader : ℕ → Reader TextTree)
    (complete : (most : ℕ) (tree : TextTree) (ls : List Lexeme) → spells tree ls → text_height tree ≤ most → reader most ls ≡ took tree [])
    (steady : (c : Cut) → Going c → (most most2 : ℕ) → Higher c most most2 → (ls ls2 : List Lexeme) → Cuts c ls ls2 → Steady c (length ls) (reader most ls) (reader most2 ls2)) where
  -- the tokens before a refusal begin a text that is low enough, and with one that is too high a higher one goes on
  pub record AreBegun (most : ℕ) : Type 0 where
    pub before_wrong : (front a : List Lexeme) → reader most (front ++ a) ≡ wrong a → 0 < length front → Begins (Low text_height most spells) front
    pub before_high : (front a : List Lexeme) → reader most (front ++ a) ≡ high a → 0 < length front → Begins (Low text_height most spells) front
    pub with_high : (front a : List Lexeme) (t : Lexeme) → reader most (front ++ t ∷ a) ≡ high (t ∷ a) → Begins spells (front ++ t ∷ [])

  any_height : (most : ℕ) (front : List Lexeme) → Begins (Low text_height most spells) front → Begins spells front
  any_height most front b = (b.0, b.1, b.2.1)

  wrong_here : (most : ℕ) (front a z : List Lexeme) (t : Lexeme) → reader most (front ++ z) ≡ wrong z → z ≡ t ∷ a → Begins spells (front ++ t ∷ []) → ⊥
  wrong_here most front a z t e is h = wrong_ends spells reader complete steady most front a t (subst (λ y. reader most (front ++ y) ≡ wrong y) is e) h

  -- what is refused as wrong is a fault of syntax
  pub wrong_is_fault : (most : ℕ) → AreBegun most → (front a : List Lexeme) → reader most (front ++ a) ≡ wrong a → IsTextFault spells most (front ++ a) (length front)
  wrong_is_fault most begun front a e = record {
    stops = stops_at (Begins (Low text_height most spells)) front a (begun.before_wrong front a e) (λ t z is h. wrong_here most front z a t e is (any_height most (front ++ t ∷ []) h));
    no_higher = stops_at (Begins spells) front a (λ some. any_height most front (begun.before_wrong front a e some)) (λ t z is h. wrong_here most front z a t e is h);
    incomplete = λ all tree s. at_last a all e tree s;
  }
    where
      at_last : (z : List Lexeme) → length front ≡ length (front ++ z) → reader most (front ++ z) ≡ wrong z → (tree : TextTree) → spells tree (front ++ z) → ⊥
      at_last [] all e tree s = wrong_incomplete spells reader complete steady most (front ++ []) e tree s
      at_last (t ∷ z) all e tree s = omega (arith, all, length-append front (t ∷ z))

  -- what is refused as too high is a fault of height
  pub high_is_fault : (most : ℕ) → AreBegun most → (front a : List Lexeme) (t : Lexeme) → reader most (front ++ t ∷ a) ≡ high (t ∷ a) → IsTooHigh spells text_height most (front ++ t ∷ a) (length front)
  high_is_fault most begun front a t e = record {
    stops = stops_at (Begins (Low text_height most spells)) front (t ∷ a) (begun.before_high front (t ∷ a) e) (λ u z is h. high_here u z is h);
    inside = omega (arith, length-append front (t ∷ a));
    higher = subst (Begins spells) (sym cut) (begun.with_high front a t e);
  }
    where
      cut : take (suc (length front)) (front ++ t ∷ a) ≡ front ++ t ∷ []
      cut = let one : suc (length front) ≡ length front + 1 = omega arith in ap (λ n. take n (front ++ t ∷ a)) one ∙ take-append-add front (t ∷ a) 1

      high_here : (u : Lexeme) (z : List Lexeme) → t ∷ a ≡ u ∷ z → Begins (Low text_height most spells) (front ++ u ∷ []) → ⊥
      high_here u z is h = high_ends spells reader complete steady most front z u (subst (λ y. reader most (front ++ y) ≡ high y) is e) h
