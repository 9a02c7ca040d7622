-- Chains that nest to the left are read again.
use Rattle.std.specs.Prelude.{◌≡◌, ℕ, zero, suc, ◌≤◌, ◌<◌, Bool, true, false, not, nat_le, List, ◌∷◌, ◌++◌, Option, Some, None, codes, refl}
use Rattle.std.proofs.Common.{arith, sym, subst, ◌∙◌, length-append}
use Rattle.std.proofs.Math.Nat.{le-max_left, le-max_right}
use Rattle.ep_base.specs.declared.places.Place.{Place}
use Rattle.ep_tree.specs.Heights.{height}
use Rattle.ep_tree.specs.Phrases.{Choice, Lexeme, Phrase, StartsAt, a_word}
use Rattle.ep_tree.specs.Spelling.{Closed, Infix, Level, Spells, SpellsNode, binary_level, binary_word, ends_open, is_called, own_level, rank, tighter, unaries}
use Rattle.ep_tree.specs.Trees.{ExprTree, binary, place_of}
use Rattle.ep_tree.specs.declared.syntax.BinaryOp.{BinaryOp}
use Rattle.ep_parse_parts.specs.OperandReaders.{Lower}
use Rattle.ep_parse_parts.specs.OperatorReaders.{another_binary}
use Rattle.ep_parse_parts.specs.Readers.{Read, Reader, grown, next_in, took, ◌and_then◌}
use Rattle.ep_parse_parts.proofs.Again.{AreComplete, Ends, EndsBefore, GrownTo, around_cut, around_rest, below_again, grown_end, grown_more, grown_start, lexeme, same_place}

-- an operator that stands between two parts of a level
abbrev pub IsInfix : Level → BinaryOp → Type 0
IsInfix own op = (binary_level op ≡ own) × (is_called op ≡ false)

open_as_last : (p : Place) (op : BinaryOp) (a b : ExprTree) → is_called op ≡ false → ends_open (binary p op a b) ≡ ends_open b
unfolding ends_open is_called
open_as_last p BinaryOp.Mul a b e = refl
open_as_last p BinaryOp.Div a b e = refl
open_as_last p BinaryOp.Mod a b e = refl
open_as_last p BinaryOp.Pow a b e = refl
open_as_last p BinaryOp.Min a b e = absurd cc
open_as_last p BinaryOp.Max a b e = absurd cc
open_as_last p BinaryOp.Implies a b e = refl
open_as_last p BinaryOp.Iff a b e = refl

other_choice : (c : Bool) (one other : Phrase) (ls : List Lexeme) → c ≡ false → Choice c one other ls → other ls
other_choice true one other ls e h = absurd cc
other_choice false one other ls e h = h

not_open : (b : Bool) → not b ≡ true → b ≡ true → ⊥
not_open true e k = cc
not_open false e k = cc

-- what is needed of a level whose chains nest to the left
pub record IsChainLevel (own right : Level) (words : List (List ℕ × BinaryOp)) : Type 0 where
  pub next : tighter own ≡ right
  pub ranked : nat_le (rank right) (rank unaries) ≡ true
  pub only : (l : Level) → nat_le (rank own) (rank l) ≡ true → nat_le (rank right) (rank l) ≡ false → l ≡ own
  pub binaries : (e : ExprTree) → own_level e ≡ own → (p : Place) × (op : BinaryOp) × (a : ExprTree) × (b : ExprTree) × (e ≡ binary p op a b) × IsInfix own op
  pub found : (op : BinaryOp) → IsInfix own op → (p : Place) (ls : List Lexeme) → next_in words (lexeme p (a_word (codes (binary_word op))) ∷ ls) ≡ Some op
  pub ends : (op : BinaryOp) → IsInfix own op → (p : Place) (ls : List Lexeme) → Ends right (lexeme p (a_word (codes (binary_word op))) ∷ ls)
  pub loosen : (ls : List Lexeme) → Ends own ls → Ends right ls
  pub none : (ls : List Lexeme) → Ends own ls → next_in words ls ≡ None

module _ (less : ℕ) (low : Lower) (good : AreComplete less low) (own right : Level) (words : List (List ℕ × BinaryOp)) (is : IsChainLevel own right words) (tight : Reader ExprTree)
    (tight_again : (e : ExprTree) (front rest : List Lexeme) → Spells right e front → height e ≤ suc less → EndsBefore right e rest → tight (front ++ rest) ≡ took e rest) where
  abbrev step : ExprTree → List Lexeme → Option (Read ExprTree)
  step = another_binary (suc less) low words right

  -- what was read of these tokens has grown to this
  abbrev Grown : ExprTree → List Lexeme → List Lexeme → Type 0
  Grown e front tail = GrownTo step (tight (front ++ tail) and_then grown step) e tail

  abbrev GrowsBelow : ℕ → Type 0
  GrowsBelow n = (e : ExprTree) (front tail : List Lexeme) → height e < n → Spells own e front → height e ≤ suc less → EndsBefore right e tail → Grown e front tail

  infix_of : (op : BinaryOp) (a b : ExprTree) (one : Phrase) (front : List Lexeme) → IsInfix own op
      → Choice (is_called op) one (Infix (binary_word op) (Closed a (Spells (binary_level op) a)) (Spells (tighter (binary_level op)) b)) front
      → Infix (binary_word op) (Closed a (Spells own a)) (Spells right b) front
  infix_of op a b one front k h =
      subst (λ l. Infix (binary_word op) (Closed a (Spells own a)) (Spells l b) front) is.next
      (subst (λ l. Infix (binary_word op) (Closed a (Spells l a)) (Spells (tighter l) b) front) k.0
      (other_choice (is_called op) one (Infix (binary_word op) (Closed a (Spells (binary_level op) a)) (Spells (tighter (binary_level op)) b)) front k.1 h))

  one_step : (p : Place) (op : BinaryOp) (a b : ExprTree) (q : Place) (back tail : List Lexeme) → IsInfix own op → not (ends_open a) ≡ true → height a ≤ less → place_of a ≡ p
      → low.expr right (back ++ tail) ≡ took b tail → step a (lexeme q (a_word (codes (binary_word op))) ∷ (back ++ tail)) ≡ Some (took (binary p op a b) tail)
  unfolding another_binary
  one_step p op a b q back tail k closed small at again =
      rw (closed, is.found op k q (back ++ tail), below_again (height a) less small, again, at) refl

  grown_binary : (n : ℕ) → GrowsBelow n → (p : Place) (op : BinaryOp) (a b : ExprTree) (front tail : List Lexeme) → IsInfix own op → height (binary p op a b) < suc n
      → Spells own (binary p op a b) front → height (binary p op a b) ≤ suc less → EndsBefore right (binary p op a b) tail → Grown (binary p op a b) front tail
  unfolding SpellsNode own_level place_of height
  grown_binary n ih p op a b front tail k small h high ends =
      let c = around_cut (Closed a (Spells own a)) (codes (binary_word op)) (Spells right b) front (infix_of op a b _ front k h.1.1) in
      let more = lexeme c.place (a_word (codes (binary_word op))) ∷ (c.back ++ tail) in
      let cut_rest : front ++ tail ≡ c.front ++ more = around_rest c.front c.back tail front (lexeme c.place (a_word (codes (binary_word op)))) c.parts in
      let at : place_of a ≡ p = same_place p (place_of a) c.front (lexeme c.place (a_word (codes (binary_word op))) ∷ c.back) c.first.1.1.0 (subst (λ x. StartsAt p x) c.parts h.1.0) in
      let left : height a ≤ less = omega (arith, high, le-max_left (height a) (height b)) in
      let last : height b ≤ less = omega (arith, high, le-max_right (height a) (height b)) in
      let grew : Grown a c.front more =
      ih a c.front more (omega (arith, small, le-max_left (height a) (height b))) c.first.1 (omega (arith, left)) (record { ends = is.ends op k c.place (c.back ++ tail); open_ends = λ o. absurd (not_open (ends_open a) c.first.0 o) }) in
      let again : low.expr right (c.back ++ tail) ≡ took b tail =
      good.expr right is.ranked b c.back tail c.second last (record { ends = ends.ends; open_ends = λ o. ends.open_ends (open_as_last p op a b k.1 ∙ o) }) in
      subst (λ x. GrownTo step (tight x and_then grown step) (binary p op a b) tail) (sym cut_rest)
      (grown_more step (tight (c.front ++ more) and_then grown step) a (binary p op a b) more tail grew (one_step p op a b c.place c.back tail k c.first.0 left at again)
      (omega (arith, length-append c.back tail)))

  grown_any : (n : ℕ) → GrowsBelow n → (e : ExprTree) (front tail : List Lexeme) → height e < suc n → Spells own e front → height e ≤ suc less → EndsBefore right e tail
      → (b : Bool) → nat_le (rank right) (rank (own_level e)) ≡ b → Grown e front tail
  grown_any n ih e front tail small h high ends true k = grown_start step (tight (front ++ tail)) e tail (tight_again e front tail (k, h.1) high ends)
  grown_any n ih e front tail small h high ends false k =
      let b = is.binaries e (is.only (own_level e) h.0 k) in
      subst (λ x. Grown x front tail) (sym b.4)
      (grown_binary n ih b.0 b.1 b.2 b.3 front tail b.5 (subst (λ x. height x < suc n) b.4 small) (subst (λ x. Spells own x front) b.4 h) (subst (λ x. height x ≤ suc less) b.4 high) (subst (λ x. EndsBefore right x tail) b.4 ends))

  grown_again : (n : ℕ) → GrowsBelow n
  grown_again zero e front tail small h high ends = absurd (omega (arith, small))
  grown_again (suc n) e front tail small h high ends = grown_any n (grown_again n) e front tail small h high ends (nat_le (rank right) (rank (own_level e))) refl

  none_more : (e : ExprTree) (rest : List Lexeme) → next_in words rest ≡ None → step e rest ≡ None
  unfolding another_binary
  none_more e rest none = rw none refl

  -- A chain is read again, or what is tighter.
  pub chain_again : (e : ExprTree) (front rest : List Lexeme) → Spells own e front → height e ≤ suc less → EndsBefore own e rest → (tight (front ++ rest) and_then grown step) ≡ took e rest
  chain_again e front rest h high ends =
      grown_end step (tight (front ++ rest) and_then grown step) e rest
      (grown_again (suc (height e)) e front rest (omega arith) h high (record { ends = is.loosen rest ends.ends; open_ends = ends.open_ends }))
      (none_more e rest (is.none rest ends.ends))
