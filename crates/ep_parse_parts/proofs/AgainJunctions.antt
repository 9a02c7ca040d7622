-- Conjunctions and disjunctions are read again.
use Rattle.std.specs.Prelude.{◌≡◌, ℕ, suc, ◌≤◌, true, false, nat_le, List, ◌∷◌, ◌++◌, Some, codes, refl}
use Rattle.ep_base.specs.declared.places.Place.{Place}
use Rattle.ep_tree.specs.Heights.{height}
use Rattle.ep_tree.specs.Phrases.{Lexeme, a_word}
use Rattle.ep_tree.specs.Spelling.{Level, Spells, SpellsNode, binary_level, comparisons, conjunctions, disjunctions, ends_open, implications, own_level, powers, primaries, products, rank, reads, sums, unaries}
use Rattle.ep_tree.specs.Trees.{ExprTree, ExprTrees, absolute, all_different, all_of, any_of, at_least, at_most, binary, chain, compare, comprehension, factorial, flatten, folded, gcc, group, in_domain, in_set, lex, literal, minus, named, negation, number, place_of, quantified, read, table, to_int, truth}
use Rattle.ep_tree.specs.declared.syntax.BinaryOp.{BinaryOp}
use Rattle.ep_parse_parts.specs.OperandReaders.{Lower}
use Rattle.ep_parse_parts.specs.OperatorReaders.{comparison_from, conjunction_from, disjunction_from, only_word}
use Rattle.ep_parse_parts.specs.Readers.{looked_up, next_in, says, took}
use Rattle.ep_parse_parts.proofs.Again.{AreComplete, Ends, EndsBefore, lexeme}
use Rattle.ep_parse_parts.proofs.AgainParts.{IsPartsLevel, parts_chain_again}

-- ---- conjunctions

conjunctions_only : (l : Level) → nat_le (rank conjunctions) (rank l) ≡ true → nat_le (rank comparisons) (rank l) ≡ false → l ≡ conjunctions
unfolding rank
conjunctions_only implications h k = let wrong : false ≡ true = h in absurd cc
conjunctions_only disjunctions h k = let wrong : false ≡ true = h in absurd cc
conjunctions_only conjunctions h k = refl
conjunctions_only comparisons h k = let wrong : true ≡ false = k in absurd cc
conjunctions_only sums h k = let wrong : true ≡ false = k in absurd cc
conjunctions_only products h k = let wrong : true ≡ false = k in absurd cc
conjunctions_only powers h k = let wrong : true ≡ false = k in absurd cc
conjunctions_only unaries h k = let wrong : true ≡ false = k in absurd cc
conjunctions_only reads h k = let wrong : true ≡ false = k in absurd cc
conjunctions_only primaries h k = let wrong : true ≡ false = k in absurd cc

conjunctions_makes : (e : ExprTree) → own_level e ≡ conjunctions → (p : Place) × (es : ExprTrees) × (e ≡ all_of p es)
unfolding own_level binary_level
conjunctions_makes (all_of p es) e = (p, es, refl)
conjunctions_makes (number x0 x1) e = let wrong : primaries ≡ conjunctions = e in absurd cc
conjunctions_makes (truth x0 x1) e = let wrong : primaries ≡ conjunctions = e in absurd cc
conjunctions_makes (named x0 x1) e = let wrong : primaries ≡ conjunctions = e in absurd cc
conjunctions_makes (group x0 x1) e = let wrong : primaries ≡ conjunctions = e in absurd cc
conjunctions_makes (negation x0 x1) e = let wrong : unaries ≡ conjunctions = e in absurd cc
conjunctions_makes (minus x0 x1) e = let wrong : unaries ≡ conjunctions = e in absurd cc
conjunctions_makes (absolute x0 x1) e = let wrong : primaries ≡ conjunctions = e in absurd cc
conjunctions_makes (to_int x0 x1) e = let wrong : primaries ≡ conjunctions = e in absurd cc
conjunctions_makes (factorial x0 x1) e = let wrong : primaries ≡ conjunctions = e in absurd cc
conjunctions_makes (flatten x0 x1) e = let wrong : primaries ≡ conjunctions = e in absurd cc
conjunctions_makes (chain x0 x1) e = let wrong : sums ≡ conjunctions = e in absurd cc
conjunctions_makes (compare x0 x1 x2 x3) e = let wrong : comparisons ≡ conjunctions = e in absurd cc
conjunctions_makes (lex x0 x1 x2 x3) e = let wrong : comparisons ≡ conjunctions = e in absurd cc
conjunctions_makes (in_domain x0 x1 x2) e = let wrong : comparisons ≡ conjunctions = e in absurd cc
conjunctions_makes (in_set x0 x1 x2) e = let wrong : comparisons ≡ conjunctions = e in absurd cc
conjunctions_makes (any_of x0 x1) e = let wrong : disjunctions ≡ conjunctions = e in absurd cc
conjunctions_makes (quantified x0 x1 x2 x3 x4) e = let wrong : unaries ≡ conjunctions = e in absurd cc
conjunctions_makes (literal x0 x1 x2) e = let wrong : primaries ≡ conjunctions = e in absurd cc
conjunctions_makes (comprehension x0 x1 x2 x3 x4) e = let wrong : primaries ≡ conjunctions = e in absurd cc
conjunctions_makes (read x0 x1 x2) e = let wrong : reads ≡ conjunctions = e in absurd cc
conjunctions_makes (folded x0 x1 x2) e = let wrong : primaries ≡ conjunctions = e in absurd cc
conjunctions_makes (all_different x0 x1) e = let wrong : primaries ≡ conjunctions = e in absurd cc
conjunctions_makes (gcc x0 x1 x2 x3) e = let wrong : primaries ≡ conjunctions = e in absurd cc
conjunctions_makes (at_least x0 x1 x2 x3) e = let wrong : primaries ≡ conjunctions = e in absurd cc
conjunctions_makes (at_most x0 x1 x2 x3) e = let wrong : primaries ≡ conjunctions = e in absurd cc
conjunctions_makes (table x0 x1 x2) e = let wrong : primaries ≡ conjunctions = e in absurd cc
conjunctions_makes (binary x0 BinaryOp.Mul x1 x2) e = let wrong : products ≡ conjunctions = e in absurd cc
conjunctions_makes (binary x0 BinaryOp.Div x1 x2) e = let wrong : products ≡ conjunctions = e in absurd cc
conjunctions_makes (binary x0 BinaryOp.Mod x1 x2) e = let wrong : products ≡ conjunctions = e in absurd cc
conjunctions_makes (binary x0 BinaryOp.Pow x1 x2) e = let wrong : powers ≡ conjunctions = e in absurd cc
conjunctions_makes (binary x0 BinaryOp.Min x1 x2) e = let wrong : primaries ≡ conjunctions = e in absurd cc
conjunctions_makes (binary x0 BinaryOp.Max x1 x2) e = let wrong : primaries ≡ conjunctions = e in absurd cc
conjunctions_makes (binary x0 BinaryOp.Implies x1 x2) e = let wrong : implications ≡ conjunctions = e in absurd cc
conjunctions_makes (binary x0 BinaryOp.Iff x1 x2) e = let wrong : implications ≡ conjunctions = e in absurd cc

conjunctions_found : (p : Place) (ls : List Lexeme) → next_in (only_word (codes "/\\")) (lexeme p (a_word (codes "/\\")) ∷ ls) ≡ Some true
unfolding next_in looked_up
conjunctions_found p ls = refl

conjunctions_ends : (p : Place) (ls : List Lexeme) → Ends comparisons (lexeme p (a_word (codes "/\\")) ∷ ls)
unfolding next_in looked_up says
conjunctions_ends p ls = record { tighter = record { tighter = record { tighter = record { tighter = record { bracket = refl }; none = refl }; none = refl }; none = refl }; none = refl; no_set = refl; no_group = refl }

conjunctions_are : (less : ℕ) (low : Lower) (good : AreComplete less low) (ranked : nat_le (rank comparisons) (rank unaries) ≡ true)
    → IsPartsLevel less low good "/\\" comparisons ranked conjunctions_found conjunctions_ends conjunctions all_of
unfolding rank SpellsNode height ends_open place_of
conjunctions_are less low good ranked = record {
  only = conjunctions_only;
  makes = conjunctions_makes;
  node = λ p es front h. h;
  high = λ p es. refl;
  opens = λ p es. refl;
  at = λ p es. refl;
  loosen = λ ls h. h.tighter;
  none = λ ls h. h.none;
}

-- ---- disjunctions

disjunctions_only : (l : Level) → nat_le (rank disjunctions) (rank l) ≡ true → nat_le (rank conjunctions) (rank l) ≡ false → l ≡ disjunctions
unfolding rank
disjunctions_only implications h k = let wrong : false ≡ true = h in absurd cc
disjunctions_only disjunctions h k = refl
disjunctions_only conjunctions h k = let wrong : true ≡ false = k in absurd cc
disjunctions_only comparisons h k = let wrong : true ≡ false = k in absurd cc
disjunctions_only sums h k = let wrong : true ≡ false = k in absurd cc
disjunctions_only products h k = let wrong : true ≡ false = k in absurd cc
disjunctions_only powers h k = let wrong : true ≡ false = k in absurd cc
disjunctions_only unaries h k = let wrong : true ≡ false = k in absurd cc
disjunctions_only reads h k = let wrong : true ≡ false = k in absurd cc
disjunctions_only primaries h k = let wrong : true ≡ false = k in absurd cc

disjunctions_makes : (e : ExprTree) → own_level e ≡ disjunctions → (p : Place) × (es : ExprTrees) × (e ≡ any_of p es)
unfolding own_level binary_level
disjunctions_makes (any_of p es) e = (p, es, refl)
disjunctions_makes (number x0 x1) e = let wrong : primaries ≡ disjunctions = e in absurd cc
disjunctions_makes (truth x0 x1) e = let wrong : primaries ≡ disjunctions = e in absurd cc
disjunctions_makes (named x0 x1) e = let wrong : primaries ≡ disjunctions = e in absurd cc
disjunctions_makes (group x0 x1) e = let wrong : primaries ≡ disjunctions = e in absurd cc
disjunctions_makes (negation x0 x1) e = let wrong : unaries ≡ disjunctions = e in absurd cc
disjunctions_makes (minus x0 x1) e = let wrong : unaries ≡ disjunctions = e in absurd cc
disjunctions_makes (absolute x0 x1) e = let wrong : primaries ≡ disjunctions = e in absurd cc
disjunctions_makes (to_int x0 x1) e = let wrong : primaries ≡ disjunctions = e in absurd cc
disjunctions_makes (factorial x0 x1) e = let wrong : primaries ≡ disjunctions = e in absurd cc
disjunctions_makes (flatten x0 x1) e = let wrong : primaries ≡ disjunctions = e in absurd cc
disjunctions_makes (chain x0 x1) e = let wrong : sums ≡ disjunctions = e in absurd cc
disjunctions_makes (compare x0 x1 x2 x3) e = let wrong : comparisons ≡ disjunctions = e in absurd cc
disjunctions_makes (lex x0 x1 x2 x3) e = let wrong : comparisons ≡ disjunctions = e in absurd cc
disjunctions_makes (in_domain x0 x1 x2) e = let wrong : comparisons ≡ disjunctions = e in absurd cc
disjunctions_makes (in_set x0 x1 x2) e = let wrong : comparisons ≡ disjunctions = e in absurd cc
disjunctions_makes (all_of x0 x1) e = let wrong : conjunctions ≡ disjunctions = e in absurd cc
disjunctions_makes (quantified x0 x1 x2 x3 x4) e = let wrong : unaries ≡ disjunctions = e in absurd cc
disjunctions_makes (literal x0 x1 x2) e = let wrong : primaries ≡ disjunctions = e in absurd cc
disjunctions_makes (comprehension x0 x1 x2 x3 x4) e = let wrong : primaries ≡ disjunctions = e in absurd cc
disjunctions_makes (read x0 x1 x2) e = let wrong : reads ≡ disjunctions = e in absurd cc
disjunctions_makes (folded x0 x1 x2) e = let wrong : primaries ≡ disjunctions = e in absurd cc
disjunctions_makes (all_different x0 x1) e = let wrong : primaries ≡ disjunctions = e in absurd cc
disjunctions_makes (gcc x0 x1 x2 x3) e = let wrong : primaries ≡ disjunctions = e in absurd cc
disjunctions_makes (at_least x0 x1 x2 x3) e = let wrong : primaries ≡ disjunctions = e in absurd cc
disjunctions_makes (at_most x0 x1 x2 x3) e = let wrong : primaries ≡ disjunctions = e in absurd cc
disjunctions_makes (table x0 x1 x2) e = let wrong : primaries ≡ disjunctions = e in absurd cc
disjunctions_makes (binary x0 BinaryOp.Mul x1 x2) e = let wrong : products ≡ disjunctions = e in absurd cc
disjunctions_makes (binary x0 BinaryOp.Div x1 x2) e = let wrong : products ≡ disjunctions = e in absurd cc
disjunctions_makes (binary x0 BinaryOp.Mod x1 x2) e = let wrong : products ≡ disjunctions = e in absurd cc
disjunctions_makes (binary x0 BinaryOp.Pow x1 x2) e = let wrong : powers ≡ disjunctions = e in absurd cc
disjunctions_makes (binary x0 BinaryOp.Min x1 x2) e = let wrong : primaries ≡ disjunctions = e in absurd cc
disjunctions_makes (binary x0 BinaryOp.Max x1 x2) e = let wrong : primaries ≡ disjunctions = e in absurd cc
disjunctions_makes (binary x0 BinaryOp.Implies x1 x2) e = let wrong : implications ≡ disjunctions = e in absurd cc
disjunctions_makes (binary x0 BinaryOp.Iff x1 x2) e = let wrong : implications ≡ disjunctions = e in absurd cc

disjunctions_found : (p : Place) (ls : List Lexeme) → next_in (only_word (codes "\\/")) (lexeme p (a_word (codes "\\/")) ∷ ls) ≡ Some true
unfolding next_in looked_up
disjunctions_found p ls = refl

disjunctions_ends : (p : Place) (ls : List Lexeme) → Ends conjunctions (lexeme p (a_word (codes "\\/")) ∷ ls)
unfolding next_in looked_up says
disjunctions_ends p ls = record { tighter = record { tighter = record { tighter = record { tighter = record { tighter = record { bracket = refl }; none = refl }; none = refl }; none = refl }; none = refl; no_set = refl; no_group = refl }; none = refl }

disjunctions_are : (less : ℕ) (low : Lower) (good : AreComplete less low) (ranked : nat_le (rank conjunctions) (rank unaries) ≡ true)
    → IsPartsLevel less low good "\\/" conjunctions ranked disjunctions_found disjunctions_ends disjunctions any_of
unfolding rank SpellsNode height ends_open place_of
disjunctions_are less low good ranked = record {
  only = disjunctions_only;
  makes = disjunctions_makes;
  node = λ p es front h. h;
  high = λ p es. refl;
  opens = λ p es. refl;
  at = λ p es. refl;
  loosen = λ ls h. h.tighter;
  none = λ ls h. h.none;
}

module _ (less : ℕ) (low : Lower) (good : AreComplete less low)
    (comparison_again : (e : ExprTree) (front rest : List Lexeme) → Spells comparisons e front → height e ≤ suc less → EndsBefore comparisons e rest → comparison_from (suc less) low (front ++ rest) ≡ took e rest) where
  -- conjunctions are read again, where comparisons are
  pub conjunction_again : (e : ExprTree) (front rest : List Lexeme) → Spells conjunctions e front → height e ≤ suc less → EndsBefore conjunctions e rest → conjunction_from (suc less) low (front ++ rest) ≡ took e rest
  unfolding conjunction_from rank
  conjunction_again =
      parts_chain_again less low good "/\\" comparisons refl conjunctions_found conjunctions_ends conjunctions all_of (conjunctions_are less low good refl) (comparison_from (suc less) low) comparison_again

  -- disjunctions are read again, where comparisons are
  pub disjunction_again : (e : ExprTree) (front rest : List Lexeme) → Spells disjunctions e front → height e ≤ suc less → EndsBefore disjunctions e rest → disjunction_from (suc less) low (front ++ rest) ≡ took e rest
  unfolding disjunction_from rank
  disjunction_again =
      parts_chain_again less low good "\\/" conjunctions refl disjunctions_found disjunctions_ends disjunctions any_of (disjunctions_are less low good refl) (conjunction_from (suc less) low) conjunction_again
