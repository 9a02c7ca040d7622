-- The levels whose chains nest to the left.
use Rattle.std.specs.Prelude.{◌≡◌, ℕ, suc, ◌≤◌, Bool, true, false, nat_le, List, ◌∷◌, ◌++◌, Some, codes, refl}
use Rattle.std.proofs.Common.{ap, sym, ◌∙◌}
use Rattle.ep_base.specs.declared.places.Place.{Place}
use Rattle.ep_tree.specs.Heights.{height}
use Rattle.ep_tree.specs.Phrases.{Lexeme, a_word}
use Rattle.ep_tree.specs.Spelling.{Level, Spells, binary_level, binary_word, comparisons, conjunctions, disjunctions, implications, is_called, own_level, powers, primaries, products, rank, reads, sums, tighter, unaries}
use Rattle.ep_tree.specs.Trees.{ExprTree, absolute, all_different, all_of, any_of, at_least, at_most, binary, chain, compare, comprehension, factorial, flatten, folded, gcc, group, in_domain, in_set, lex, literal, minus, named, negation, number, quantified, read, table, to_int, truth}
use Rattle.ep_tree.specs.declared.syntax.BinaryOp.{BinaryOp}
use Rattle.ep_parse_parts.specs.OperandReaders.{Lower}
use Rattle.ep_parse_parts.specs.OperatorReaders.{implication_words, implication_from, disjunction_from, power_from, power_words, product_from, product_words, unary_from}
use Rattle.ep_parse_parts.specs.Readers.{looked_up, next_in, says, took}
use Rattle.ep_parse_parts.proofs.Again.{AreComplete, Ends, EndsBefore, lexeme}
use Rattle.ep_parse_parts.proofs.AgainChains.{IsChainLevel, IsInfix, chain_again}

-- whether the chains of a level nest to the left
abbrev nests : Level → Bool
nests implications = true
nests products = true
nests powers = true
nests _ = false

no_chain : (l own : Level) → nests l ≡ false → l ≡ own → nests own ≡ true → ⊥
no_chain l own n e c = let wrong : false ≡ true = sym n ∙ ap nests e ∙ c in cc

uncalled : (op : BinaryOp) (own : Level) → binary_level op ≡ own → nests own ≡ true → is_called op ≡ false
unfolding binary_level is_called
uncalled BinaryOp.Mul own e c = refl
uncalled BinaryOp.Div own e c = refl
uncalled BinaryOp.Mod own e c = refl
uncalled BinaryOp.Pow own e c = refl
uncalled BinaryOp.Min own e c = absurd (no_chain primaries own refl e c)
uncalled BinaryOp.Max own e c = absurd (no_chain primaries own refl e c)
uncalled BinaryOp.Implies own e c = refl
uncalled BinaryOp.Iff own e c = refl

binaries_at : (own : Level) → nests own ≡ true → (e : ExprTree) → own_level e ≡ own
    → (p : Place) × (op : BinaryOp) × (a : ExprTree) × (b : ExprTree) × (e ≡ binary p op a b) × IsInfix own op
unfolding own_level
binaries_at own c (binary p op a b) e = (p, op, a, b, refl, (e, uncalled op own e c))
binaries_at own c (number x0 x1) e = absurd (no_chain primaries own refl e c)
binaries_at own c (truth x0 x1) e = absurd (no_chain primaries own refl e c)
binaries_at own c (named x0 x1) e = absurd (no_chain primaries own refl e c)
binaries_at own c (group x0 x1) e = absurd (no_chain primaries own refl e c)
binaries_at own c (negation x0 x1) e = absurd (no_chain unaries own refl e c)
binaries_at own c (minus x0 x1) e = absurd (no_chain unaries own refl e c)
binaries_at own c (absolute x0 x1) e = absurd (no_chain primaries own refl e c)
binaries_at own c (to_int x0 x1) e = absurd (no_chain primaries own refl e c)
binaries_at own c (factorial x0 x1) e = absurd (no_chain primaries own refl e c)
binaries_at own c (flatten x0 x1) e = absurd (no_chain primaries own refl e c)
binaries_at own c (chain x0 x1) e = absurd (no_chain sums own refl e c)
binaries_at own c (compare x0 x1 x2 x3) e = absurd (no_chain comparisons own refl e c)
binaries_at own c (lex x0 x1 x2 x3) e = absurd (no_chain comparisons own refl e c)
binaries_at own c (in_domain x0 x1 x2) e = absurd (no_chain comparisons own refl e c)
binaries_at own c (in_set x0 x1 x2) e = absurd (no_chain comparisons own refl e c)
binaries_at own c (all_of x0 x1) e = absurd (no_chain conjunctions own refl e c)
binaries_at own c (any_of x0 x1) e = absurd (no_chain disjunctions own refl e c)
binaries_at own c (quantified x0 x1 x2 x3 x4) e = absurd (no_chain unaries own refl e c)
binaries_at own c (literal x0 x1 x2) e = absurd (no_chain primaries own refl e c)
binaries_at own c (comprehension x0 x1 x2 x3 x4) e = absurd (no_chain primaries own refl e c)
binaries_at own c (read x0 x1 x2) e = absurd (no_chain reads own refl e c)
binaries_at own c (folded x0 x1 x2) e = absurd (no_chain primaries own refl e c)
binaries_at own c (all_different x0 x1) e = absurd (no_chain primaries own refl e c)
binaries_at own c (gcc x0 x1 x2 x3) e = absurd (no_chain primaries own refl e c)
binaries_at own c (at_least x0 x1 x2 x3) e = absurd (no_chain primaries own refl e c)
binaries_at own c (at_most x0 x1 x2 x3) e = absurd (no_chain primaries own refl e c)
binaries_at own c (table x0 x1 x2) e = absurd (no_chain primaries own refl e c)

-- ---- powers

powers_only : (l : Level) → nat_le (rank powers) (rank l) ≡ true → nat_le (rank unaries) (rank l) ≡ false → l ≡ powers
unfolding rank
powers_only implications h k = let wrong : false ≡ true = h in absurd cc
powers_only disjunctions h k = let wrong : false ≡ true = h in absurd cc
powers_only conjunctions h k = let wrong : false ≡ true = h in absurd cc
powers_only comparisons h k = let wrong : false ≡ true = h in absurd cc
powers_only sums h k = let wrong : false ≡ true = h in absurd cc
powers_only products h k = let wrong : false ≡ true = h in absurd cc
powers_only powers h k = refl
powers_only unaries h k = let wrong : true ≡ false = k in absurd cc
powers_only reads h k = let wrong : true ≡ false = k in absurd cc
powers_only primaries h k = let wrong : true ≡ false = k in absurd cc

powers_found : (op : BinaryOp) → IsInfix powers op → (p : Place) (ls : List Lexeme) → next_in power_words (lexeme p (a_word (codes (binary_word op))) ∷ ls) ≡ Some op
unfolding binary_level binary_word next_in looked_up
powers_found BinaryOp.Mul k p ls = let wrong : products ≡ powers = k.0 in absurd cc
powers_found BinaryOp.Div k p ls = let wrong : products ≡ powers = k.0 in absurd cc
powers_found BinaryOp.Mod k p ls = let wrong : products ≡ powers = k.0 in absurd cc
powers_found BinaryOp.Pow k p ls = refl
powers_found BinaryOp.Min k p ls = let wrong : primaries ≡ powers = k.0 in absurd cc
powers_found BinaryOp.Max k p ls = let wrong : primaries ≡ powers = k.0 in absurd cc
powers_found BinaryOp.Implies k p ls = let wrong : implications ≡ powers = k.0 in absurd cc
powers_found BinaryOp.Iff k p ls = let wrong : implications ≡ powers = k.0 in absurd cc

powers_ends : (op : BinaryOp) → IsInfix powers op → (p : Place) (ls : List Lexeme) → Ends unaries (lexeme p (a_word (codes (binary_word op))) ∷ ls)
unfolding binary_level binary_word next_in looked_up says
powers_ends BinaryOp.Mul k p ls = let wrong : products ≡ powers = k.0 in absurd cc
powers_ends BinaryOp.Div k p ls = let wrong : products ≡ powers = k.0 in absurd cc
powers_ends BinaryOp.Mod k p ls = let wrong : products ≡ powers = k.0 in absurd cc
powers_ends BinaryOp.Pow k p ls = record { bracket = refl }
powers_ends BinaryOp.Min k p ls = let wrong : primaries ≡ powers = k.0 in absurd cc
powers_ends BinaryOp.Max k p ls = let wrong : primaries ≡ powers = k.0 in absurd cc
powers_ends BinaryOp.Implies k p ls = let wrong : implications ≡ powers = k.0 in absurd cc
powers_ends BinaryOp.Iff k p ls = let wrong : implications ≡ powers = k.0 in absurd cc

pub are_powers : IsChainLevel powers unaries power_words
unfolding tighter rank
are_powers = record {
  next = refl;
  ranked = refl;
  only = powers_only;
  binaries = binaries_at powers refl;
  found = powers_found;
  ends = powers_ends;
  loosen = λ ls h. h.tighter;
  none = λ ls h. h.none;
}

-- ---- products

products_only : (l : Level) → nat_le (rank products) (rank l) ≡ true → nat_le (rank powers) (rank l) ≡ false → l ≡ products
unfolding rank
products_only implications h k = let wrong : false ≡ true = h in absurd cc
products_only disjunctions h k = let wrong : false ≡ true = h in absurd cc
products_only conjunctions h k = let wrong : false ≡ true = h in absurd cc
products_only comparisons h k = let wrong : false ≡ true = h in absurd cc
products_only sums h k = let wrong : false ≡ true = h in absurd cc
products_only products h k = refl
products_only powers h k = let wrong : true ≡ false = k in absurd cc
products_only unaries h k = let wrong : true ≡ false = k in absurd cc
products_only reads h k = let wrong : true ≡ false = k in absurd cc
products_only primaries h k = let wrong : true ≡ false = k in absurd cc

products_found : (op : BinaryOp) → IsInfix products op → (p : Place) (ls : List Lexeme) → next_in product_words (lexeme p (a_word (codes (binary_word op))) ∷ ls) ≡ Some op
unfolding binary_level binary_word next_in looked_up
products_found BinaryOp.Mul k p ls = refl
products_found BinaryOp.Div k p ls = refl
products_found BinaryOp.Mod k p ls = refl
products_found BinaryOp.Pow k p ls = let wrong : powers ≡ products = k.0 in absurd cc
products_found BinaryOp.Min k p ls = let wrong : primaries ≡ products = k.0 in absurd cc
products_found BinaryOp.Max k p ls = let wrong : primaries ≡ products = k.0 in absurd cc
products_found BinaryOp.Implies k p ls = let wrong : implications ≡ products = k.0 in absurd cc
products_found BinaryOp.Iff k p ls = let wrong : implications ≡ products = k.0 in absurd cc

products_ends : (op : BinaryOp) → IsInfix products op → (p : Place) (ls : List Lexeme) → Ends powers (lexeme p (a_word (codes (binary_word op))) ∷ ls)
unfolding binary_level binary_word next_in looked_up says
products_ends BinaryOp.Mul k p ls = record { tighter = record { bracket = refl }; none = refl }
products_ends BinaryOp.Div k p ls = record { tighter = record { bracket = refl }; none = refl }
products_ends BinaryOp.Mod k p ls = record { tighter = record { bracket = refl }; none = refl }
products_ends BinaryOp.Pow k p ls = let wrong : powers ≡ products = k.0 in absurd cc
products_ends BinaryOp.Min k p ls = let wrong : primaries ≡ products = k.0 in absurd cc
products_ends BinaryOp.Max k p ls = let wrong : primaries ≡ products = k.0 in absurd cc
products_ends BinaryOp.Implies k p ls = let wrong : implications ≡ products = k.0 in absurd cc
products_ends BinaryOp.Iff k p ls = let wrong : implications ≡ products = k.0 in absurd cc

pub are_products : IsChainLevel products powers product_words
unfolding tighter rank
are_products = record {
  next = refl;
  ranked = refl;
  only = products_only;
  binaries = binaries_at products refl;
  found = products_found;
  ends = products_ends;
  loosen = λ ls h. h.tighter;
  none = λ ls h. h.none;
}

-- ---- implications

implications_only : (l : Level) → nat_le (rank implications) (rank l) ≡ true → nat_le (rank disjunctions) (rank l) ≡ false → l ≡ implications
unfolding rank
implications_only implications h k = refl
implications_only disjunctions h k = let wrong : true ≡ false = k in absurd cc
implications_only conjunctions h k = let wrong : true ≡ false = k in absurd cc
implications_only comparisons h k = let wrong : true ≡ false = k in absurd cc
implications_only sums h k = let wrong : true ≡ false = k in absurd cc
implications_only products h k = let wrong : true ≡ false = k in absurd cc
implications_only powers h k = let wrong : true ≡ false = k in absurd cc
implications_only unaries h k = let wrong : true ≡ false = k in absurd cc
implications_only reads h k = let wrong : true ≡ false = k in absurd cc
implications_only primaries h k = let wrong : true ≡ false = k in absurd cc

implications_found : (op : BinaryOp) → IsInfix implications op → (p : Place) (ls : List Lexeme) → next_in implication_words (lexeme p (a_word (codes (binary_word op))) ∷ ls) ≡ Some op
unfolding binary_level binary_word next_in looked_up
implications_found BinaryOp.Mul k p ls = let wrong : products ≡ implications = k.0 in absurd cc
implications_found BinaryOp.Div k p ls = let wrong : products ≡ implications = k.0 in absurd cc
implications_found BinaryOp.Mod k p ls = let wrong : products ≡ implications = k.0 in absurd cc
implications_found BinaryOp.Pow k p ls = let wrong : powers ≡ implications = k.0 in absurd cc
implications_found BinaryOp.Min k p ls = let wrong : primaries ≡ implications = k.0 in absurd cc
implications_found BinaryOp.Max k p ls = let wrong : primaries ≡ implications = k.0 in absurd cc
implications_found BinaryOp.Implies k p ls = refl
implications_found BinaryOp.Iff k p ls = refl

implications_ends : (op : BinaryOp) → IsInfix implications op → (p : Place) (ls : List Lexeme) → Ends disjunctions (lexeme p (a_word (codes (binary_word op))) ∷ ls)
unfolding binary_level binary_word next_in looked_up says
implications_ends BinaryOp.Mul k p ls = let wrong : products ≡ implications = k.0 in absurd cc
implications_ends BinaryOp.Div k p ls = let wrong : products ≡ implications = k.0 in absurd cc
implications_ends BinaryOp.Mod k p ls = let wrong : products ≡ implications = k.0 in absurd cc
implications_ends BinaryOp.Pow k p ls = let wrong : powers ≡ implications = k.0 in absurd cc
implications_ends BinaryOp.Min k p ls = let wrong : primaries ≡ implications = k.0 in absurd cc
implications_ends BinaryOp.Max k p ls = let wrong : primaries ≡ implications = k.0 in absurd cc
implications_ends BinaryOp.Implies k p ls = record { tighter = record { tighter = record { tighter = record { tighter = record { tighter = record { tighter = record { bracket = refl }; none = refl }; none = refl }; none = refl }; none = refl; no_set = refl; no_group = refl }; none = refl }; none = refl }
implications_ends BinaryOp.Iff k p ls = record { tighter = record { tighter = record { tighter = record { tighter = record { tighter = record { tighter = record { bracket = refl }; none = refl }; none = refl }; none = refl }; none = refl; no_set = refl; no_group = refl }; none = refl }; none = refl }

pub are_implications : IsChainLevel implications disjunctions implication_words
unfolding tighter rank
are_implications = record {
  next = refl;
  ranked = refl;
  only = implications_only;
  binaries = binaries_at implications refl;
  found = implications_found;
  ends = implications_ends;
  loosen = λ ls h. h.tighter;
  none = λ ls h. h.none;
}

module _ (less : ℕ) (low : Lower) (good : AreComplete less low)
    (unary_again : (e : ExprTree) (front rest : List Lexeme) → Spells unaries e front → height e ≤ suc less → EndsBefore unaries e rest → unary_from (suc less) low (front ++ rest) ≡ took e rest) where
  -- powers are read again, where operands are
  pub power_again : (e : ExprTree) (front rest : List Lexeme) → Spells powers e front → height e ≤ suc less → EndsBefore powers e rest → power_from (suc less) low (front ++ rest) ≡ took e rest
  unfolding power_from
  power_again = chain_again less low good powers unaries power_words are_powers (unary_from (suc less) low) unary_again

  -- products are read again, where operands are
  pub product_again : (e : ExprTree) (front rest : List Lexeme) → Spells products e front → height e ≤ suc less → EndsBefore products e rest → product_from (suc less) low (front ++ rest) ≡ took e rest
  unfolding product_from
  product_again = chain_again less low good products powers product_words are_products (power_from (suc less) low) power_again

-- implications are read again, where disjunctions are
pub implication_again : (less : ℕ) (low : Lower) → AreComplete less low
    → ((e : ExprTree) (front rest : List Lexeme) → Spells disjunctions e front → height e ≤ suc less → EndsBefore disjunctions e rest → disjunction_from (suc less) low (front ++ rest) ≡ took e rest)
    → (e : ExprTree) (front rest : List Lexeme) → Spells implications e front → height e ≤ suc less → EndsBefore implications e rest → implication_from (suc less) low (front ++ rest) ≡ took e rest
unfolding implication_from
implication_again less low good disjunction_again = chain_again less low good implications disjunctions implication_words are_implications (disjunction_from (suc less) low) disjunction_again
