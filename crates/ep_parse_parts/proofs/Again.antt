-- What is spelled is read again: words, lists that grow, and what may not follow.
use Rattle.std.specs.Prelude.{◌≡◌, ℕ, zero, suc, ◌≤◌, ◌<◌, Bool, true, false, nat_le, nat_lt, List, [], ◌∷◌, ◌++◌, length, Option, Some, None, bytes_eq, codes, refl}
use Rattle.std.proofs.Common.{ap, arith, sym, ◌∙◌, append_assoc}
use Rattle.std.proofs.lemmas.Bool.Decides.{nat_tests}
use Rattle.std.proofs.lemmas.Slice.Eq.{bytes_eq-Decides}
use Rattle.ep_base.specs.declared.places.Place.{Place}
use Rattle.ep_tree.specs.Heights.{domain_height, height}
use Rattle.ep_tree.specs.Phrases.{Is, Lexeme, Phrase, Saying, StartsAt, a_word, ◌followed_by◌}
use Rattle.ep_tree.specs.Spelling.{DomainLevel, Level, Spells, SpellsDomain, comparisons, conjunctions, disjunctions, domains, ends_open, implications, powers, primaries, products, rank, reads, set_operations, set_parts, sums, unaries}
use Rattle.ep_tree.specs.Trees.{DomainTree, ExprTree}
use Rattle.ep_parse_parts.specs.DomainReaders.{set_words}
use Rattle.ep_parse_parts.specs.OperandReaders.{Lower}
use Rattle.ep_parse_parts.specs.OperatorReaders.{comparison_words, implication_words, only_word, power_words, product_words, sign_words}
use Rattle.ep_parse_parts.specs.Readers.{Read, either_reader, grown, grown_from, growing, next_in, says, took, word_from, wrong, ◌and_then◌}

-- a token that says this, at a place
abbrev pub lexeme : Place → Saying → Lexeme
lexeme p s = record { place = p; saying = s }

-- ---- what may not follow

-- no word follows by which an expression at a level would go on
pub record NoReads (ls : List Lexeme) : Type 0 where
  pub bracket : says (codes "[") ls ≡ false

pub record NoPowers (ls : List Lexeme) : Type 0 where
  pub tighter : NoReads ls
  pub none : next_in power_words ls ≡ None

pub record NoProducts (ls : List Lexeme) : Type 0 where
  pub tighter : NoPowers ls
  pub none : next_in product_words ls ≡ None

pub record NoSums (ls : List Lexeme) : Type 0 where
  pub tighter : NoProducts ls
  pub none : next_in sign_words ls ≡ None

pub record NoComparisons (ls : List Lexeme) : Type 0 where
  pub tighter : NoSums ls
  pub none : next_in comparison_words ls ≡ None
  pub no_set : next_in set_words ls ≡ None
  pub no_group : says (codes "(") ls ≡ false

pub record NoConjunctions (ls : List Lexeme) : Type 0 where
  pub tighter : NoComparisons ls
  pub none : next_in (only_word (codes "/\\")) ls ≡ None

pub record NoDisjunctions (ls : List Lexeme) : Type 0 where
  pub tighter : NoConjunctions ls
  pub none : next_in (only_word (codes "\\/")) ls ≡ None

pub record NoImplications (ls : List Lexeme) : Type 0 where
  pub tighter : NoDisjunctions ls
  pub none : next_in implication_words ls ≡ None

-- an expression that stands at a level ends before these tokens
abbrev pub Ends : Level → List Lexeme → Type 0
Ends implications = NoImplications
Ends disjunctions = NoDisjunctions
Ends conjunctions = NoConjunctions
Ends comparisons = NoComparisons
Ends sums = NoSums
Ends products = NoProducts
Ends powers = NoPowers
Ends unaries = NoReads
Ends reads = NoReads
Ends primaries = NoReads

-- the same of an expression that may end in a bare quantifier, whose body would take any operator
pub record EndsBefore (level : Level) (e : ExprTree) (ls : List Lexeme) : Type 0 where
  pub ends : Ends level ls
  pub open_ends : ends_open e ≡ true → NoImplications ls

-- a domain ends before these tokens
pub record DomainEnds (ls : List Lexeme) : Type 0 where
  pub none : next_in set_words ls ≡ None
  pub no_group : says (codes "(") ls ≡ false

-- A domain that stands at a level ends before these tokens: behind a part of an operation another operation may come.
abbrev pub DomainEndsAt : DomainLevel → List Lexeme → Type 0
DomainEndsAt domains ls = DomainEnds ls
DomainEndsAt set_operations ls = DomainEnds ls
DomainEndsAt set_parts ls = says (codes "(") ls ≡ false

-- What is spelled low enough is read again by readers of lower trees.
pub record AreComplete (less : ℕ) (low : Lower) : Type 0 where
  pub expr : (level : Level) → nat_le (rank level) (rank unaries) ≡ true → (e : ExprTree) (front rest : List Lexeme) → Spells level e front → height e ≤ less
      → EndsBefore level e rest → low.expr level (front ++ rest) ≡ took e rest
  pub domain : (level : DomainLevel) (d : DomainTree) (front rest : List Lexeme) → SpellsDomain level d front → domain_height d ≤ less
      → DomainEndsAt level rest → low.domain level (front ++ rest) ≡ took d rest

-- ---- cutting

-- a word and a phrase behind it
pub record Behind (w : List ℕ) (phrase : Phrase) (ls : List Lexeme) : Type 0 where
  pub place : Place
  pub rest : List Lexeme
  pub parts : ls ≡ lexeme place (a_word w) ∷ rest
  pub spelled : phrase rest

pub behind_word_cut : (w : List ℕ) (phrase : Phrase) (ls : List Lexeme) → (Is (a_word w) followed_by phrase) ls → Behind w phrase ls
behind_word_cut w phrase ls h = record { place = h.3.0; rest = h.1; parts = h.2 ∙ ap (λ x. x ++ h.1) h.3.1; spelled = h.4 }

-- a phrase, a word and another phrase
pub record Around (a : Phrase) (w : List ℕ) (b : Phrase) (ls : List Lexeme) : Type 0 where
  pub front : List Lexeme
  pub place : Place
  pub back : List Lexeme
  pub parts : ls ≡ front ++ lexeme place (a_word w) ∷ back
  pub first : a front
  pub second : b back

pub around_cut : (a : Phrase) (w : List ℕ) (b : Phrase) (ls : List Lexeme) → (a followed_by Is (a_word w) followed_by b) ls → Around a w b ls
around_cut a w b ls h =
    let c = behind_word_cut w b h.1 h.4 in
    record { front = h.0; place = c.place; back = c.rest; parts = h.2 ∙ ap (λ x. h.0 ++ x) c.parts; first = h.3; second = c.spelled }

-- tokens behind the tokens of an infix form
pub around_rest : (front back rest ls : List Lexeme) (t : Lexeme) → ls ≡ front ++ t ∷ back → ls ++ rest ≡ front ++ t ∷ (back ++ rest)
around_rest front back rest ls t e = ap (λ x. x ++ rest) e ∙ append_assoc front (t ∷ back) rest

-- a list begins at one place
pub same_place : (p q : Place) (xs ys : List Lexeme) → StartsAt q xs → StartsAt p (xs ++ ys) → q ≡ p
same_place p q [] ys h g = absurd h
same_place p q (x ∷ xs) ys h g = sym h ∙ g

-- a word is read again
pub word_again : (w : List ℕ) (p : Place) (ls : List Lexeme) → word_from w (lexeme p (a_word w) ∷ ls) ≡ took p ls
unfolding word_from
word_again w p ls = go (bytes_eq w w) ((bytes_eq-Decides w w).1 refl)
  where
    go : (b : Bool) → b ≡ true → either_reader b (λ all. took p ls) (λ all. wrong all) (lexeme p (a_word w) ∷ ls) ≡ took p ls
    go true e = refl
    go false e = absurd cc

-- ---- what grows

-- what was read has grown to this, and may grow on as far as there are tokens
pub record GrownTo {A : Type 0} (step : A → List Lexeme → Option (Read A)) (r : Read A) (x : A) (ls : List Lexeme) : Type 0 where
  pub steps : ℕ
  pub enough : length ls ≤ steps
  pub is : r ≡ grown_from step steps x ls

module _ {A : Type 0} (step : A → List Lexeme → Option (Read A)) where
  pub grown_start : (r : Read A) (x : A) (ls : List Lexeme) → r ≡ took x ls → GrownTo step (r and_then grown step) x ls
  grown_start r x ls e = record { steps = length ls; enough = omega arith; is = ap (λ q. q and_then grown step) e }

  once : (n : ℕ) (x y : A) (ls rest : List Lexeme) → step x ls ≡ Some (took y rest) → grown_from step (suc n) x ls ≡ grown_from step n y rest
  unfolding grown_from
  once n x y ls rest e = ap (λ o. growing o x ls (grown_from step n)) e

  pub grown_more : (r : Read A) (x y : A) (ls rest : List Lexeme) → GrownTo step r x ls → step x ls ≡ Some (took y rest) → length rest < length ls → GrownTo step r y rest
  grown_more r x y ls rest g e shorter = go g.steps refl
    where
      go : (n : ℕ) → g.steps ≡ n → GrownTo step r y rest
      go zero k = absurd (omega (arith, k, g.enough, shorter))
      go (suc n) k = record { steps = n; enough = omega (arith, k, g.enough, shorter); is = g.is ∙ ap (λ m. grown_from step m x ls) k ∙ once n x y ls rest e }

  ended : (n : ℕ) (x : A) (ls : List Lexeme) → step x ls ≡ None → grown_from step n x ls ≡ took x ls
  unfolding grown_from
  ended zero x ls e = refl
  ended (suc n) x ls e = ap (λ o. growing o x ls (grown_from step n)) e

  pub grown_end : (r : Read A) (x : A) (ls : List Lexeme) → GrownTo step r x ls → step x ls ≡ None → r ≡ took x ls
  grown_end r x ls g e = g.is ∙ ended g.steps x ls e

pub below_again : (m n : ℕ) → m ≤ n → nat_lt m (suc n) ≡ true
below_again m n h = grind (arith, nat_tests)
