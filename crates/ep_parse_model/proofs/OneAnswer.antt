-- A text has one answer at most, where some tokens spell one tree at most.
use Rattle.std.specs.Prelude.{◌≡◌, ℕ, suc, ◌<◌, ◌≤◌, Bool, true, false, nat_lt, List, [], ◌∷◌, length, take, Result, Ok, Err, refl}
use Rattle.std.proofs.Common.{ap, arith, sym, subst, ◌∙◌}
use Rattle.std.proofs.lemmas.Bool.Decides.{nat_tests}
use Rattle.std.proofs.lemmas.List.{append-nil}
use Rattle.ep_base.specs.Tokens.{BadByte, LongNumber, TokenFault, tokens_of}
use Rattle.ep_base.specs.declared.places.Place.{Place}
use Rattle.ep_base.specs.declared.tokens.Token.{Token}
use Rattle.ep_tree.proofs.FirstFault.{Begins-fewer, stops_once}
use Rattle.ep_tree.specs.Phrases.{Lexeme, Phrase, lexemes_of}
use Rattle.ep_tree.specs.Reading.{Begins, IsTextFault, IsTooHigh, Low, MOST_HEIGHT, ReadsWhole}
use Rattle.ep_tree.specs.Statements.{TextTree, text_height}
use Rattle.ep_tree.specs.Texts.{Answers, HasHeightFault, HasSyntaxFault, HasTokenFault, IsReadAs, TextAnswer, bad_byte, long_number, place_of_token, read_as, syntax_fault, too_high, too_long}

-- some tokens spell one tree at most
abbrev pub SpellsOne : (TextTree → Phrase) → Type 0
SpellsOne spells = (tree other : TextTree) (tokens : List Lexeme) → spells tree tokens → spells other tokens → tree ≡ other

take_all : (ls : List Lexeme) → take (length ls) ls ≡ ls
take_all [] = refl
take_all (l ∷ ls) = ap (λ x. l ∷ x) (take_all ls)

same_tokens : (text : List ℕ) (one other : List Token) → tokens_of text ≡ Ok one → tokens_of text ≡ Ok other → one ≡ other
same_tokens text one other h k = ap (λ r. or_one r) (sym h ∙ k)
  where
    or_one : Result (List Token) TokenFault → List Token
    or_one (Ok tokens) = tokens
    or_one (Err fault) = one

module _ (spells : TextTree → Phrase) where
  -- a tree that the tokens spell begins with each front of them
  begins_all : (trees : TextTree → Phrase) (ls : List Lexeme) (tree : TextTree) (n : ℕ) → trees tree ls → n < length ls → Begins trees (take (suc n) ls)
  begins_all trees ls tree n h lt =
      Begins-fewer trees ls (suc n) (length ls) (omega (arith, lt)) (tree, [], subst (λ x. trees tree x) (sym (append-nil (take (length ls) ls) ∙ take_all ls)) h)

  read_or_fault : (ls : List Lexeme) (tree : TextTree) (n : ℕ) → ReadsWhole spells MOST_HEIGHT ls tree → IsTextFault spells MOST_HEIGHT ls n → ⊥
  read_or_fault ls tree n r f = go (nat_lt n (length ls)) refl
    where
      go : (b : Bool) → nat_lt n (length ls) ≡ b → ⊥
      go true e = let lt : n < length ls = grind (arith, nat_tests) in f.no_higher.after lt (begins_all spells ls tree n r.spelled lt)
      go false e = let ge : length ls ≤ n = grind (arith, nat_tests) in f.incomplete (omega (arith, ge, f.stops.within)) tree r.spelled

  read_or_high : (ls : List Lexeme) (tree : TextTree) (n : ℕ) → ReadsWhole spells MOST_HEIGHT ls tree → IsTooHigh spells text_height MOST_HEIGHT ls n → ⊥
  read_or_high ls tree n r f = f.stops.after f.inside (begins_all (Low text_height MOST_HEIGHT spells) ls tree n (r.low, r.spelled) f.inside)

  fault_or_high : (ls : List Lexeme) (m n : ℕ) → IsTextFault spells MOST_HEIGHT ls m → IsTooHigh spells text_height MOST_HEIGHT ls n → ⊥
  fault_or_high ls m n f h =
      let same : m ≡ n = stops_once (Begins (Low text_height MOST_HEIGHT spells)) ls (Begins-fewer (Low text_height MOST_HEIGHT spells) ls) m n f.stops h.stops in
      f.no_higher.after (omega (arith, same, h.inside)) (subst (λ k. Begins spells (take (suc k) ls)) (sym same) h.higher)

  same_fault : (text : List ℕ) (p q : Place) → HasSyntaxFault spells text p → HasSyntaxFault spells text q → p ≡ q
  same_fault text p q h k =
      let tokens = same_tokens text h.tokens k.tokens h.found k.found in
      let other : IsTextFault spells MOST_HEIGHT (lexemes_of text h.tokens) k.number = subst (λ ts. IsTextFault spells MOST_HEIGHT (lexemes_of text ts) k.number) (sym tokens) k.fault in
      let number : h.number ≡ k.number = stops_once (Begins spells) (lexemes_of text h.tokens) (Begins-fewer spells (lexemes_of text h.tokens)) h.number k.number h.fault.no_higher other.no_higher in
      h.stands ∙ ap (λ n. place_of_token text h.tokens n) number ∙ ap (λ ts. place_of_token text ts k.number) tokens ∙ sym k.stands

  same_high : (text : List ℕ) (p q : Place) → HasHeightFault spells text p → HasHeightFault spells text q → p ≡ q
  same_high text p q h k =
      let low = Low text_height MOST_HEIGHT spells in
      let tokens = same_tokens text h.tokens k.tokens h.found k.found in
      let other : IsTooHigh spells text_height MOST_HEIGHT (lexemes_of text h.tokens) k.number = subst (λ ts. IsTooHigh spells text_height MOST_HEIGHT (lexemes_of text ts) k.number) (sym tokens) k.fault in
      let number : h.number ≡ k.number = stops_once (Begins low) (lexemes_of text h.tokens) (Begins-fewer low (lexemes_of text h.tokens)) h.number k.number h.fault.stops other.stops in
      h.stands ∙ ap (λ n. place_of_token text h.tokens n) number ∙ ap (λ ts. place_of_token text ts k.number) tokens ∙ sym k.stands

  read_fault : (text : List ℕ) (tree : TextTree) (p : Place) → IsReadAs spells text tree → HasSyntaxFault spells text p → ⊥
  read_fault text tree p h k =
      read_or_fault (lexemes_of text h.tokens) tree k.number h.reads (subst (λ ts. IsTextFault spells MOST_HEIGHT (lexemes_of text ts) k.number) (sym (same_tokens text h.tokens k.tokens h.found k.found)) k.fault)

  read_high : (text : List ℕ) (tree : TextTree) (p : Place) → IsReadAs spells text tree → HasHeightFault spells text p → ⊥
  read_high text tree p h k =
      read_or_high (lexemes_of text h.tokens) tree k.number h.reads (subst (λ ts. IsTooHigh spells text_height MOST_HEIGHT (lexemes_of text ts) k.number) (sym (same_tokens text h.tokens k.tokens h.found k.found)) k.fault)

  fault_high : (text : List ℕ) (p q : Place) → HasSyntaxFault spells text p → HasHeightFault spells text q → ⊥
  fault_high text p q h k =
      fault_or_high (lexemes_of text h.tokens) h.number k.number h.fault (subst (λ ts. IsTooHigh spells text_height MOST_HEIGHT (lexemes_of text ts) k.number) (sym (same_tokens text h.tokens k.tokens h.found k.found)) k.fault)

  same_tree : SpellsOne spells → (text : List ℕ) (tree other : TextTree) → IsReadAs spells text tree → IsReadAs spells text other → tree ≡ other
  same_tree one text tree other h k =
      one tree other (lexemes_of text h.tokens) h.reads.spelled (subst (λ ts. spells other (lexemes_of text ts)) (sym (same_tokens text h.tokens k.tokens h.found k.found)) k.reads.spelled)

  found_not : (text : List ℕ) (tokens : List Token) (fault : TokenFault) → tokens_of text ≡ Ok tokens → HasTokenFault text fault → ⊥
  found_not text tokens fault h k = let wrong : ◌≡◌ {A = Result (List Token) TokenFault} (Ok tokens) (Err fault) = sym h ∙ k.found in cc

  same_token_fault : (text : List ℕ) (one other : TokenFault) → HasTokenFault text one → HasTokenFault text other → one ≡ other
  same_token_fault text one other h k = ap (λ r. or_one r) (sym h.found ∙ k.found)
    where
      or_one : Result (List Token) TokenFault → TokenFault
      or_one (Ok tokens) = one
      or_one (Err fault) = fault

  place_in : Place → TokenFault → Place
  place_in d (BadByte p) = p
  place_in d (LongNumber p) = p

  -- a text has one answer at most
  pub one_answer : SpellsOne spells → (text : List ℕ) (a b : TextAnswer) → Answers spells text a → Answers spells text b → a ≡ b
  unfolding place_in
  one_answer one text (read_as x) (read_as x2) h k = ap read_as (same_tree one text x x2 h k)
  one_answer one text (read_as x) too_long h k = absurd (omega (arith, k, h.within))
  one_answer one text (read_as x) (bad_byte p2) h k = absurd (found_not text h.tokens (BadByte p2) h.found k)
  one_answer one text (read_as x) (long_number p2) h k = absurd (found_not text h.tokens (LongNumber p2) h.found k)
  one_answer one text (read_as x) (syntax_fault p2) h k = absurd (read_fault text x p2 h k)
  one_answer one text (read_as x) (too_high p2) h k = absurd (read_high text x p2 h k)
  one_answer one text too_long (read_as x2) h k = absurd (omega (arith, h, k.within))
  one_answer one text too_long too_long h k = refl
  one_answer one text too_long (bad_byte p2) h k = absurd (omega (arith, h, k.within))
  one_answer one text too_long (long_number p2) h k = absurd (omega (arith, h, k.within))
  one_answer one text too_long (syntax_fault p2) h k = absurd (omega (arith, h, k.within))
  one_answer one text too_long (too_high p2) h k = absurd (omega (arith, h, k.within))
  one_answer one text (bad_byte p) (read_as x2) h k = absurd (found_not text k.tokens (BadByte p) k.found h)
  one_answer one text (bad_byte p) too_long h k = absurd (omega (arith, k, h.within))
  one_answer one text (bad_byte p) (bad_byte p2) h k = ap (λ f. bad_byte (place_in p f)) (same_token_fault text (BadByte p) (BadByte p2) h k)
  one_answer one text (bad_byte p) (long_number p2) h k = let wrong : BadByte p ≡ LongNumber p2 = same_token_fault text (BadByte p) (LongNumber p2) h k in absurd cc
  one_answer one text (bad_byte p) (syntax_fault p2) h k = absurd (found_not text k.tokens (BadByte p) k.found h)
  one_answer one text (bad_byte p) (too_high p2) h k = absurd (found_not text k.tokens (BadByte p) k.found h)
  one_answer one text (long_number p) (read_as x2) h k = absurd (found_not text k.tokens (LongNumber p) k.found h)
  one_answer one text (long_number p) too_long h k = absurd (omega (arith, k, h.within))
  one_answer one text (long_number p) (bad_byte p2) h k = let wrong : LongNumber p ≡ BadByte p2 = same_token_fault text (LongNumber p) (BadByte p2) h k in absurd cc
  one_answer one text (long_number p) (long_number p2) h k = ap (λ f. long_number (place_in p f)) (same_token_fault text (LongNumber p) (LongNumber p2) h k)
  one_answer one text (long_number p) (syntax_fault p2) h k = absurd (found_not text k.tokens (LongNumber p) k.found h)
  one_answer one text (long_number p) (too_high p2) h k = absurd (found_not text k.tokens (LongNumber p) k.found h)
  one_answer one text (syntax_fault p) (read_as x2) h k = absurd (read_fault text x2 p k h)
  one_answer one text (syntax_fault p) too_long h k = absurd (omega (arith, k, h.within))
  one_answer one text (syntax_fault p) (bad_byte p2) h k = absurd (found_not text h.tokens (BadByte p2) h.found k)
  one_answer one text (syntax_fault p) (long_number p2) h k = absurd (found_not text h.tokens (LongNumber p2) h.found k)
  one_answer one text (syntax_fault p) (syntax_fault p2) h k = ap syntax_fault (same_fault text p p2 h k)
  one_answer one text (syntax_fault p) (too_high p2) h k = absurd (fault_high text p p2 h k)
  one_answer one text (too_high p) (read_as x2) h k = absurd (read_high text x2 p k h)
  one_answer one text (too_high p) too_long h k = absurd (omega (arith, k, h.within))
  one_answer one text (too_high p) (bad_byte p2) h k = absurd (found_not text h.tokens (BadByte p2) h.found k)
  one_answer one text (too_high p) (long_number p2) h k = absurd (found_not text h.tokens (LongNumber p2) h.found k)
  one_answer one text (too_high p) (syntax_fault p2) h k = absurd (fault_high text p2 p k h)
  one_answer one text (too_high p) (too_high p2) h k = ap too_high (same_high text p p2 h k)
