-- Looking ahead, from what is next.
use Rattle.std.specs.Prelude.{◌≡◌, ◌≤◌, ◌<◌, ◌&&◌, length, ℕ, ℤ, Bool, true, false, List, [], ◌∷◌, Option, Some, None, codes, refl}
use Rattle.std.proofs.Common.{ap, arith, sym, ◌∙◌}
use Rattle.ep_parse_parts.proofs.NameTurns.{behind_short, passed}
use Rattle.std.proofs.Common.{Bor, is_some, option_map}
use Rattle.std.specs.Option.{option_copied}
use Rattle.ep_parse_parts.specs.Cursors.{passing}
use Rattle.ep_parse_parts.specs.OperandReaders.{Opening, colon_comes, colon_or, expression_next, is_there, openings}
use Rattle.ep_parse_parts.specs.Readers.{behind, says_word, looked_up, says}
use Rattle.ep_parse_parts.specs.Sayings.{name_next, name_of, said_number_next, said_number, word_next, word_of}
use Rattle.ep_tree.specs.Phrases.{Lexeme, Saying, a_name, a_number, a_word}

-- what an expression begins with
pub name_begins : (ls : List Lexeme) (x : List ℕ) → name_next ls ≡ Some x → expression_next ls ≡ true
unfolding name_next expression_next
name_begins [] x e = absurd cc
name_begins (l ∷ ls) x e = by_saying l.saying e
  where
    by_saying : (s : Saying) → name_of s ≡ Some x → Rattle.ep_parse_parts.specs.OperandReaders.opens s ≡ true
    by_saying (a_name y) e = refl
    by_saying (a_number n) e = absurd cc
    by_saying (a_word w) e = absurd cc

pub number_begins : (ls : List Lexeme) (n : ℤ) → said_number_next ls ≡ Some n → expression_next ls ≡ true
unfolding said_number_next expression_next
number_begins [] n e = absurd cc
number_begins (l ∷ ls) n e = by_saying l.saying e
  where
    by_saying : (s : Saying) → said_number s ≡ Some n → Rattle.ep_parse_parts.specs.OperandReaders.opens s ≡ true
    by_saying (a_name y) e = absurd cc
    by_saying (a_number n) e = refl
    by_saying (a_word w) e = absurd cc

pub word_begins : (ls : List Lexeme) (w : List ℕ) → word_next ls ≡ Some w → expression_next ls ≡ is_there (looked_up openings w)
unfolding word_next expression_next
word_begins [] w e = absurd cc
word_begins (l ∷ ls) w e = by_saying l.saying e
  where
    by_saying : (s : Saying) → word_of s ≡ Some w → Rattle.ep_parse_parts.specs.OperandReaders.opens s ≡ is_there (looked_up openings w)
    by_saying (a_name y) e = absurd cc
    by_saying (a_number n) e = absurd cc
    by_saying (a_word v) e = ap (λ o. there o) e
      where
        there : Option (List ℕ) → Bool
        there None = false
        there (Some u) = is_there (looked_up openings u)

pub nothing_begins : (ls : List Lexeme) → name_next ls ≡ None → said_number_next ls ≡ None → word_next ls ≡ None → expression_next ls ≡ false
unfolding name_next said_number_next word_next expression_next
nothing_begins [] a b c = refl
nothing_begins (l ∷ ls) a b c = by_saying l.saying a b c
  where
    by_saying : (s : Saying) → name_of s ≡ None → said_number s ≡ None → word_of s ≡ None → Rattle.ep_parse_parts.specs.OperandReaders.opens s ≡ false
    by_saying (a_name y) a b c = absurd cc
    by_saying (a_number n) a b c = absurd cc
    by_saying (a_word v) a b c = absurd cc

-- the same by what a look-ahead tells
pub is_named : (o : Option (Bor (List ℕ))) (ls : List Lexeme) → option_copied o ≡ name_next ls → true ≡ is_some o → true ≡ expression_next ls
is_named None ls e t = absurd cc
is_named (Some x) ls e t = sym (name_begins ls x.now (sym e))

pub is_numbered : (o : Option ℤ) (ls : List Lexeme) → o ≡ said_number_next ls → true ≡ is_some o → true ≡ expression_next ls
is_numbered None ls e t = absurd cc
is_numbered (Some n) ls e t = sym (number_begins ls n (sym e))

is_there-is_some : {A B : Type 0} (f : A → B) (o : Option A) → is_there (option_map f o) ≡ is_some o
is_there-is_some f None = refl
is_there-is_some f (Some x) = refl

pub is_worded : {A : Type 0} (f : A → Opening) (found : Option A) (o : Option (Bor (List ℕ))) (w : Bor (List ℕ)) (ls : List Lexeme) → option_copied o ≡ word_next ls → o ≡ Some w
    → option_map f found ≡ looked_up openings w.now → is_some found ≡ expression_next ls
is_worded f found o w ls e s m =
    sym (word_begins ls w.now (sym e ∙ ap option_copied s) ∙ ap is_there (sym m) ∙ is_there-is_some f found)

pub is_nothing : (o : Option (Bor (List ℕ))) (n : Option ℤ) (w : Option (Bor (List ℕ))) (ls : List Lexeme) → option_copied o ≡ name_next ls → false ≡ is_some o → n ≡ said_number_next ls → false ≡ is_some n
    → option_copied w ≡ word_next ls → w ≡ None → false ≡ expression_next ls
is_nothing None None w ls a x b y c z = sym (nothing_begins ls (sym a) (sym b) (sym c ∙ ap option_copied z))
is_nothing (Some o) n w ls a x b y c z = absurd cc
is_nothing None (Some n) w ls a x b y c z = absurd cc

pub un_named : (o : Option (Bor (List ℕ))) (ls : List Lexeme) → option_copied o ≡ name_next ls → is_some o ≡ false → name_next ls ≡ None
un_named None ls e t = sym e
un_named (Some x) ls e t = absurd cc

-- ---- a colon behind names

comes_name : (ls : List Lexeme) (x : List ℕ) → name_next ls ≡ Some x → colon_comes true ls ≡ colon_comes false (behind ls)
unfolding name_next colon_comes
comes_name [] x e = absurd cc
comes_name (l ∷ ls) x e = by_saying l.saying e
  where
    by_saying : (s : Saying) → name_of s ≡ Some x → (Rattle.ep_parse_parts.specs.OperandReaders.says_name s && colon_comes false ls) ≡ colon_comes false ls
    by_saying (a_name y) e = refl
    by_saying (a_number n) e = absurd cc
    by_saying (a_word w) e = absurd cc

-- no name: no colon
pub comes_not : (ls : List Lexeme) → name_next ls ≡ None → colon_comes true ls ≡ false
unfolding name_next colon_comes
comes_not [] e = refl
comes_not (l ∷ ls) e = by_saying l.saying e
  where
    by_saying : (s : Saying) → name_of s ≡ None → (Rattle.ep_parse_parts.specs.OperandReaders.says_name s && colon_comes false ls) ≡ false
    by_saying (a_name y) e = absurd cc
    by_saying (a_number n) e = refl
    by_saying (a_word w) e = refl

behind_colon : (ls : List Lexeme) → says (codes ":") ls ≡ true → colon_comes false ls ≡ true
unfolding colon_comes says
behind_colon [] e = absurd cc
behind_colon (l ∷ ls) e = ap (λ b. colon_or b (says_word (codes ",") l.saying) (colon_comes true ls)) e

behind_neither : (ls : List Lexeme) → says (codes ":") ls ≡ false → says (codes ",") ls ≡ false → colon_comes false ls ≡ false
unfolding colon_comes says
behind_neither [] e f = refl
behind_neither (l ∷ ls) e f = ap (λ b. colon_or b (says_word (codes ",") l.saying) (colon_comes true ls)) e ∙ ap (λ b. colon_or false b (colon_comes true ls)) f

behind_comma_comes : (ls : List Lexeme) → says (codes ":") ls ≡ false → says (codes ",") ls ≡ true → colon_comes false ls ≡ colon_comes true (behind ls)
unfolding colon_comes says
behind_comma_comes [] e f = absurd cc
behind_comma_comes (l ∷ ls) e f = ap (λ b. colon_or b (says_word (codes ",") l.saying) (colon_comes true ls)) e ∙ ap (λ b. colon_or false b (colon_comes true ls)) f

-- a name, and then a colon
pub comes_now : (ls next : List Lexeme) (x : List ℕ) → name_next ls ≡ Some x → next ≡ behind ls → true ≡ says (codes ":") next → colon_comes true ls ≡ true
comes_now ls next x e b f = comes_name ls x e ∙ ap (colon_comes false) (sym b) ∙ behind_colon next (sym f)

-- a name, and then neither a colon nor a comma
pub comes_never : (ls next end : List Lexeme) (x : List ℕ) → name_next ls ≡ Some x → next ≡ behind ls → false ≡ says (codes ":") next → (false, end) ≡ passing (codes ",") next → colon_comes true ls ≡ false
comes_never ls next end x e b f p = comes_name ls x e ∙ ap (colon_comes false) (sym b) ∙ behind_neither next (sym f) (passed false end next p).0

-- a name and a comma
pub comes_on : (ls next end : List Lexeme) (x : List ℕ) → name_next ls ≡ Some x → next ≡ behind ls → false ≡ says (codes ":") next → (true, end) ≡ passing (codes ",") next → colon_comes true ls ≡ colon_comes true end
comes_on ls next end x e b f p =
    let q = passed true end next p in
    comes_name ls x e ∙ ap (colon_comes false) (sym b) ∙ behind_comma_comes next (sym f) q.0 ∙ ap (colon_comes true) (sym q.1)

named_length : (ls : List Lexeme) (x : List ℕ) → name_next ls ≡ Some x → length (behind ls) < length ls
unfolding name_next
named_length [] x e = absurd cc
named_length (l ∷ ls) x e = omega arith

pub comes_smaller : (ls next end : List Lexeme) (x : List ℕ) → name_next ls ≡ Some x → next ≡ behind ls → (true, end) ≡ passing (codes ",") next → length end < length ls
comes_smaller ls next end x e b p =
    let q = passed true end next p in
    let one : length end ≡ length (behind next) = ap length q.1 in
    let two : length next ≡ length (behind ls) = ap length b in
    omega (arith, one, two, behind_short next, named_length ls x e)

-- ---- the same by what a look-ahead tells

some_named : (o : Option (Bor (List ℕ))) (ls : List Lexeme) → option_copied o ≡ name_next ls → is_some o ≡ true → (x : List ℕ) × (name_next ls ≡ Some x)
some_named None ls e t = absurd cc
some_named (Some x) ls e t = (x.now, sym e)

pub told_now : (o : Option (Bor (List ℕ))) (ls next : List Lexeme) → option_copied o ≡ name_next ls → is_some o ≡ true → next ≡ behind ls → true ≡ says (codes ":") next → true ≡ colon_comes true ls
told_now o ls next e t b f = let x = some_named o ls e t in sym (comes_now ls next x.0 x.1 b f)

pub told_never : (o : Option (Bor (List ℕ))) (ls next end : List Lexeme) → option_copied o ≡ name_next ls → is_some o ≡ true → next ≡ behind ls → false ≡ says (codes ":") next → (false, end) ≡ passing (codes ",") next → false ≡ colon_comes true ls
told_never o ls next end e t b f p = let x = some_named o ls e t in sym (comes_never ls next end x.0 x.1 b f p)

pub told_on : (o : Option (Bor (List ℕ))) (ls next end : List Lexeme) → option_copied o ≡ name_next ls → is_some o ≡ true → next ≡ behind ls → false ≡ says (codes ":") next → (true, end) ≡ passing (codes ",") next → colon_comes true end ≡ colon_comes true ls
told_on o ls next end e t b f p = let x = some_named o ls e t in sym (comes_on ls next end x.0 x.1 b f p)

pub told_smaller : (o : Option (Bor (List ℕ))) (ls next end : List Lexeme) → option_copied o ≡ name_next ls → is_some o ≡ true → next ≡ behind ls → (true, end) ≡ passing (codes ",") next → length end < length ls
told_smaller o ls next end e t b p = let x = some_named o ls e t in comes_smaller ls next end x.0 x.1 b p
