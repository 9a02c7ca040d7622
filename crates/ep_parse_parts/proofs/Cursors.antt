-- What a cursor reads, from the tokens that it has left.
use Rattle.std.proofs.Common.{◌≡◌, ℕ, true, false, List, [], ◌∷◌, length, Option, Some, None, refl, sym, ap, ◌∙◌, arith}
use Rattle.ep_base.specs.Tokens.{token_text}
use Rattle.ep_base.specs.declared.places.Place.{Place}
use Rattle.ep_base.specs.declared.tokens.Token.{Token}
use Rattle.ep_parse_parts.proofs.Again.{lexeme}
use Rattle.ep_parse_parts.specs.Cursors.{passing}
use Rattle.ep_parse_parts.specs.Readers.{says_word, name_from, name_in, says, took, word_from, wrong}
use Rattle.ep_parse_parts.specs.Sayings.{name_of}
use Rattle.ep_tree.specs.Phrases.{Lexeme, Saying, a_name, a_number, a_word, lexemes_of, saying_of}

-- what a token says
abbrev pub said : List ℕ → Token → Saying
said text token = saying_of (token_text text token) token.kind

-- the tokens left, where there are none
pub none_left : (text : List ℕ) (tokens : List Token) (now : List Lexeme) → lexemes_of text tokens ≡ now → length tokens ≡ 0 → now ≡ []
unfolding lexemes_of
none_left text [] now e h = sym e
none_left text (t ∷ ts) now e h = absurd (omega arith)

-- the tokens left, where there are some
pub some_left : (text : List ℕ) (tokens : List Token) (now : List Lexeme) (t : Token) (ts : List Token) → lexemes_of text tokens ≡ now → tokens ≡ t ∷ ts → now ≡ lexeme t.place (said text t) ∷ lexemes_of text ts
unfolding lexemes_of
some_left text tokens now t ts e h = sym e ∙ ap (λ (xs : List Token). lexemes_of text xs) h

pub word_at_end : (bytes : List ℕ) (now : List Lexeme) → now ≡ [] → word_from bytes now ≡ wrong now
unfolding word_from
word_at_end bytes now e = rw e refl

pub word_not : (bytes : List ℕ) (now : List Lexeme) (place : Place) (what : Saying) (ls : List Lexeme) → now ≡ lexeme place what ∷ ls → says_word bytes what ≡ false → word_from bytes now ≡ wrong now
unfolding word_from
word_not bytes now place what ls e none = rw e (rw none refl)

pub word_read : (bytes : List ℕ) (now : List Lexeme) (place : Place) (what : Saying) (ls : List Lexeme) → now ≡ lexeme place what ∷ ls → says_word bytes what ≡ true → word_from bytes now ≡ took place ls
unfolding word_from
word_read bytes now place what ls e found = rw e (rw found refl)

pub name_at_end : (now : List Lexeme) → now ≡ [] → name_from now ≡ wrong now
unfolding name_from
name_at_end now e = rw e refl

pub name_not : (now : List Lexeme) (place : Place) (what : Saying) (ls : List Lexeme) → now ≡ lexeme place what ∷ ls → name_of what ≡ None → name_from now ≡ wrong now
unfolding name_from name_in
name_not now place (a_name x) ls e none = absurd cc
name_not now place (a_number n) ls e none = rw e refl
name_not now place (a_word w) ls e none = rw e refl

pub name_read : (now : List Lexeme) (place : Place) (what : Saying) (ls : List Lexeme) (x : List ℕ) → now ≡ lexeme place what ∷ ls → name_of what ≡ Some x → name_from now ≡ took x ls
unfolding name_from name_in
name_read now place (a_name y) ls x e found = rw e (ap (λ o. took (or_this o) ls) found)
  where
    or_this : Option (List ℕ) → List ℕ
    or_this (Some z) = z
    or_this None = y
name_read now place (a_number n) ls x e found = absurd cc
name_read now place (a_word w) ls x e found = absurd cc

pub pass_at_end : (bytes : List ℕ) (now : List Lexeme) → now ≡ [] → (false, now) ≡ passing bytes now
unfolding passing says
pass_at_end bytes now e = rw e refl

pub pass_not : (bytes : List ℕ) (now : List Lexeme) (place : Place) (what : Saying) (ls : List Lexeme) → now ≡ lexeme place what ∷ ls → says_word bytes what ≡ false → (false, now) ≡ passing bytes now
unfolding passing says
pass_not bytes now place what ls e none = rw e (rw none refl)

pub pass_read : (bytes : List ℕ) (now : List Lexeme) (place : Place) (what : Saying) (ls : List Lexeme) → now ≡ lexeme place what ∷ ls → says_word bytes what ≡ true → (true, ls) ≡ passing bytes now
unfolding passing says
pass_read bytes now place what ls e found = rw e (rw found refl)
