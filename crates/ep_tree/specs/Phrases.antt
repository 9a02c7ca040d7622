-- Phrases: what a list of tokens says, told without a reader.
--
-- A phrase is a condition on a whole list of tokens. Phrases that stand one after another cut the list; nothing here
-- looks ahead or keeps a state.
use Rattle.std.specs.Prelude.{◌≡◌, ℕ, Bool, true, false, ◌⊎◌, List, [], ◌∷◌, ◌++◌, map, ℤ, IsTrue, codes}
use Rattle.ep_base.specs.Tokens.{token_text}
use Rattle.ep_base.specs.declared.names.Name.{Name}
use Rattle.ep_base.specs.declared.places.Place.{Place}
use Rattle.ep_base.specs.declared.tokens.Token.{Token}
use Rattle.ep_base.specs.declared.tokens.TokenKind.{TokenKind}
use Prim.Native.String.{String}

-- what a token says: a name, a number, or a word or symbol of the language
pub data Saying : Type 0 where
  a_name : Name → Saying
  a_number : ℤ → Saying
  a_word : List ℕ → Saying

-- a token with the place of its first byte
pub record Lexeme : Type 0 where
  pub place : Place
  pub saying : Saying

-- what a token of a text says
unfoldable pub saying_of : List ℕ → TokenKind → Saying
saying_of word TokenKind.Name = a_name word
saying_of word (TokenKind.Number n) = a_number n
saying_of word TokenKind.Word = a_word word
saying_of word TokenKind.Symbol = a_word word

-- a token of a text, with its place and what it says
abbrev pub lexeme_of : List ℕ → Token → Lexeme
lexeme_of text token = record { place = token.place; saying = saying_of (token_text text token) token.kind }

-- the tokens of a text, each with its place and what it says
unfoldable pub lexemes_of : List ℕ → List Token → List Lexeme
lexemes_of text tokens = map (lexeme_of text) tokens

-- a condition on a list of tokens
abbrev pub Phrase : Type 1
Phrase = List Lexeme → Type 0

-- what no tokens can be
abbrev pub Nothing : Phrase
Nothing tokens = ⊥

-- no token
abbrev pub Silence : Phrase
Silence tokens = tokens ≡ []

-- one token that says this
abbrev pub Is : Saying → Phrase
Is saying tokens = (place : Place) × (tokens ≡ record { place = place; saying = saying } ∷ [])

-- one word or symbol
abbrev pub Says : String → Phrase
Says word = Is (a_word (codes word))

-- one phrase and then another: the tokens are cut in two
abbrev pub ◌followed_by◌ : Phrase → Phrase → Phrase
◌followed_by◌ first second tokens =
    (front : List Lexeme) × (back : List Lexeme) × (tokens ≡ front ++ back) × first front × second back

infixr 25 ◌followed_by◌
-- one phrase or the other
abbrev pub ◌or_else◌ : Phrase → Phrase → Phrase
◌or_else◌ first second tokens = first tokens ⊎ second tokens

infixr 24 ◌or_else◌
-- a phrase under a condition that doesn't speak of tokens
abbrev pub When : Bool → Phrase → Phrase
When condition phrase tokens = IsTrue condition × phrase tokens

-- the first phrase where a condition holds, else the second
abbrev pub Choice : Bool → Phrase → Phrase → Phrase
Choice true yes_phrase no_phrase = yes_phrase
Choice false yes_phrase no_phrase = no_phrase

-- there is a first token, and it stands at a place
abbrev pub StartsAt : Place → Phrase
StartsAt place [] = ⊥
StartsAt place (token ∷ tokens) = token.place ≡ place

-- a phrase whose first token stands at a place
abbrev pub From : Place → Phrase → Phrase
From place phrase tokens = StartsAt place tokens × phrase tokens

-- names with commas between them, at least one
unfoldable pub Names : List Name → Phrase
Names [] = Nothing
Names (name ∷ []) = Is (a_name name)
Names (name ∷ other ∷ names) = Is (a_name name) followed_by Says "," followed_by Names (other ∷ names)

-- names with their places and commas between them, at least one
unfoldable pub PlacedNames : List (Name × Place) → Phrase
PlacedNames [] = Nothing
PlacedNames (name ∷ []) = From name.1 (Is (a_name name.0))
PlacedNames (name ∷ other ∷ names) =
    From name.1 (Is (a_name name.0)) followed_by Says "," followed_by PlacedNames (other ∷ names)
