-- Readers of lists of tokens from left to right: single tokens, lists, and what grows at its end.
--
-- A reader gives what it took and the tokens behind it; or the tokens from the first one with which nothing goes on; or
-- those from the first one with which only what is too high goes on.
use Rattle.std.specs.Prelude.{ℕ, ℤ, zero, suc, Bool, true, false, List, [], ◌∷◌, length, Option, Some, None, bytes_eq, codes}
use Rattle.ep_base.specs.declared.names.Name.{Name}
use Rattle.ep_base.specs.declared.places.Place.{Place}
use Rattle.ep_parse_parts.specs.Sayings.{says_number}
use Rattle.ep_tree.specs.Phrases.{Lexeme, Saying, a_name, a_number, a_word}

-- what is taken, with the tokens behind it; or the tokens from the first that is wrong, or too high
pub data Read (A : Type 0) : Type 0 where
  took : A → List Lexeme → Read A
  wrong : List Lexeme → Read A
  high : List Lexeme → Read A

-- a reader
abbrev pub Reader : Type 0 → Type 0
Reader A = List Lexeme → Read A

infixl 10 ◌and_then◌
-- something, and what a reader takes behind it
abbrev pub ◌and_then◌ : {A B : Type 0} → Read A → (A → Reader B) → Read B
(took x ls) and_then f = f x ls
(wrong ls) and_then f = wrong ls
(high ls) and_then f = high ls

-- one reader where a test holds, else another
abbrev pub either_reader : {A : Type 0} → Bool → Reader A → Reader A → Reader A
either_reader true one other ls = one ls
either_reader false one other ls = other ls

-- ---- single tokens

-- whether a token is this word or symbol
abbrev pub says_word : List ℕ → Saying → Bool
says_word bytes (a_word other) = bytes_eq other bytes
says_word bytes (a_name x) = false
says_word bytes (a_number n) = false

-- whether this word or symbol is next
unfoldable pub says : List ℕ → List Lexeme → Bool
says bytes [] = false
says bytes (l ∷ ls) = says_word bytes l.saying

-- the tokens behind the next
abbrev pub behind : List Lexeme → List Lexeme
behind [] = []
behind (l ∷ ls) = ls

-- this word or symbol, and its place
unfoldable pub word_from : List ℕ → Reader Place
word_from bytes [] = wrong []
word_from bytes (l ∷ ls) = either_reader (says_word bytes l.saying) (λ all. took l.place ls) (λ all. wrong all) (l ∷ ls)

-- a name
unfoldable pub name_in : Lexeme → Saying → Reader Name
name_in l (a_name x) ls = took x ls
name_in l (a_number n) ls = wrong (l ∷ ls)
name_in l (a_word w) ls = wrong (l ∷ ls)

-- a name, if one is next
unfoldable pub name_from : Reader Name
name_from [] = wrong []
name_from (l ∷ ls) = name_in l l.saying ls

-- this number
unfoldable pub number_from : ℤ → Reader Place
number_from n [] = wrong []
number_from n (l ∷ ls) = either_reader (says_number n l.saying) (λ all. took l.place ls) (λ all. wrong all) (l ∷ ls)

-- a finding, or else another
abbrev pub found_or : {A : Type 0} → Bool → A → Option A → Option A
found_or true x other = Some x
found_or false x other = other

-- what a table says of a word
unfoldable pub looked_up : {A : Type 0} → List (List ℕ × A) → List ℕ → Option A
looked_up [] word = None
looked_up (entry ∷ entries) word = found_or (bytes_eq entry.0 word) entry.1 (looked_up entries word)

-- what a table says of a token
abbrev pub meant_by : {A : Type 0} → List (List ℕ × A) → Saying → Option A
meant_by words (a_word w) = looked_up words w
meant_by words (a_name x) = None
meant_by words (a_number n) = None

-- what a table says of the next token
unfoldable pub next_in : {A : Type 0} → List (List ℕ × A) → List Lexeme → Option A
next_in words [] = None
next_in words (l ∷ ls) = meant_by words l.saying

-- ---- lists and chains

-- what is read where a list goes on, else no item
abbrev pub going_on : {A : Type 0} → Option (List Lexeme) → List Lexeme → Reader (List A) → Read (List A)
going_on None ls others = took [] ls
going_on (Some next) ls others = others next

-- The further items of a list as long as it goes on, where so many are enough. Whether it goes on behind an item, and
-- with which tokens, the item says.
unfoldable pub more_from : {A : Type 0} → (A → List Lexeme → Option (List Lexeme)) → (A → Reader A) → ℕ → A → Reader (List A)
more_from goes_on item zero last ls = took [] ls
more_from goes_on item (suc more) last ls =
    going_on (goes_on last ls) ls
    (λ next. item last next and_then λ x rest. more_from goes_on item more x rest and_then λ xs end. took (x ∷ xs) end)

-- the further items of a list; there are no more than tokens
abbrev pub others_from : {A : Type 0} → (A → List Lexeme → Option (List Lexeme)) → (A → Reader A) → A → Reader (List A)
others_from goes_on item last ls = more_from goes_on item (length ls) last ls

-- what is read where something grows, else that alone
abbrev pub growing : {A : Type 0} → Option (Read A) → A → List Lexeme → (A → Reader A) → Read A
growing None x ls on = took x ls
growing (Some grew) x ls on = grew and_then on

-- What grows at its end as long as it goes on, where so many steps are enough.
unfoldable pub grown_from : {A : Type 0} → (A → List Lexeme → Option (Read A)) → ℕ → A → Reader A
grown_from step zero x ls = took x ls
grown_from step (suc more) x ls = growing (step x ls) x ls (grown_from step more)

-- what grows at its end; it takes no more steps than there are tokens
abbrev pub grown : {A : Type 0} → (A → List Lexeme → Option (Read A)) → A → Reader A
grown step x ls = grown_from step (length ls) x ls

-- tokens, where a test holds
abbrev pub kept : Bool → List Lexeme → Option (List Lexeme)
kept true ls = Some ls
kept false ls = None

-- tokens where a test holds, else others
abbrev pub kept_or : Bool → List Lexeme → Option (List Lexeme) → Option (List Lexeme)
kept_or true ls other = Some ls
kept_or false ls other = other

-- what is read of something, where it is there
abbrev pub if_some : {A B : Type 0} → Option B → (B → Read A) → Read A → Read A
if_some None go other = other
if_some (Some x) go other = go x

-- the tokens behind this word, where it is next
abbrev pub behind_word : List ℕ → List Lexeme → Option (List Lexeme)
behind_word bytes ls = kept (says bytes ls) (behind ls)

-- a list goes on behind a comma
abbrev pub behind_comma : {A : Type 0} → A → List Lexeme → Option (List Lexeme)
behind_comma last ls = behind_word (codes ",") ls

-- names with commas between them, at least one
unfoldable pub names_from : Reader (List Name)
names_from ls =
    name_from ls and_then λ x rest. others_from behind_comma (λ last. name_from) x rest and_then λ xs end. took (x ∷ xs) end
