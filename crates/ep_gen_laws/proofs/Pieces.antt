-- A text cut into words, each with what stands behind it.
use Rattle.std.proofs.Common.{◌≡◌, ℕ, zero, suc, Bool, true, ◌&&◌, List, [], ◌∷◌, ◌++◌, map, refl, ap, subst}
use Rattle.std.proofs.lemmas.Bool.{and_parts}
use Rattle.ep_base.specs.TokenTexts.{is_token}
use Rattle.ep_tree.specs.Phrases.{Lexeme, Saying}
use Rattle.ep_print.specs.Words.{Words}
use Rattle.ep_print_laws.proofs.Glue.{ends_before}
use Rattle.ep_print_laws.proofs.Scanned.{Lexed, begins_no_gap, is_short, lexed_end, lexed_line_end, lexed_space, lexed_word, sayings}
use Rattle.ep_gen_laws.proofs.ModelTree.{Places}

-- a word: the next one stands right behind it, behind a space, or on the next line
pub data Piece : Type 0 where
  joined : List ℕ → Piece
  spaced : List ℕ → Piece
  ended : List ℕ → Piece

abbrev pub word_of : Piece → List ℕ
word_of (joined w) = w
word_of (spaced w) = w
word_of (ended w) = w

-- what stands behind a word, before the rest
abbrev behind_word : Piece → List ℕ → List ℕ
behind_word (joined w) rest = rest
behind_word (spaced w) rest = 32 ∷ rest
behind_word (ended w) rest = 10 ∷ rest

-- the text of pieces
abbrev pub text_of : List Piece → List ℕ
text_of [] = []
text_of (p ∷ ps) = word_of p ++ behind_word p (text_of ps)

-- whether each word is a token that ends where it does
abbrev is_cut : List ℕ → List ℕ → Bool
is_cut w rest = begins_no_gap w && (is_short w && (is_token w rest && ends_before w rest))

abbrev pub are_cut : List Piece → Bool
are_cut [] = true
are_cut (p ∷ ps) = is_cut (word_of p) (behind_word p (text_of ps)) && are_cut ps

behind_lexed : (p : Piece) (rest : List ℕ) (words : Words) → Lexed rest words → Lexed (behind_word p rest) words
behind_lexed (joined w) rest words later = later
behind_lexed (spaced w) rest words later = lexed_space rest words later
behind_lexed (ended w) rest words later = lexed_line_end rest words later

pub pieces_lexed : (ps : List Piece) → are_cut ps ≡ true → Lexed (text_of ps) (map word_of ps)
pieces_lexed [] cut = lexed_end
pieces_lexed (p ∷ ps) cut =
    let w = word_of p in
    let rest = behind_word p (text_of ps) in
    let both = and_parts (is_cut w rest) (are_cut ps) cut in
    let one = and_parts (begins_no_gap w) (is_short w && (is_token w rest && ends_before w rest)) both.0 in
    let two = and_parts (is_short w) (is_token w rest && ends_before w rest) one.1 in
    let others = and_parts (is_token w rest) (ends_before w rest) two.1 in
    lexed_word w rest (map word_of ps) one.0 two.0 others.0 others.1 (behind_lexed p (text_of ps) (map word_of ps) (pieces_lexed ps both.1))

-- ---- tokens by what they say and where they stand

-- tokens that say this, at these places
abbrev pub placed : List Saying → Places → List Lexeme
placed [] at = []
placed (s ∷ ss) at = record { place = at 0; saying = s } ∷ placed ss (λ k. at (suc k))

-- the places of tokens, by their numbers
abbrev pub places_of : List Lexeme → Places
places_of [] k = record { line = 1; column = 1 }
places_of (l ∷ ls) zero = l.place
places_of (l ∷ ls) (suc k) = places_of ls k

are_placed : (ls : List Lexeme) → placed (sayings ls) (places_of ls) ≡ ls
are_placed [] = refl
are_placed (l ∷ ls) = ap (λ ks. l ∷ ks) (are_placed ls)

pub placed_as : (ls : List Lexeme) (ss : List Saying) → sayings ls ≡ ss → placed ss (places_of ls) ≡ ls
placed_as ls ss e = subst (λ ks. placed ks (places_of ls) ≡ ls) e (are_placed ls)
