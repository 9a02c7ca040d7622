-- The tokens of a text, and its first fault where it has none.
--
-- From the left, blanks and comments are passed over, and then the longest text that is a token and begins
-- there is the next token. A byte at which no token begins is a fault, and so is a number of more than 18 digits.
use Rattle.std.specs.Prelude.{ℕ, zero, suc, ◌+◌, ◌<◌, ◌≤◌, Bool, false, ◌&&◌, ◌||◌, not, List, [], ◌∷◌, length, take, drop, slice_range, Option, Some, None, Result, Ok, Err, if◌then◌else◌, ◌==◌, nat_lt, nat_le, count_by}
use Rattle.std.specs.List.{suffix_len}
use Rattle.ep_base.specs.declared.places.Place.{Place}
use Rattle.ep_base.specs.declared.tokens.Token.{Token}
use Rattle.ep_base.specs.TokenTexts.{is_token, is_number, kind_of}

-- a line ends with the byte 10
abbrev pub is_line_end : ℕ → Bool
is_line_end byte = byte == 10

-- The place of an offset: its line is one more than the line ends before it, and its column one more than the
-- bytes since the last of these, or since the start. The length of the text has a place too.
unfoldable pub place_at : List ℕ → ℕ → Place
place_at text offset =
    let before = take offset text in
    record { line = count_by is_line_end before + 1; column = suffix_len (λ byte. not (is_line_end byte)) before + 1 }

-- the place after a byte that stands at a place
abbrev pub place_after : Place → ℕ → Place
place_after place byte =
    if is_line_end byte then record { line = place.line + 1; column = 1 }
    else record { line = place.line; column = place.column + 1 }

-- blanks are the space, the tab, the line end and the carriage return
abbrev pub is_blank : ℕ → Bool
is_blank byte = byte == 32 || byte == 9 || byte == 10 || byte == 13

-- a comment begins with `$`
abbrev pub begins_comment : ℕ → Bool
begins_comment byte = byte == 36

-- whether a comment goes on after a byte that stands in one or not: `$` begins it and the line end ends it
abbrev pub in_comment_after : Bool → ℕ → Bool
in_comment_after in_comment byte = (in_comment || begins_comment byte) && not (is_line_end byte)

-- whether a byte separates tokens: any byte in a comment, and else a blank, or the `$` that begins a comment
abbrev pub separates : Bool → ℕ → Bool
separates in_comment byte = in_comment || is_blank byte || begins_comment byte

-- how many bytes of blanks and comments a text begins with
abbrev pub gap_len : Bool → List ℕ → ℕ
gap_len in_comment [] = 0
gap_len in_comment (byte ∷ bytes) =
    if separates in_comment byte then suc (gap_len (in_comment_after in_comment byte) bytes) else 0

-- the greatest number up to a bound that passes a test, or 0 where none from 1 on does
abbrev pub greatest : (ℕ → Bool) → ℕ → ℕ
greatest passes zero = 0
greatest passes (suc n) = if passes (suc n) then suc n else greatest passes n

-- the length of the longest front of some bytes that is a token, or 0 where none is
unfoldable pub token_len : List ℕ → ℕ
token_len bytes = greatest (λ n. is_token (take n bytes) (drop n bytes)) (length bytes)

-- what may be wrong with the tokens of a text, with its place
pub data TokenFault : Type 0 where
  BadByte : Place → TokenFault
  LongNumber : Place → TokenFault

-- what stands at an offset: a token, nothing at the end of the text, or a fault
unfoldable pub token_at : List ℕ → ℕ → Result (Option Token) TokenFault
token_at text from =
    let place = place_at text from in
    let to = from + token_len (drop from text) in
    let word = slice_range text from to in
    if nat_le (length text) from then Ok None
    else (if to == from then Err (BadByte place)
    else (if is_number word && nat_lt 18 (length word) then Err (LongNumber place)
    else Ok (Some (record { kind = kind_of word; from = from; to = to; place = place }))))

-- a token put before the tokens that follow it
abbrev pub with_first : Token → Result (List Token) TokenFault → Result (List Token) TokenFault
with_first token (Ok tokens) = Ok (token ∷ tokens)
with_first token (Err fault) = Err fault

-- what is found first, and then what is found from its end on
abbrev pub followed_by : Result (Option Token) TokenFault → (ℕ → Result (List Token) TokenFault) → Result (List Token) TokenFault
followed_by (Ok None) after = Ok []
followed_by (Ok (Some token)) after = with_first token (after token.to)
followed_by (Err fault) after = Err fault

-- The tokens from an offset on, where so many are enough. What lies before the first is a gap.
unfoldable pub tokens_from : ℕ → List ℕ → ℕ → Result (List Token) TokenFault
tokens_from zero text offset = Ok []
tokens_from (suc more) text offset =
    followed_by (token_at text (offset + gap_len false (drop offset text))) (λ to. tokens_from more text to)

-- The tokens of a text, or its first fault. It has no more tokens than bytes, so these are enough.
unfoldable pub tokens_of : List ℕ → Result (List Token) TokenFault
tokens_of text = tokens_from (suc (length text)) text 0

-- the text of a token
abbrev pub token_text : List ℕ → Token → List ℕ
token_text text token = slice_range text token.from token.to

-- the tokens lie one after another from an offset on, each with at least one byte, and end within so many bytes
abbrev pub LieInOrder : ℕ → List Token → ℕ → Type 0
LieInOrder offset [] end = offset ≤ end
LieInOrder offset (token ∷ tokens) end = (offset ≤ token.from) × (token.from < token.to) × LieInOrder token.to tokens end
