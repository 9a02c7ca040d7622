-- No line ends in a token, so its end stands on the line of its start.
use Rattle.std.proofs.Common.{◌≡◌, ℕ, ◌+◌, ◌-◌, ◌<◌, Bool, true, false, ◌||◌, List, [], ◌∷◌, take, drop, get_or, Some, Ok, refl, sym, ap, ◌∙◌, ⊎_elim, arith, length-take-le, get_or-take, get_or-drop}
use Rattle.std.specs.List.{list_all}
use Rattle.std.specs.Char.{is_ascii_digit}
use Rattle.std.proofs.lemmas.Bool.{or_cases, and_parts, and_from, not-true, false≢true, true_from_ne_false}
use Rattle.std.proofs.lemmas.Bool.Decides.{nat_tests}
use Rattle.std.proofs.lemmas.List.Folds.{list_all_at}
use Rattle.ep_base.specs.declared.tokens.Token.{Token}
use Rattle.ep_base.specs.TokenTexts.{begins_name, continues_name, is_name, is_number, is_word, is_symbol, is_token, is_one_of, symbols, list_comparisons}
use Rattle.ep_base.specs.Tokens.{token_at, token_len, place_at, is_line_end}
use Rattle.ep_base.proofs.TokenLaws.{token_is, token_len-le, token_len_is_token}
use Rattle.ep_base.proofs.WordLengths.{is_one_of-passes, is_word-is, words}
use Rattle.ep_lexer.specs.declared.cursor.Cursor.{Cursor}
use Rattle.ep_lexer.specs.Cursor.{IsAt}
use Rattle.ep_lexer.proofs.PlaceSteps.{is_no_line_end, place, place_further}

list_all_weaker : (p q : ℕ → Bool) → ((x : ℕ) → p x ≡ true → q x ≡ true) → (xs : List ℕ) → list_all p xs ≡ true → list_all q xs ≡ true
list_all_weaker p q weaker [] e = refl
list_all_weaker p q weaker (x ∷ xs) e =
    let parts = and_parts (p x) (list_all p xs) e in
    and_from _ _ (weaker x parts.0) (list_all_weaker p q weaker xs parts.1)

letter_ends_no_line : (b : ℕ) → begins_name b ≡ true → is_no_line_end b ≡ true
letter_ends_no_line b e = grind (arith, nat_tests)

name_byte_ends_no_line : (b : ℕ) → continues_name b ≡ true → is_no_line_end b ≡ true
name_byte_ends_no_line b e = grind (arith, nat_tests)

digit_ends_no_line : (b : ℕ) → is_ascii_digit b ≡ true → is_no_line_end b ≡ true
digit_ends_no_line b e = grind (arith, nat_tests)

name_on_line : (text : List ℕ) → is_name text ≡ true → list_all is_no_line_end text ≡ true
name_on_line [] e = refl
name_on_line (b ∷ bs) e =
    let parts = and_parts (begins_name b) (list_all continues_name bs) e in
    and_from _ _ (letter_ends_no_line b parts.0) (list_all_weaker continues_name is_no_line_end name_byte_ends_no_line bs parts.1)

number_on_line : (text : List ℕ) → is_number text ≡ true → list_all is_no_line_end text ≡ true
number_on_line [] e = refl
number_on_line (b ∷ bs) e = list_all_weaker is_ascii_digit is_no_line_end digit_ends_no_line (b ∷ bs) e

word_on_line : (text : List ℕ) → is_word text ≡ true → list_all is_no_line_end text ≡ true
word_on_line text e = is_one_of-passes (list_all is_no_line_end) words text refl (sym (is_word-is text) ∙ e)

symbol_on_line : (text following : List ℕ) → is_symbol text following ≡ true → list_all is_no_line_end text ≡ true
unfolding is_symbol
symbol_on_line text following e =
    ⊎_elim
    (λ s. is_one_of-passes (list_all is_no_line_end) symbols text refl s)
    (λ s. is_one_of-passes (list_all is_no_line_end) list_comparisons text refl (and_parts _ _ s).0)
    (or_cases (is_one_of symbols text) _ e)

token_on_line : (text following : List ℕ) → is_token text following ≡ true → list_all is_no_line_end text ≡ true
unfolding is_token
token_on_line text following e =
    ⊎_elim
    (λ others.
    ⊎_elim
    (λ more. ⊎_elim (name_on_line text) (number_on_line text) (or_cases (is_name text) (is_number text) more))
    (word_on_line text)
    (or_cases (is_name text || is_number text) (is_word text) others))
    (symbol_on_line text following)
    (or_cases (is_name text || is_number text || is_word text) (is_symbol text following) e)

-- no byte of a token ends a line
no_end_within : (text : List ℕ) (offset k : ℕ) → k < token_len (drop offset text) → is_line_end (get_or text (offset + k) 0) ≡ false
no_end_within text offset k low =
    let bytes = drop offset text in
    let n = token_len bytes in
    let size = length-take-le n bytes (token_len-le bytes) in
    let all = token_on_line (take n bytes) (drop n bytes) (token_len_is_token bytes (omega arith)) in
    let here : is_no_line_end (get_or (take n bytes) k 0) ≡ true = true_from_ne_false _ (λ f. false≢true (sym (list_all_at is_no_line_end (take n bytes) k 0 (omega arith) f) ∙ all)) in
    not-true _ (ap is_no_line_end (sym (get_or-take n bytes k 0 low ∙ get_or-drop offset text k 0)) ∙ here)

-- the cursor behind a token
pub at_token_end : (text : List ℕ) (cursor result : Cursor) (token : Token) → IsAt text cursor → token_at text cursor.offset ≡ Ok (Some token) → result ≡ record { offset = cursor.offset + (token.to - token.from); place = place cursor.place.line (cursor.place.column + (token.to - token.from)) } → IsAt text result × (result.offset ≡ token.to)
at_token_end text cursor result token at found e =
    let is = token_is text cursor.offset token found in
    let offset = ap (λ (c : Cursor). c.offset) e in
    let size : token.to - token.from ≡ token_len (drop cursor.offset text) = omega (arith, is.from, is.to) in
    let ends : result.offset ≡ cursor.offset + (token.to - token.from) = offset in
    let further = place_further text cursor.offset (token.to - token.from) (omega (arith, is.from, is.to, is.within)) (λ k low. no_end_within text cursor.offset k (omega arith)) in (
      record {
        within = omega (arith, is.from, is.to, is.within);
        place = ap (λ (c : Cursor). c.place) e ∙ ap (λ p. place p.line (p.column + (token.to - token.from))) at.place ∙ sym further ∙ ap (place_at text) (sym ends);
      },
      omega (arith, is.from, is.to, is.some),
    )
