-- The tokens of a text, read one after another.
use Rattle.std.proofs.Common.{◌≡◌, ℕ, suc, ◌+◌, ◌≤◌, false, List, [], ◌∷◌, ◌++◌, length, drop, Some, Result, Ok, Err, refl, sym, ap, ◌∙◌, arith, append_assoc}
use Rattle.std.proofs.lemmas.List.{append-nil}
use Rattle.ep_base.specs.declared.tokens.Token.{Token}
use Rattle.ep_base.specs.Tokens.{TokenFault, gap_len, token_at, tokens_from, tokens_of, with_first, followed_by}
use Rattle.ep_lexer.specs.declared.errors.LexError.{LexError}
use Rattle.ep_lexer.specs.declared.errors.LexError.TheVariants.{BadByte, LongNumber, Memory}
use Rattle.ep_lexer.specs.Lex.{IsFaultOf}
use Rattle.ep_base.proofs.TokenLaws.{token_is, enough_tokens, nothing_past_end}

-- tokens put before those that are found after them
abbrev pub with_front : List Token → Result (List Token) TokenFault → Result (List Token) TokenFault
with_front front (Ok tokens) = Ok (front ++ tokens)
with_front front (Err fault) = Err fault

-- the tokens from an offset on at which no gap begins
unfoldable pub tokens_at : List ℕ → ℕ → Result (List Token) TokenFault
tokens_at text offset = followed_by (token_at text offset) (λ to. tokens_from (length text) text to)

with_front_more : (front : List Token) (token : Token) (found : Result (List Token) TokenFault) → with_front front (with_first token found) ≡ with_front (front ++ token ∷ []) found
with_front_more front token (Ok tokens) = ap Ok (sym (append_assoc front (token ∷ []) tokens))
with_front_more front token (Err fault) = refl

with_front_none : (found : Result (List Token) TokenFault) → with_front [] found ≡ found
with_front_none (Ok tokens) = refl
with_front_none (Err fault) = refl

-- at the start
pub run_starts : (text : List ℕ) (offset : ℕ) → offset ≡ 0 + gap_len false (drop 0 text) → with_front [] (tokens_at text offset) ≡ tokens_of text
unfolding tokens_at tokens_of tokens_from
run_starts text offset e =
    with_front_none _ ∙ ap (λ i. followed_by (token_at text i) (λ to. tokens_from (length text) text to)) e

-- after a token, and the gap behind it
pub run_goes_on : (text : List ℕ) (offset next : ℕ) (front : List Token) (token : Token) (all : Result (List Token) TokenFault) → token_at text offset ≡ Ok (Some token) → next ≡ token.to + gap_len false (drop token.to text) → with_front front (tokens_at text offset) ≡ all → with_front (front ++ token ∷ []) (tokens_at text next) ≡ all
unfolding tokens_at tokens_from
run_goes_on text offset next front token all found e told =
    let is = token_is text offset token found in
    let later : tokens_from (length text) text token.to ≡ tokens_from (suc (length text)) text token.to = enough_tokens (length text) (suc (length text)) text token.to (omega arith) (omega arith) in
    sym (with_front_more front token _)
    ∙ ap (λ i. with_front front (with_first token (followed_by (token_at text i) (λ to. tokens_from (length text) text to)))) e
    ∙ ap (λ rest. with_front front (with_first token rest)) (sym later)
    ∙ ap (λ here. with_front front (followed_by here (λ to. tokens_from (length text) text to))) (sym found)
    ∙ told

-- at the end
pub run_ends : (text : List ℕ) (offset : ℕ) (front : List Token) (all : Result (List Token) TokenFault) → length text ≤ offset → with_front front (tokens_at text offset) ≡ all → all ≡ Ok front
unfolding tokens_at
run_ends text offset front all past told =
    sym told
    ∙ ap (λ here. with_front front (followed_by here (λ to. tokens_from (length text) text to))) (nothing_past_end text offset past)
    ∙ ap Ok (append-nil front)

-- at a fault
pub run_fails : (text : List ℕ) (offset : ℕ) (front : List Token) (all : Result (List Token) TokenFault) (fault : TokenFault) → token_at text offset ≡ Err fault → with_front front (tokens_at text offset) ≡ all → all ≡ Err fault
unfolding tokens_at
run_fails text offset front all fault found told =
    sym told ∙ ap (λ here. with_front front (followed_by here (λ to. tokens_from (length text) text to))) found

-- the fault where the reading stands is that of the text
pub fault_of_run : (text : List ℕ) (offset : ℕ) (front : List Token) (all : Result (List Token) TokenFault) (error : LexError) → with_front front (tokens_at text offset) ≡ all → IsFaultOf error (token_at text offset) → IsFaultOf error all
fault_of_run text offset front all (BadByte place) told found = run_fails text offset front all _ found told
fault_of_run text offset front all (LongNumber place) told found = run_fails text offset front all _ found told
fault_of_run text offset front all Memory told found = tt
