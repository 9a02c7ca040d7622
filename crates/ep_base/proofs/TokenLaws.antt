-- Laws of the tokens of a text: they lie in order within it, and each is the longest token at its place.
use Rattle.std.proofs.Common.{◌≡◌, ℕ, zero, suc, ◌+◌, ◌-◌, ◌<◌, ◌≤◌, Bool, true, false, cond, ◌&&◌, List, [], ◌∷◌, length, take, drop, get_or, Option, Some, None, Result, Ok, Err, refl, sym, ap, ◌∙◌, subst, ⊎_elim, arith, length-drop}
use Rattle.std.specs.Prelude.{slice_range, ◌==◌, nat_lt, nat_le}
use Rattle.std.proofs.lemmas.Bool.{cases_Bool, cond-true, cond-false, leb-false, le-leb, eqb-false, cases_eq}
use Rattle.std.proofs.lemmas.List.{drop-drop}
use Rattle.ep_base.specs.declared.tokens.Token.{Token}
use Rattle.ep_base.specs.TokenTexts.{is_token, is_number, kind_of}
use Rattle.ep_base.specs.Tokens.{TokenFault, BadByte, LongNumber, place_at, gap_len, greatest, token_len, token_at, token_text, tokens_from, tokens_of, with_first, followed_by, LieInOrder}

-- the greatest number that passes is within the bound
pub greatest-le : (passes : ℕ → Bool) (k : ℕ) → greatest passes k ≤ k
greatest-le passes zero = omega arith
greatest-le passes (suc k) =
    let again = greatest-le passes k in
    ⊎_elim
    (λ (e : passes (suc k) ≡ true). let g = cond-true (passes (suc k)) (suc k) (greatest passes k) e in omega arith)
    (λ (e : passes (suc k) ≡ false). let g = cond-false (passes (suc k)) (suc k) (greatest passes k) e in omega arith)
    (cases_Bool (passes (suc k)))

-- and passes, where it isn't 0
pub greatest_passes : (passes : ℕ → Bool) (k : ℕ) → 0 < greatest passes k → passes (greatest passes k) ≡ true
greatest_passes passes zero some = absurd (omega arith)
greatest_passes passes (suc k) some =
    ⊎_elim
    (λ (e : passes (suc k) ≡ true). let g = cond-true (passes (suc k)) (suc k) (greatest passes k) e in ap passes g ∙ e)
    (λ (e : passes (suc k) ≡ false).
    let g = cond-false (passes (suc k)) (suc k) (greatest passes k) e in
    ap passes g ∙ greatest_passes passes k (omega arith))
    (cases_Bool (passes (suc k)))

-- none above it passes
pub greatest_above : (passes : ℕ → Bool) (k m : ℕ) → greatest passes k < m → m ≤ k → passes m ≡ false
greatest_above passes zero m low high = absurd (omega arith)
greatest_above passes (suc k) m low high =
    ⊎_elim
    (λ (e : passes (suc k) ≡ true). let g = cond-true (passes (suc k)) (suc k) (greatest passes k) e in absurd (omega arith))
    (λ (e : passes (suc k) ≡ false).
    let g = cond-false (passes (suc k)) (suc k) (greatest passes k) e in
    ⊎_elim
    (λ (same : m ≡ suc k). ap passes same ∙ e)
    (λ (apart : m ≡ suc k → ⊥). greatest_above passes k m (omega arith) (omega arith))
    (cases_eq m (suc k)))
    (cases_Bool (passes (suc k)))

pub token_len-le : (bytes : List ℕ) → token_len bytes ≤ length bytes
unfolding token_len
token_len-le bytes = greatest-le (λ n. is_token (take n bytes) (drop n bytes)) (length bytes)

pub token_len_is_token : (bytes : List ℕ) → 0 < token_len bytes → is_token (take (token_len bytes) bytes) (drop (token_len bytes) bytes) ≡ true
unfolding token_len
token_len_is_token bytes some = greatest_passes (λ n. is_token (take n bytes) (drop n bytes)) (length bytes) some

-- what is known of a token that begins at an offset of a text
pub record IsTokenAt (text : List ℕ) (offset : ℕ) (token : Token) : Type 0 where
  pub from : token.from ≡ offset
  pub to : token.to ≡ offset + token_len (drop offset text)
  pub some : token.from < token.to
  pub within : token.to ≤ length text
  pub is_one : is_token (token_text text token) (drop token.to text) ≡ true
  pub kind : token.kind ≡ kind_of (token_text text token)
  pub place : token.place ≡ place_at text token.from
  pub short : (is_number (token_text text token) && nat_lt 18 (length (token_text text token))) ≡ false

-- the token is found where no test before it holds
picked : (past none long : Bool) (fault other : TokenFault) (t token : Token) → cond past (Ok None) (cond none (Err fault) (cond long (Err other) (Ok (Some t)))) ≡ Ok (Some token) → (past ≡ false) × (none ≡ false) × (long ≡ false) × (t ≡ token)
picked true none long fault other t token e = absurd cc
picked false true long fault other t token e = absurd cc
picked false false true fault other t token e = absurd cc
picked false false false fault other t token e = (refl, refl, refl, cc)

one_at : (text : List ℕ) (offset : ℕ) → 0 < token_len (drop offset text) → is_token (slice_range text offset (offset + token_len (drop offset text))) (drop (offset + token_len (drop offset text)) text) ≡ true
one_at text offset some =
    let size = token_len (drop offset text) in
    let span : offset + size - offset ≡ size = omega arith in
    ap (λ n. is_token (take n (drop offset text)) (drop (offset + size) text)) span
    ∙ ap (λ rest. is_token (take size (drop offset text)) rest) (sym (drop-drop size offset text))
    ∙ token_len_is_token (drop offset text) some

-- a token that is found begins there, has its longest text, and that text's kind
pub token_is : (text : List ℕ) (offset : ℕ) (token : Token) → token_at text offset ≡ Ok (Some token) → IsTokenAt text offset token
unfolding token_at
token_is text offset token e =
    let to = offset + token_len (drop offset text) in
    let word = slice_range text offset to in
    let tests = picked (nat_le (length text) offset) (to == offset) (is_number word && nat_lt 18 (length word)) (BadByte (place_at text offset)) (LongNumber (place_at text offset)) (record { kind = kind_of word; from = offset; to = to; place = place_at text offset }) token e in
    let inside = leb-false (length text) offset tests.0 in
    let some = eqb-false to offset tests.1 in
    let size = token_len-le (drop offset text) in
    let left = length-drop offset text in
    subst (IsTokenAt text offset) tests.3 (record {
      from = refl;
      to = refl;
      some = omega arith;
      within = omega arith;
      is_one = one_at text offset (omega arith);
      kind = refl;
      place = refl;
      short = tests.2;
    })

-- what follows a token is the same, where it is the same at its end
followed_same : (found : Result (Option Token) TokenFault) (f g : ℕ → Result (List Token) TokenFault) → ((token : Token) → found ≡ Ok (Some token) → f token.to ≡ g token.to) → followed_by found f ≡ followed_by found g
followed_same (Ok None) f g same = refl
followed_same (Ok (Some token)) f g same = ap (with_first token) (same token refl)
followed_same (Err fault) f g same = refl

pub nothing_past_end : (text : List ℕ) (offset : ℕ) → length text ≤ offset → token_at text offset ≡ Ok None
unfolding token_at
nothing_past_end text offset past = cond-true _ _ _ (le-leb (length text) offset past)

no_more : (more : ℕ) (text : List ℕ) (offset : ℕ) → length text ≤ offset → tokens_from more text offset ≡ Ok []
unfolding tokens_from
no_more zero text offset past = refl
no_more (suc more) text offset past =
    ap (λ found. followed_by found (λ to. tokens_from more text to)) (nothing_past_end text (offset + gap_len false (drop offset text)) (omega arith))

-- any number of tokens is enough that is at least that of the bytes left
pub enough_tokens : (m n : ℕ) (text : List ℕ) (offset : ℕ) → length text ≤ m + offset → length text ≤ n + offset → tokens_from m text offset ≡ tokens_from n text offset
unfolding tokens_from
enough_tokens zero n text offset some others = sym (no_more n text offset (omega arith))
enough_tokens (suc m) zero text offset some others = no_more (suc m) text offset (omega arith)
enough_tokens (suc m) (suc n) text offset some others =
    followed_same (token_at text (offset + gap_len false (drop offset text))) (λ to. tokens_from m text to) (λ to. tokens_from n text to)
    (λ token e. let is = token_is text (offset + gap_len false (drop offset text)) token e in enough_tokens m n text token.to (omega (arith, is.from, is.some)) (omega (arith, is.from, is.some)))

-- each of the tokens is found at its own offset
abbrev pub AllFoundIn : List ℕ → List Token → Type 0
AllFoundIn text [] = Unit {0}
AllFoundIn text (token ∷ tokens) = (token_at text token.from ≡ Ok (Some token)) × AllFoundIn text tokens

abbrev pub OrderedAndFound : List ℕ → ℕ → List Token → Type 0
OrderedAndFound text offset tokens = LieInOrder offset tokens (length text) × AllFoundIn text tokens

first_parts : (token : Token) (found : Result (List Token) TokenFault) (tokens : List Token) → with_first token found ≡ Ok tokens → (others : List Token) × (found ≡ Ok others) × (token ∷ others ≡ tokens)
first_parts token (Ok others) tokens e = (others, refl, cc)
first_parts token (Err fault) tokens e = absurd cc

-- a list of tokens is empty, or the token found first and those found after it
found_parts : (found : Result (Option Token) TokenFault) (f : ℕ → Result (List Token) TokenFault) (tokens : List Token) (P : List Token → Type 0) → followed_by found f ≡ Ok tokens → P [] → ((token : Token) (others : List Token) → found ≡ Ok (Some token) → f token.to ≡ Ok others → P (token ∷ others)) → P tokens
found_parts (Ok None) f tokens P e none some = let same : [] ≡ tokens = cc in subst P same none
found_parts (Ok (Some token)) f tokens P e none some =
    let parts = first_parts token (f token.to) tokens e in
    subst P parts.2 (some token parts.0 refl parts.1)
found_parts (Err fault) f tokens P e none some = absurd cc

ordered_from : (more : ℕ) (text : List ℕ) (offset : ℕ) (tokens : List Token) → offset ≤ length text → tokens_from more text offset ≡ Ok tokens → OrderedAndFound text offset tokens
unfolding tokens_from
ordered_from zero text offset tokens within e = let same : [] ≡ tokens = cc in subst (OrderedAndFound text offset) same (within, tt)
ordered_from (suc more) text offset tokens within e =
    let start = offset + gap_len false (drop offset text) in
    found_parts (token_at text start) (λ to. tokens_from more text to) tokens (OrderedAndFound text offset) e (within, tt)
    (λ token others found rest.
    let is = token_is text start token found in
    let again = ordered_from more text token.to others is.within rest in
    ((omega (arith, is.from), is.some, again.0), (ap (token_at text) is.from ∙ found, again.1)))

-- The tokens of a text lie in it, one after another.
pub tokens_lie_in_order : (text : List ℕ) (tokens : List Token) → tokens_of text ≡ Ok tokens → LieInOrder 0 tokens (length text)
unfolding tokens_of
tokens_lie_in_order text tokens e = (ordered_from (suc (length text)) text 0 tokens (omega arith) e).0

at_index : (text : List ℕ) (tokens : List Token) (i : ℕ) (d : Token) → AllFoundIn text tokens → i < length tokens → token_at text (get_or tokens i d).from ≡ Ok (Some (get_or tokens i d))
at_index text [] i d all within = absurd (omega arith)
at_index text (token ∷ tokens) zero d all within = all.0
at_index text (token ∷ tokens) (suc i) d all within = at_index text tokens i d all.1 (omega arith)

-- Each token of a text begins at its place, is the longest one there, and has the kind of its text.
pub token_of : (text : List ℕ) (tokens : List Token) (i : ℕ) (d : Token) → tokens_of text ≡ Ok tokens → i < length tokens → IsTokenAt text (get_or tokens i d).from (get_or tokens i d)
unfolding tokens_of
token_of text tokens i d e within =
    token_is text _ _ (at_index text tokens i d (ordered_from (suc (length text)) text 0 tokens (omega arith) e).1 within)
