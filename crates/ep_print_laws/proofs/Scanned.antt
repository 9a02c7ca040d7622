-- Texts whose tokens are known: words, blanks and comments, one after another.
use Rattle.std.proofs.Common.{◌≡◌, ℕ, zero, suc, ◌+◌, ◌-◌, ◌<◌, ◌≤◌, Bool, true, false, cond, not, ◌&&◌, List, [], ◌∷◌, ◌++◌, length, map, take, drop, Some, None, Ok, Err, refl, sym, ap, subst, ◌∙◌, arith, append_assoc, length-append}
use Rattle.std.specs.Prelude.{◌==◌, nat_le, nat_lt, slice_range}
use Rattle.std.specs.List.{list_all}
use Rattle.std.proofs.lemmas.Bool.{and_parts, cond-false, false_from_ne_true, false≢true, leb-true, eqb-true}
use Rattle.std.proofs.Math.Seq.{take-append_seam}
use Rattle.ep_base.specs.TokenTexts.{is_number, is_token, kind_of}
use Rattle.ep_base.specs.Tokens.{TokenFault, BadByte, LongNumber, followed_by, gap_len, in_comment_after, is_line_end, place_at, separates, token_at, token_len, tokens_from, tokens_of, with_first}
use Rattle.ep_base.specs.declared.tokens.Token.{Token}
use Rattle.ep_base.proofs.TokenLaws.{enough_tokens}
use Rattle.ep_tree.specs.Phrases.{Lexeme, Saying, lexemes_of, saying_of}
use Rattle.ep_print.specs.Words.{Words}
use Rattle.ep_print_laws.proofs.Glue.{ends_before, word_len}

-- what a word says
abbrev pub word_saying : List ℕ → Saying
word_saying word = saying_of word (kind_of word)

-- what some lexemes say
abbrev pub sayings : List Lexeme → List Saying
sayings ls = map (λ l. l.saying) ls

-- what some words say
abbrev pub word_sayings : Words → List Saying
word_sayings words = map word_saying words

-- From an offset on a text's tokens are these words.
pub record Scanned (text : List ℕ) (offset : ℕ) (words : Words) : Type 0 where
  pub tokens : List Token
  pub found : tokens_from (suc (length text)) text offset ≡ Ok tokens
  pub says : sayings (lexemes_of text tokens) ≡ word_sayings words

-- the tokens of some bytes, whatever stands before them, are these words
abbrev pub Lexed : List ℕ → Words → Type 0
Lexed bytes words = (before : List ℕ) → Scanned (before ++ bytes) (length before) words

-- ---- ends and gaps

drop-append_seam : (xs ys : List ℕ) → drop (length xs) (xs ++ ys) ≡ ys
drop-append_seam [] ys = refl
drop-append_seam (x ∷ xs) ys = drop-append_seam xs ys

no_token : (n : ℕ) (text : List ℕ) (offset : ℕ) → length text ≤ offset → tokens_from n text offset ≡ Ok []
unfolding tokens_from
no_token n text offset past = enough_tokens n zero text offset (omega (arith, past)) (omega (arith, past))

pub lexed_end : Lexed [] []
unfolding lexemes_of
lexed_end before =
    let all = length-append before [] in
    record { tokens = []; found = no_token (suc (length (before ++ []))) (before ++ []) (length before) (omega (arith, all)); says = refl }

-- a gap of so many bytes more
skipped : (n : ℕ) (text : List ℕ) (offset more : ℕ) → gap_len false (drop offset text) ≡ more + gap_len false (drop (offset + more) text) → tokens_from (suc n) text offset ≡ tokens_from (suc n) text (offset + more)
unfolding tokens_from
skipped n text offset more e =
    ap (λ o. followed_by (token_at text o) (λ to. tokens_from n text to)) (omega (arith, e))

scanned_gap : (text : List ℕ) (offset more : ℕ) (words : Words) → gap_len false (drop offset text) ≡ more + gap_len false (drop (offset + more) text) → Scanned text (offset + more) words → Scanned text offset words
scanned_gap text offset more words e s =
    record { tokens = s.tokens; found = skipped (length text) text offset more e ∙ s.found; says = s.says }

-- bytes that begin with a gap, of which the rest is known
gap_before : (gap bytes : List ℕ) (words : Words) → gap_len false (gap ++ bytes) ≡ length gap + gap_len false bytes → Lexed bytes words → Lexed (gap ++ bytes) words
gap_before gap bytes words e rest before =
    let text = before ++ (gap ++ bytes) in
    let regrouped : (before ++ gap) ++ bytes ≡ text = append_assoc before gap bytes in
    let at : length (before ++ gap) ≡ length before + length gap = length-append before gap in
    let later : Scanned text (length before + length gap) words =
    subst (λ (o : ℕ). Scanned text o words) at (subst (λ (t : List ℕ). Scanned t (length (before ++ gap)) words) regrouped (rest (before ++ gap))) in
    let left : drop (length before + length gap) text ≡ bytes =
    ap (λ o. drop o text) (sym at) ∙ ap (drop (length (before ++ gap))) (sym regrouped) ∙ drop-append_seam (before ++ gap) bytes in
    scanned_gap text (length before) (length gap) words
    (ap (gap_len false) (drop-append_seam before (gap ++ bytes)) ∙ e ∙ ap (λ bs. length gap + gap_len false bs) (sym left)) later

one_more : (n : ℕ) → suc n ≡ 1 + n
one_more n = omega arith

pub lexed_space : (bytes : List ℕ) (words : Words) → Lexed bytes words → Lexed (32 ∷ bytes) words
lexed_space bytes words rest = gap_before (32 ∷ []) bytes words (one_more (gap_len false bytes)) rest

pub lexed_line_end : (bytes : List ℕ) (words : Words) → Lexed bytes words → Lexed (10 ∷ bytes) words
lexed_line_end bytes words rest = gap_before (10 ∷ []) bytes words (one_more (gap_len false bytes)) rest

-- whether no line ends within some bytes
abbrev pub is_one_line : List ℕ → Bool
is_one_line bytes = list_all (λ b. not (is_line_end b)) bytes

not_true : (b : Bool) → not b ≡ true → b ≡ false
not_true true e = absurd (false≢true e)
not_true false e = refl

stays : (b : ℕ) → is_line_end b ≡ false → in_comment_after true b ≡ true
stays b e = rw e refl

comment_len : (comment bytes : List ℕ) → is_one_line comment ≡ true → gap_len true (comment ++ (10 ∷ bytes)) ≡ suc (length comment) + gap_len false bytes
comment_len [] bytes e = one_more (gap_len false bytes)
comment_len (b ∷ comment) bytes e =
    let parts = and_parts (not (is_line_end b)) _ e in
    let inside = ap (λ c. gap_len c (comment ++ (10 ∷ bytes))) (stays b (not_true _ parts.0)) ∙ comment_len comment bytes parts.1 in
    ap suc inside ∙ omega arith

pub lexed_comment : (comment bytes : List ℕ) (words : Words) → is_one_line comment ≡ true → Lexed bytes words → Lexed (36 ∷ (comment ++ (10 ∷ bytes))) words
lexed_comment comment bytes words e rest =
    let both : (36 ∷ (comment ++ 10 ∷ [])) ++ bytes ≡ 36 ∷ (comment ++ (10 ∷ bytes)) = ap (λ t. 36 ∷ t) (append_assoc comment (10 ∷ []) bytes) in
    let long : length (comment ++ 10 ∷ []) ≡ length comment + 1 = length-append comment (10 ∷ []) in
    let inside = comment_len comment bytes e in
    subst (λ (t : List ℕ). Lexed t words) both
    (gap_before (36 ∷ (comment ++ 10 ∷ [])) bytes words
    (ap (gap_len false) both ∙ ap suc inside ∙ omega (arith, long)) rest)

-- ---- words

-- whether a text's first byte begins no gap
abbrev pub begins_no_gap : List ℕ → Bool
begins_no_gap [] = false
begins_no_gap (b ∷ bs) = not (separates false b)

-- whether a text is a token that is no number of too many digits
abbrev pub is_short : List ℕ → Bool
is_short word = not (is_number word && nat_lt 18 (length word))

no_gap : (word rest : List ℕ) → begins_no_gap word ≡ true → gap_len false (word ++ rest) ≡ 0
no_gap [] rest e = absurd (false≢true e)
no_gap (b ∷ word) rest e = cond-false (separates false b) _ 0 (not_true _ e)

some_bytes : (word : List ℕ) → begins_no_gap word ≡ true → 0 < length word
some_bytes [] e = absurd (false≢true e)
some_bytes (b ∷ word) e = omega arith

picked : (past none long : Bool) (fault other : TokenFault) (t : Token) → past ≡ false → none ≡ false → long ≡ false → cond past (Ok None) (cond none (Err fault) (cond long (Err other) (Ok (Some t)))) ≡ Ok (Some t)
picked past none long fault other t e f g = rw (e, f, g) refl

-- the token of a word
abbrev pub token_for : List ℕ → ℕ → List ℕ → Token
token_for text offset word =
    record { kind = kind_of word; from = offset; to = offset + length word; place = place_at text offset }

word_range : (before word rest : List ℕ) → slice_range (before ++ (word ++ rest)) (length before) (length before + length word) ≡ word
word_range before word rest =
    let span : length before + length word - length before ≡ length word = omega arith in
    ap (λ n. take n (drop (length before) (before ++ (word ++ rest)))) span
    ∙ ap (take (length word)) (drop-append_seam before (word ++ rest)) ∙ take-append_seam word rest

found_here : (before word rest : List ℕ) → 0 < length word → token_len (word ++ rest) ≡ length word → is_short word ≡ true
    → token_at (before ++ (word ++ rest)) (length before) ≡ Ok (Some (token_for (before ++ (word ++ rest)) (length before) word))
unfolding token_at
found_here before word rest some long short =
    let text = before ++ (word ++ rest) in
    let offset = length before in
    let size : token_len (drop offset text) ≡ length word = ap token_len (drop-append_seam before (word ++ rest)) ∙ long in
    let all = length-append before (word ++ rest) in
    let both = length-append word rest in
    let past : nat_le (length text) offset ≡ false = false_from_ne_true _ (λ t. let le = leb-true (length text) offset t in absurd (omega (arith, all, both, some, le))) in
    let none : (offset + length word == offset) ≡ false = false_from_ne_true _ (λ t. let same = eqb-true (offset + length word) offset t in absurd (omega (arith, some, same))) in
    ap (λ n. cond (nat_le (length text) offset) (Ok None) (cond (offset + n == offset) (Err (BadByte (place_at text offset))) (cond (is_number (slice_range text offset (offset + n)) && nat_lt 18 (length (slice_range text offset (offset + n)))) (Err (LongNumber (place_at text offset))) (Ok (Some (record { kind = kind_of (slice_range text offset (offset + n)); from = offset; to = offset + n; place = place_at text offset })))))) size
    ∙ ap (λ w. cond (nat_le (length text) offset) (Ok None) (cond (offset + length word == offset) (Err (BadByte (place_at text offset))) (cond (is_number w && nat_lt 18 (length w)) (Err (LongNumber (place_at text offset))) (Ok (Some (record { kind = kind_of w; from = offset; to = offset + length word; place = place_at text offset })))))) (word_range before word rest)
    ∙ picked _ _ _ _ _ _ past none (not_true _ short)

-- A word, and then bytes of which the tokens are known.
pub lexed_word : (word rest : List ℕ) (words : Words) → begins_no_gap word ≡ true → is_short word ≡ true → is_token word rest ≡ true → ends_before word rest ≡ true
    → Lexed rest words → Lexed (word ++ rest) (word ∷ words)
unfolding tokens_from lexemes_of
lexed_word word rest words opens short token ends later before =
    let text = before ++ (word ++ rest) in
    let some = some_bytes word opens in
    let t = token_for text (length before) word in
    let regrouped : (before ++ word) ++ rest ≡ text = append_assoc before word rest in
    let at : length (before ++ word) ≡ length before + length word = length-append before word in
    let all = length-append before (word ++ rest) in
    let both = length-append word rest in
    let s : Scanned text (length before + length word) words =
    subst (λ (o : ℕ). Scanned text o words) at (subst (λ (t : List ℕ). Scanned t (length (before ++ word)) words) regrouped (later (before ++ word))) in
    let gap : length before + gap_len false (drop (length before) text) ≡ length before =
    ap (λ bs. length before + gap_len false bs) (drop-append_seam before (word ++ rest)) ∙ ap (λ n. length before + n) (no_gap word rest opens) ∙ omega arith in
    let here = found_here before word rest some (word_len word rest some token ends) short in
    let behind : tokens_from (length text) text (length before + length word) ≡ Ok s.tokens =
    enough_tokens (length text) (suc (length text)) text (length before + length word) (omega (arith, all, both)) (omega (arith, all, both)) ∙ s.found in
    record {
      tokens = t ∷ s.tokens;
      found =
          ap (λ o. followed_by (token_at text o) (λ to. tokens_from (length text) text to)) gap
          ∙ ap (λ f. followed_by f (λ to. tokens_from (length text) text to)) here
          ∙ ap (with_first t) behind;
      says = ap (λ w. saying_of w (kind_of word) ∷ sayings (lexemes_of text s.tokens)) (word_range before word rest) ∙ ap (λ ss. word_saying word ∷ ss) s.says;
    }

-- ---- a whole text

-- the tokens of a text are these words
pub record Reads (text : List ℕ) (words : Words) : Type 0 where
  pub tokens : List Token
  pub found : tokens_of text ≡ Ok tokens
  pub says : sayings (lexemes_of text tokens) ≡ word_sayings words

pub whole_text : (text : List ℕ) (words : Words) → Lexed text words → Reads text words
unfolding tokens_of
whole_text text words lexed = let s = lexed [] in record { tokens = s.tokens; found = s.found; says = s.says }
