-- Which bytes may stand side by side in a token, and so where a token ends.
use Rattle.std.proofs.Common.{◌≡◌, ℕ, zero, suc, ◌<◌, ◌≤◌, Bool, true, false, not, ◌&&◌, ◌||◌, List, [], ◌∷◌, ◌++◌, length, take, drop, refl, sym, ap, ◌∙◌, ⊎_elim, inr, arith, length-append}
use Rattle.std.specs.Prelude.{◌==◌, ℕ, length}
use Rattle.std.specs.List.{list_all, list_any}
use Rattle.std.specs.Char.{is_ascii_digit}
use Rattle.std.proofs.lemmas.Bool.{and_from, and_parts, false_from_ne_true, false≢true, or_cases, or_left}
use Rattle.std.proofs.lemmas.Bool.Decides.{nat_tests}
use Rattle.std.proofs.Math.Seq.{take-append_seam}
use Rattle.ep_base.proofs.WordLengths.{is_one_of-passes, is_word-is, words}
use Rattle.ep_base.specs.TokenTexts.{begins_name, continues_name, is_name, is_number, is_one_of, is_symbol, is_token, is_word, list_comparisons, name_follows, symbols}
use Rattle.ep_base.specs.Tokens.{token_len}
use Rattle.ep_lexer.proofs.Fronts.{greatest_is}

-- the pairs of bytes that stand side by side in a symbol, the first and the second
abbrev pub symbol_pairs : List (ℕ × ℕ)
symbol_pairs =
    (46, 46) ∷ (42, 42) ∷ (33, 61) ∷ (60, 61) ∷ (62, 61) ∷ (47, 92) ∷ (92, 47) ∷ (45, 62) ∷ (60, 45) ∷ (60, 108) ∷ (61, 108)
    ∷ (62, 108) ∷ []

-- whether a byte may stand behind another in a token
abbrev pub joins : ℕ → ℕ → Bool
joins a b =
    (continues_name b && continues_name a) || ((b == 39 && continues_name a) || list_any (λ p. p.1 == b && p.0 == a) symbol_pairs)

-- whether each byte may stand behind the one before it
abbrev pub glued : List ℕ → Bool
glued [] = true
glued (a ∷ []) = true
glued (a ∷ b ∷ bs) = joins a b && glued (b ∷ bs)

name_joins : (a b : ℕ) → continues_name a ≡ true → continues_name b ≡ true → joins a b ≡ true
name_joins a b e f = or_left _ _ (and_from _ _ f e)

all_glued : (bytes : List ℕ) → list_all continues_name bytes ≡ true → glued bytes ≡ true
all_glued [] e = refl
all_glued (a ∷ []) e = refl
all_glued (a ∷ b ∷ bs) e =
    let first = and_parts (continues_name a) _ e in
    let second = and_parts (continues_name b) _ first.1 in
    and_from _ _ (name_joins a b first.0 second.0) (all_glued (b ∷ bs) first.1)

digit_continues : (b : ℕ) → is_ascii_digit b ≡ true → continues_name b ≡ true
digit_continues b e = grind (arith, nat_tests)

digits_continue : (bytes : List ℕ) → list_all is_ascii_digit bytes ≡ true → list_all continues_name bytes ≡ true
digits_continue [] e = refl
digits_continue (b ∷ bs) e =
    let parts = and_parts (is_ascii_digit b) _ e in
    and_from _ _ (digit_continues b parts.0) (digits_continue bs parts.1)

name_glued : (text : List ℕ) → is_name text ≡ true → glued text ≡ true
name_glued [] e = refl
name_glued (b ∷ bs) e =
    let parts = and_parts (begins_name b) _ e in
    all_glued (b ∷ bs) (and_from _ _ (or_left _ _ parts.0) parts.1)

number_glued : (text : List ℕ) → is_number text ≡ true → glued text ≡ true
number_glued [] e = refl
number_glued (b ∷ bs) e = all_glued (b ∷ bs) (digits_continue (b ∷ bs) e)

word_glued : (text : List ℕ) → is_word text ≡ true → glued text ≡ true
word_glued text e = is_one_of-passes glued words text refl (sym (is_word-is text) ∙ e)

symbol_glued : (text following : List ℕ) → is_symbol text following ≡ true → glued text ≡ true
unfolding is_symbol
symbol_glued text following e =
    ⊎_elim
    (λ (s : is_one_of symbols text ≡ true). is_one_of-passes glued symbols text refl s)
    (λ (l : (is_one_of list_comparisons text && not (name_follows following)) ≡ true). is_one_of-passes glued list_comparisons text refl (and_parts _ _ l).0)
    (or_cases _ _ e)

one_of_four : (n d w s : Bool) (P : Type 0) → (n ≡ true → P) → (d ≡ true → P) → (w ≡ true → P) → (s ≡ true → P) → (n || d || w || s) ≡ true → P
one_of_four true d w s P f g h k e = f refl
one_of_four false true w s P f g h k e = g refl
one_of_four false false true s P f g h k e = h refl
one_of_four false false false s P f g h k e = k e

-- in a token each byte may stand behind the one before it
pub token_glued : (text following : List ℕ) → is_token text following ≡ true → glued text ≡ true
unfolding is_token
token_glued text following e =
    one_of_four (is_name text) (is_number text) (is_word text) (is_symbol text following) (glued text ≡ true)
    (name_glued text) (number_glued text) (word_glued text) (symbol_glued text following) e

-- the last byte of some, or another where there is none
abbrev pub last_byte : ℕ → List ℕ → ℕ
last_byte before [] = before
last_byte before (b ∷ bs) = last_byte b bs

-- whether a token ends before these bytes: none of them stands there, or the first may not stand behind its last
abbrev pub ends_before : List ℕ → List ℕ → Bool
ends_before word [] = true
ends_before word (c ∷ cs) = not (joins (last_byte 0 word) c)

not_true : (b : Bool) → not b ≡ true → b ≡ false
not_true true e = absurd (false≢true e)
not_true false e = refl

and_false : (a b : Bool) → a ≡ false → (a && b) ≡ false
and_false a b e = rw e refl

and_false_right : (a b : Bool) → b ≡ false → (a && b) ≡ false
and_false_right true b e = e
and_false_right false b e = refl

-- bytes that reach beyond the end of a token are none
unglued : (word rest : List ℕ) (m : ℕ) → 0 < length word → ends_before word rest ≡ true → length word < m → m ≤ length (word ++ rest) → glued (take m (word ++ rest)) ≡ false
unglued [] rest m some ends low high = absurd (omega arith)
unglued (a ∷ word) rest zero some ends low high = absurd (omega arith)
unglued (a ∷ word) rest (suc zero) some ends low high = absurd (omega arith)
unglued (a ∷ []) [] (suc (suc m)) some ends low high = absurd (omega arith)
unglued (a ∷ []) (c ∷ cs) (suc (suc m)) some ends low high = and_false (joins a c) _ (not_true _ ends)
unglued (a ∷ b ∷ bs) rest (suc (suc m)) some ends low high =
    and_false_right (joins a b) _ (unglued (b ∷ bs) rest (suc m) (omega arith) ends (omega (arith, low)) (omega (arith, high)))

drop-append_seam : (xs ys : List ℕ) → drop (length xs) (xs ++ ys) ≡ ys
drop-append_seam [] ys = refl
drop-append_seam (x ∷ xs) ys = drop-append_seam xs ys

-- A token that ends before some bytes is the longest one there.
pub word_len : (word rest : List ℕ) → 0 < length word → is_token word rest ≡ true → ends_before word rest ≡ true → token_len (word ++ rest) ≡ length word
unfolding token_len
word_len word rest some token ends =
    let all = length-append word rest in
    let here : is_token (take (length word) (word ++ rest)) (drop (length word) (word ++ rest)) ≡ true =
    ap (λ t. is_token t (drop (length word) (word ++ rest))) (take-append_seam word rest) ∙ ap (is_token word) (drop-append_seam word rest) ∙ token in
    greatest_is (λ n. is_token (take n (word ++ rest)) (drop n (word ++ rest))) (length (word ++ rest)) (length word) (omega (arith, all)) (inr here)
    (λ m low high. false_from_ne_true _ (λ t. false≢true (sym (unglued word rest m some ends low high) ∙ token_glued (take m (word ++ rest)) (drop m (word ++ rest)) t)))
