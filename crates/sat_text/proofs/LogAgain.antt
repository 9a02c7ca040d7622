-- A log that is written is read again.
use Rattle.std.proofs.Common.{◌≡◌, neg_ℤ, ℕ, zero, suc, ℤ, pos, ◌+◌, ◌^◌, ◌<◌, ◌≤◌, Bool, true, false, cond, eqb, List, [], ◌∷◌, ◌++◌, map, Option, Some, None, Result, Ok, Err, IfOk, refl, sym, ap, subst, ◌∙◌, append_assoc, arith, inl, inr}
use Rattle.std.proofs.lemmas.Bool.Decides.{nat_tests}
use Rattle.std.proofs.lemmas.Bool.{eqb-true}
use Rattle.std.proofs.lemmas.List.Concat.{flat_map-cons, flat_map-append}
use Rattle.std.specs.List.{flat_map, AllByRecursion}
use Rattle.std.specs.Global.{Vec}
use Rattle.cnf_core.specs.Events.{LogEvent}
use Rattle.std.specs.Prelude.{All, unsigned_abs, codes}
use Rattle.std.proofs.lemmas.List.Elements.{recursion_from_All}
use Rattle.std.specs.Fmt.{signed_decimal}
use Rattle.cnf_core.specs.Literal.{Literal, IsVariable, IsClause}
use Rattle.sat_text.specs.Words.{lines, words, is_comment, says_nothing}
use Rattle.sat_text.specs.Clauses.{is_zero, literal_of, number_of}
use Rattle.sat_text.specs.Proofs.{whole_at, items_at, positive_of, any_literal, any_hint, addition_at, is_d, behind_id, line_of, before_others, proof_from, proof_of}
use Rattle.cnf_core.specs.LogLines.{log_lines}
use Rattle.sat_text.specs.Writing.{spaced, line_text, log_text, IsShort, IsReadable}
use Rattle.sat_text.specs.Numbers.{whole_of}
use Rattle.cnf_core.specs.Lines.{ProofLine, add, delete}
use Rattle.sat_text.proofs.Cuts.{bool_cases}
use Rattle.sat_text.proofs.Order.{clause_again}
use Rattle.sat_text.proofs.Again.{whole_again, IsWord, AreWords, number_is_word, joined, words_again, line_again, joined_line}

-- the word of a 0
abbrev pub zero_word : List ℕ
zero_word = 48 ∷ []

-- numbers of at most eighteen digits, none of which is 0
abbrev pub AreNumbers : List ℤ → Type 0
AreNumbers [] = Unit {0}
AreNumbers (n ∷ numbers) = (unsigned_abs n < 10 ^ 18) × (is_zero n ≡ false) × AreNumbers numbers

pub spaced_is : (numbers : List ℤ) → spaced numbers ≡ joined (map signed_decimal numbers)
spaced_is [] = refl
spaced_is (n ∷ numbers) = flat_map-cons (λ n. 32 ∷ signed_decimal n) n numbers ∙ ap (λ (t : List ℕ). (32 ∷ signed_decimal n) ++ t) (spaced_is numbers) ∙ sym (flat_map-cons (λ word. 32 ∷ word) (signed_decimal n) (map signed_decimal numbers))

numbers_are_words : (numbers : List ℤ) (others : List (List ℕ)) → AreNumbers numbers → AreWords others → AreWords (map signed_decimal numbers ++ others)
numbers_are_words [] others a b = b
numbers_are_words (n ∷ numbers) others a b = (number_is_word n a.0, numbers_are_words numbers others a.2 b)

-- the words of a line that adds
abbrev add_words : List ℤ → List ℤ → List (List ℕ)
add_words literals hints = map signed_decimal literals ++ (zero_word ∷ (map signed_decimal hints ++ (zero_word ∷ [])))

joined_append : (xs ys : List (List ℕ)) → joined (xs ++ ys) ≡ joined xs ++ joined ys
joined_append xs ys = flat_map-append (λ word. 32 ∷ word) xs ys

body_is : (literals hints : List ℤ) → spaced literals ++ (codes " 0" ++ (spaced hints ++ codes " 0\n")) ≡ joined (add_words literals hints) ++ 10 ∷ []
body_is literals hints =
    let end : joined (zero_word ∷ []) ≡ 32 ∷ 48 ∷ [] = refl in
    let behind : joined (map signed_decimal hints ++ (zero_word ∷ [])) ≡ spaced hints ++ (32 ∷ 48 ∷ []) = joined_append (map signed_decimal hints) (zero_word ∷ []) ∙ ap (λ (t : List ℕ). t ++ (32 ∷ 48 ∷ [])) (sym (spaced_is hints)) in
    let middle : joined (zero_word ∷ (map signed_decimal hints ++ (zero_word ∷ []))) ≡ 32 ∷ 48 ∷ (spaced hints ++ (32 ∷ 48 ∷ [])) = flat_map-cons (λ word. 32 ∷ word) zero_word (map signed_decimal hints ++ (zero_word ∷ [])) ∙ ap (λ (t : List ℕ). 32 ∷ 48 ∷ t) behind in
    let whole : joined (add_words literals hints) ≡ spaced literals ++ (32 ∷ 48 ∷ (spaced hints ++ (32 ∷ 48 ∷ [])))
    = joined_append (map signed_decimal literals) (zero_word ∷ (map signed_decimal hints ++ (zero_word ∷ [])))
    ∙ ap (λ (t : List ℕ). t ++ joined (zero_word ∷ (map signed_decimal hints ++ (zero_word ∷ [])))) (sym (spaced_is literals)) ∙ ap (λ (t : List ℕ). spaced literals ++ t) middle in
    sym (ap (λ (t : List ℕ). t ++ 10 ∷ []) whole ∙ append_assoc (spaced literals) (32 ∷ 48 ∷ (spaced hints ++ (32 ∷ 48 ∷ []))) (10 ∷ [])
    ∙ ap (λ (t : List ℕ). spaced literals ++ (32 ∷ 48 ∷ t)) (append_assoc (spaced hints) (32 ∷ 48 ∷ []) (10 ∷ [])))

items_again : {X : Type 0} (item : ℤ → Option X) (number : X → ℤ) (xs : List X) (later : List (List ℕ)) → AreNumbers (map number xs) → ((x : X) → item (number x) ≡ Some x) → items_at item (map signed_decimal (map number xs) ++ (zero_word ∷ later)) ≡ Some (xs, later)
unfolding items_at
items_again item number [] later a h = refl
items_again item number (x ∷ xs) later a h = rw (whole_again (number x) a.0, a.1, h x, items_again item number xs later a.2 h) refl

pub signed_again : (v : ℕ) (positive : Bool) → 1 ≤ v → literal_of (cond positive (pos v) (neg_ℤ (pos v))) ≡ record { var = v; positive = positive }
signed_again zero positive some = absurd (omega arith)
signed_again (suc v) true some = refl
signed_again (suc v) false some = refl

pub literal_again : (l : Literal) → IsVariable l.var → literal_of (number_of l) ≡ l
literal_again l v = signed_again l.var l.positive v.0

pub signed_short : (v : ℕ) (positive : Bool) → IsVariable v → IsShort (cond positive (pos v) (neg_ℤ (pos v)))
signed_short zero positive v = absurd (omega (arith, v.0))
signed_short (suc k) true v = (omega (arith, v.1), grind (arith, nat_tests))
signed_short (suc k) false v = (omega (arith, v.1), refl)

literals_short : (literals : List Literal) → AllByRecursion (λ l. IsVariable l.var) literals → AreNumbers (map number_of literals)
literals_short [] v = tt
literals_short (l ∷ literals) v = let s = signed_short l.var l.positive v.0 in (s.0, s.1, literals_short literals v.1)

hints_short : (hints : List ℤ) → AllByRecursion IsShort hints → AreNumbers hints
hints_short [] h = tt
hints_short (n ∷ hints) h = (h.0.0, h.0.1, hints_short hints h.1)

pub in_range : (clause : List Literal) → IsClause clause → AllByRecursion (λ l. IsVariable l.var) clause
in_range clause is = recursion_from_All (λ l. IsVariable l.var) clause is.variables

each_short : (hints : List ℤ) → All IsShort hints → AllByRecursion IsShort hints
each_short hints all = recursion_from_All IsShort hints all

literals_again : (literals : List Literal) (later : List (List ℕ)) → AllByRecursion (λ l. IsVariable l.var) literals → items_at any_literal (map signed_decimal (map number_of literals) ++ (zero_word ∷ later)) ≡ Some (literals, later)
unfolding items_at
literals_again [] later v = refl
literals_again (l ∷ literals) later v =
    let s = signed_short l.var l.positive v.0 in
    rw (whole_again (number_of l) s.0, s.1, literal_again l v.0, literals_again literals later v.1) refl

hints_again : (hints : List ℤ) (later : List (List ℕ)) → AllByRecursion IsShort hints → items_at any_hint (map signed_decimal hints ++ (zero_word ∷ later)) ≡ Some (hints, later)
unfolding items_at
hints_again [] later h = refl
hints_again (n ∷ hints) later h = rw (whole_again n h.0.0, h.0.1, hints_again hints later h.1) refl

-- a number's word is no `d`, and begins no comment
pub number_not_d : (word : List ℕ) (n : ℤ) → whole_of word ≡ Some n → is_d word ≡ false
number_not_d [] n e = refl
number_not_d (b ∷ []) n e = elim (bool_cases (eqb b 100)) [
  | inl t ↦ absurd (let same : b ≡ 100 = eqb-true _ _ t in let none : None ≡ Some n = subst (λ (c : ℕ). whole_of (c ∷ []) ≡ Some n) same e in cc)
  | inr f ↦ f
]
number_not_d (b ∷ c ∷ word) n e = refl

pub number_no_comment : (word rest : List ℕ) (n : ℤ) → whole_of word ≡ Some n → is_comment (word ++ rest) ≡ false
number_no_comment [] rest n e = absurd cc
number_no_comment (b ∷ word) rest n e = elim (bool_cases (eqb b 99)) [
  | inl t ↦ absurd (let same : b ≡ 99 = eqb-true _ _ t in let none : None ≡ Some n = subst (λ (c : ℕ). whole_of (c ∷ word) ≡ Some n) same e in cc)
  | inr f ↦ f
]

positive_again : (n : ℕ) → 0 < n → positive_of (pos n) ≡ Some n
positive_again zero some = absurd (omega arith)
positive_again (suc n) some = refl

addition_again : (id : ℕ) (clause : List Literal) (hints : List ℤ) → IsReadable (add id clause hints) → addition_at id (add_words (map number_of clause) hints) ≡ Some (add id clause hints)
unfolding addition_at
addition_again id clause hints r =
    rw (literals_again clause (map signed_decimal hints ++ (zero_word ∷ [])) (in_range clause r.2), hints_again hints [] (each_short hints r.3))
    (ap (λ (c : List Literal). Some (add id c hints)) (clause_again clause r.2.ordered))

behind_again : (id : ℕ) (clause : List Literal) (hints : List ℤ) → IsReadable (add id clause hints) → behind_id id (add_words (map number_of clause) hints) ≡ addition_at id (add_words (map number_of clause) hints)
unfolding behind_id
behind_again id [] hints r = refl
behind_again id (l ∷ clause) hints r =
    let s = signed_short l.var l.positive (in_range (l ∷ clause) r.2).0 in
    rw (number_not_d (signed_decimal (number_of l)) (number_of l) (whole_again (number_of l) s.0)) refl

line_of_again : (id : ℕ) (clause : List Literal) (hints : List ℤ) → IsReadable (add id clause hints) → line_of (signed_decimal (pos id) ∷ add_words (map number_of clause) hints) ≡ Some (add id clause hints)
unfolding line_of whole_at
line_of_again id clause hints r =
    rw (whole_again (pos id) r.1, positive_again id r.0) (behind_again id clause hints r ∙ addition_again id clause hints r)

zero_is_word : IsWord zero_word
zero_is_word = (refl, omega arith)

-- the line of a text that a line of a proof is written as
abbrev line_body : ℕ → List Literal → List ℤ → List ℕ
line_body id clause hints = signed_decimal (pos id) ++ joined (add_words (map number_of clause) hints)

words_are_words : (clause : List Literal) (hints : List ℤ) → AllByRecursion (λ l. IsVariable l.var) clause → AllByRecursion IsShort hints → AreWords (add_words (map number_of clause) hints)
words_are_words clause hints v h =
    numbers_are_words (map number_of clause) (zero_word ∷ (map signed_decimal hints ++ (zero_word ∷ []))) (literals_short clause v) (zero_is_word, numbers_are_words hints (zero_word ∷ []) (hints_short hints h) (zero_is_word, tt))

text_is : (id : ℕ) (clause : List Literal) (hints : List ℤ) (rest : List ℕ) → line_text (add id clause hints) ++ rest ≡ line_body id clause hints ++ 10 ∷ rest
text_is id clause hints rest =
    let ws = add_words (map number_of clause) hints in
    let body : line_text (add id clause hints) ≡ signed_decimal (pos id) ++ (joined ws ++ 10 ∷ []) = ap (λ (t : List ℕ). signed_decimal (pos id) ++ t) (body_is (map number_of clause) hints) in
    ap (λ (t : List ℕ). t ++ rest) (body ∙ sym (append_assoc (signed_decimal (pos id)) (joined ws) (10 ∷ []))) ∙ append_assoc (line_body id clause hints) (10 ∷ []) rest

line_read : (number id : ℕ) (clause : List Literal) (hints : List ℤ) (rest : List ℕ) → IsReadable (add id clause hints)
    → proof_from number (lines (line_text (add id clause hints) ++ rest)) ≡ before_others number (Some (add id clause hints)) (proof_from (number + 1) (lines rest))
unfolding proof_from
line_read number id clause hints rest r =
    let ws = add_words (map number_of clause) hints in
    let body = line_body id clause hints in
    let id_word : IsWord (signed_decimal (pos id)) = number_is_word (pos id) r.1 in
    let all_words = words_are_words clause hints (in_range clause r.2) (each_short hints r.3) in
    let cut : lines (line_text (add id clause hints) ++ rest) ≡ body ∷ lines rest = ap lines (text_is id clause hints rest) ∙ line_again body rest (joined_line (signed_decimal (pos id)) ws id_word all_words) in
    let found : words body ≡ signed_decimal (pos id) ∷ ws = words_again (signed_decimal (pos id)) ws id_word all_words in
    let speaks : says_nothing body ≡ false = rw (number_no_comment (signed_decimal (pos id)) (joined ws) (pos id) (whole_again (pos id) r.1), found) refl in
    let says : line_of (words body) ≡ Some (add id clause hints) = ap line_of found ∙ line_of_again id clause hints r in
    ap (proof_from number) cut ∙ rw (speaks, says) refl

-- lines that can be read are read as they were written
lines_read : (number : ℕ) (written : List ProofLine) → AllByRecursion IsReadable written → proof_from number (lines (flat_map line_text written)) ≡ Ok written
unfolding proof_from
lines_read number [] r = refl
lines_read number (delete ids ∷ written) r = absurd r.0
lines_read number (add id clause hints ∷ written) r =
    ap (λ (t : List ℕ). proof_from number (lines t)) (flat_map-cons line_text (add id clause hints) written)
    ∙ line_read number id clause hints (flat_map line_text written) r.0
    ∙ ap (before_others number (Some (add id clause hints))) (lines_read (number + 1) written r.1)

pub lines_are_read : (written : List ProofLine) → All IsReadable written → proof_of (flat_map line_text written) ≡ Ok written
lines_are_read written r = lines_read 1 written (recursion_from_All IsReadable written r)

-- the text of a log, where there is memory for it
pub log_again : {E : Type 0} (r : Result (Vec ℕ) E) (events : List LogEvent) → IfOk r (λ text. text.items ≡ log_text events)
    → IfOk r (λ _. All IsReadable (log_lines events)) → IfOk r (λ text. proof_of text.items ≡ Ok (log_lines events))
log_again (Ok text) events is readable = ap proof_of is ∙ lines_are_read (log_lines events) readable
log_again (Err e) events is readable = tt
