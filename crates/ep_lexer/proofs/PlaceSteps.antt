-- Places and gaps, one byte after another.
use Rattle.std.proofs.Common.{◌≡◌, ℕ, zero, suc, ◌+◌, ◌-◌, ◌<◌, ◌≤◌, Bool, true, false, not, List, length, take, drop, get_or, refl, sym, ap, ◌∙◌, ⊎_elim, arith, length-take-le}
use Rattle.std.specs.List.{suffix_len}
use Rattle.std.proofs.lemmas.Bool.{cases_Bool, cond-true, cond-false}
use Rattle.std.proofs.lemmas.List.{drop_more, drop_all}
use Rattle.std.proofs.lemmas.List.Sums.{suffix_len-take_yes, suffix_len-take_no, suffix_len-le-length, count_by_more_yes, count_by_more_no, count_by-le-length}
use Rattle.ep_base.specs.declared.places.Place.{Place}
use Rattle.ep_base.specs.Tokens.{place_at, is_line_end, gap_len, separates, in_comment_after, place_after}

pub place_start : (text : List ℕ) → place_at text 0 ≡ record { line = 1; column = 1 }
unfolding place_at
place_start text = refl

abbrev pub place : ℕ → ℕ → Place
place line column = record { line = line; column = column }

same_place : (l m c d : ℕ) → l ≡ m → c ≡ d → place l c ≡ place m d
same_place l m c d e f = λ i. place (e i) (f i)

-- whether a byte is none that ends a line
abbrev pub is_no_line_end : ℕ → Bool
is_no_line_end byte = not (is_line_end byte)

byte_before : (text : List ℕ) (i : ℕ) (b : Bool) → is_no_line_end (get_or text i 0) ≡ b → is_no_line_end (get_or text (i + 1 - 1) 0) ≡ b
byte_before text i b e = let same : i + 1 - 1 ≡ i = omega arith in rw same e

take_before : (text : List ℕ) (i : ℕ) → suffix_len is_no_line_end (take (i + 1 - 1) text) ≡ suffix_len is_no_line_end (take i text)
take_before text i = let same : i + 1 - 1 ≡ i = omega arith in rw same refl

-- one byte further
pub place_step : (text : List ℕ) (i : ℕ) → i < length text → place_at text (i + 1) ≡ place_after (place_at text i) (get_or text i 0)
unfolding place_at
place_step text i within =
    let byte = get_or text i 0 in
    ⊎_elim
    (λ (e : is_line_end byte ≡ true).
    let line = count_by_more_yes is_line_end text i 0 within e in
    let column = suffix_len-take_no is_no_line_end text (i + 1) 0 (omega arith) (omega arith) (byte_before text i false (ap not e)) in
    same_place _ _ _ _ (ap (λ n. n + 1) line) (ap (λ n. n + 1) column) ∙ sym (cond-true _ _ _ e))
    (λ (e : is_line_end byte ≡ false).
    let line = count_by_more_no is_line_end text i 0 within e in
    let column = suffix_len-take_yes is_no_line_end text (i + 1) 0 (omega arith) (omega arith) (byte_before text i true (ap not e)) in
    let before = take_before text i in
    same_place _ _ _ _ (ap (λ n. n + 1) line) (omega arith) ∙ sym (cond-false _ _ _ e))
    (cases_Bool (is_line_end byte))

-- the gap goes on over a byte that separates tokens
pub gap_goes_on : (in_comment : Bool) (text : List ℕ) (i : ℕ) → i < length text → separates in_comment (get_or text i 0) ≡ true → gap_len in_comment (drop i text) ≡ suc (gap_len (in_comment_after in_comment (get_or text i 0)) (drop (i + 1) text))
gap_goes_on in_comment text i within e =
    ap (gap_len in_comment) (drop_more text i 0 within) ∙ cond-true _ _ _ e

-- and ends before any other
pub gap_ends : (in_comment : Bool) (text : List ℕ) (i : ℕ) → i < length text → separates in_comment (get_or text i 0) ≡ false → gap_len in_comment (drop i text) ≡ 0
gap_ends in_comment text i within e =
    ap (gap_len in_comment) (drop_more text i 0 within) ∙ cond-false _ _ _ e

pub gap_at_end : (in_comment : Bool) (text : List ℕ) (i : ℕ) → length text ≤ i → gap_len in_comment (drop i text) ≡ 0
gap_at_end in_comment text i past = ap (gap_len in_comment) (drop_all i text past)

-- no place has a line or a column beyond the bytes before it
pub place_small : (text : List ℕ) (i : ℕ) → i ≤ length text → ((place_at text i).line ≤ i + 1) × ((place_at text i).column ≤ i + 1)
unfolding place_at
place_small text i within =
    let size = length-take-le i text within in
    (omega (arith, count_by-le-length is_line_end (take i text)), omega (arith, suffix_len-le-length is_no_line_end (take i text)))

-- where no line ends, the place is so many columns further
pub place_further : (text : List ℕ) (offset n : ℕ) → offset + n ≤ length text → ((k : ℕ) → k < n → is_line_end (get_or text (offset + k) 0) ≡ false) → place_at text (offset + n) ≡ place (place_at text offset).line ((place_at text offset).column + n)
place_further text offset zero within none =
    let e : offset + 0 ≡ offset = omega arith in
    ap (place_at text) e ∙ same_place _ _ _ _ refl (omega arith)
place_further text offset (suc n) within none =
    let e : offset + suc n ≡ offset + n + 1 = omega arith in
    let again = place_further text offset n (omega arith) (λ k low. none k (omega arith)) in
    let here = none n (omega arith) in
    let column : (place_at text offset).column + n + 1 ≡ (place_at text offset).column + suc n = omega arith in
    ap (place_at text) e
    ∙ place_step text (offset + n) (omega arith)
    ∙ cond-false _ _ _ here
    ∙ ap (λ p. place p.line (p.column + 1)) again
    ∙ same_place _ _ _ _ refl column
