-- The symbols by their length, and the longest front of some bytes that passes a test.
use Rattle.std.proofs.Common.{◌≡◌, ℕ, zero, suc, ◌+◌, ◌<◌, ◌≤◌, ◌⊎◌, Bool, true, false, not, ◌&&◌, ◌||◌, List, [], ◌∷◌, length, take, drop, get_or, refl, sym, subst, ⊎_elim, inl, inr, arith, length-take-le}
use Rattle.std.specs.Prelude.{◌==◌, nat_le}
use Rattle.std.proofs.Math.Bool.{or-false}
use Rattle.std.proofs.lemmas.Bool.{leb-true, le-leb, lt-leb, false≢true, and_parts, cases_eq, cases_lt}
use Rattle.std.proofs.lemmas.Bool.Decides.{nat_tests}
use Rattle.std.proofs.lemmas.List.{length-take}
use Rattle.ep_base.proofs.WordLengths.{is_one_of-fails, is_one_of-of_length, of_length}
use Rattle.ep_base.specs.TokenTexts.{is_one_of, symbols, list_comparisons, name_follows, is_symbol}
use Rattle.ep_base.specs.Tokens.{greatest}
use Rattle.ep_lexer.specs.Symbols.{begins_with_symbol_of}

-- so many bytes can be taken exactly where there are so many
length_take_eq : (n : ℕ) (bytes : List ℕ) → (length (take n bytes) == n) ≡ nat_le n (length bytes)
length_take_eq n bytes = let e = length-take n bytes in grind (arith, nat_tests)

distribute : (l a b c : Bool) → ((l && a) || ((l && b) && c)) ≡ (l && (a || (b && c)))
distribute true a b c = refl
distribute false a b c = refl

among_both : (n : ℕ) (some others : List (List ℕ)) (bytes : List ℕ) (b : Bool) → (is_one_of (of_length n some) (take n bytes) || (is_one_of (of_length n others) (take n bytes) && b)) ≡ (nat_le n (length bytes) && (is_one_of some (take n bytes) || (is_one_of others (take n bytes) && b)))
among_both n some others bytes b =
    rw (is_one_of-of_length n some (take n bytes), is_one_of-of_length n others (take n bytes), length_take_eq n bytes)
    (distribute (nat_le n (length bytes)) (is_one_of some (take n bytes)) (is_one_of others (take n bytes)) b)

-- the first n bytes are a symbol exactly where they are one of the symbols of n bytes
pub begins_with_symbol_of-is : (n : ℕ) (bytes : List ℕ) → (is_one_of (of_length n symbols) (take n bytes) || (is_one_of (of_length n list_comparisons) (take n bytes) && not (name_follows (drop n bytes)))) ≡ begins_with_symbol_of n bytes
unfolding begins_with_symbol_of is_symbol
begins_with_symbol_of-is n bytes = among_both n symbols list_comparisons bytes (not (name_follows (drop n bytes)))

-- no comparison of lists has one byte or two
no_short_comparison : (text : List ℕ) → length text < 4 → is_one_of list_comparisons text ≡ false
no_short_comparison text short = is_one_of-fails (λ t. nat_le 4 (length t)) list_comparisons text refl (lt-leb 4 (length text) short)

neither : (a b c : Bool) → a ≡ false → b ≡ false → (a || (b && c)) ≡ false
neither a b c e f = rw (e, f) refl

one_kind : (l a b c : Bool) → l ≡ true → b ≡ false → a ≡ (l && (a || (b && c)))
one_kind true a true c e f = absurd (false≢true (sym f))
one_kind true a false c e f = sym (or-false a)
one_kind false a b c e f = absurd (false≢true e)

symbol_of_few : (n : ℕ) (bytes : List ℕ) → n ≤ length bytes → n < 4 → is_one_of symbols (take n bytes) ≡ begins_with_symbol_of n bytes
unfolding begins_with_symbol_of is_symbol
symbol_of_few n bytes long few =
    one_kind (nat_le n (length bytes)) (is_one_of symbols (take n bytes)) (is_one_of list_comparisons (take n bytes)) (not (name_follows (drop n bytes))) (le-leb n (length bytes) long) (no_short_comparison (take n bytes) (omega (arith, length-take-le n bytes long)))

pub symbol_of_one : (bytes : List ℕ) → 0 < length bytes → is_one_of symbols (get_or bytes 0 0 ∷ []) ≡ begins_with_symbol_of 1 bytes
symbol_of_one [] none = absurd (omega arith)
symbol_of_one (b ∷ bs) some = symbol_of_few 1 (b ∷ bs) (omega arith) (omega arith)

pub symbol_of_two : (bytes : List ℕ) → 1 < length bytes → is_one_of symbols (get_or bytes 0 0 ∷ get_or bytes 1 0 ∷ []) ≡ begins_with_symbol_of 2 bytes
symbol_of_two [] none = absurd (omega arith)
symbol_of_two (b ∷ []) none = absurd (omega arith)
symbol_of_two (b ∷ c ∷ bs) some = symbol_of_few 2 (b ∷ c ∷ bs) (omega arith) (omega arith)

pub symbol_too_short : (n : ℕ) (bytes : List ℕ) → length bytes < n → begins_with_symbol_of n bytes ≡ false
unfolding begins_with_symbol_of
symbol_too_short n bytes short = rw (lt-leb n (length bytes) short) refl

-- the greatest number that passes is that which passes, where none above it does
pub greatest_is : (passes : ℕ → Bool) (k n : ℕ) → n ≤ k → ((n ≡ 0) ⊎ (passes n ≡ true)) → ((m : ℕ) → n < m → m ≤ k → passes m ≡ false) → greatest passes k ≡ n
greatest_is passes zero n within at above = omega arith
greatest_is passes (suc k) n within at above =
    ⊎_elim
    (λ (e : n ≡ suc k).
    let t : passes (suc k) ≡ true = ⊎_elim (λ z. absurd (omega arith)) (λ t. subst (λ m. passes m ≡ true) e t) at in
    rw t (sym e))
    (λ (apart : n ≡ suc k → ⊥).
    let f = above (suc k) (omega arith) (omega arith) in
    rw f (greatest_is passes k n (omega arith) at (λ m low high. above m low (omega arith))))
    (cases_eq n (suc k))

-- no symbol has more than five bytes
no_long_symbol : (text following : List ℕ) → 5 < length text → is_symbol text following ≡ false
unfolding is_symbol
no_long_symbol text following long =
    let f = is_one_of-fails (λ t. nat_le (length t) 5) symbols text refl (lt-leb (length text) 5 long) in
    let g = is_one_of-fails (λ t. nat_le (length t) 5) list_comparisons text refl (lt-leb (length text) 5 long) in
    neither (is_one_of symbols text) (is_one_of list_comparisons text) _ f g

within_and : (l b : Bool) → l ≡ true → (l && b) ≡ false → b ≡ false
within_and true b e f = f
within_and false b e f = absurd (false≢true e)

-- the longest front that is a symbol
pub longest_symbol : (bytes : List ℕ) (n : ℕ) → ((n ≡ 0) ⊎ (begins_with_symbol_of n bytes ≡ true)) → ((m : ℕ) → n < m → m < 6 → begins_with_symbol_of m bytes ≡ false) → n ≡ greatest (λ n. is_symbol (take n bytes) (drop n bytes)) (length bytes)
unfolding begins_with_symbol_of
longest_symbol bytes n at above =
    sym (greatest_is (λ n. is_symbol (take n bytes) (drop n bytes)) (length bytes) n
    (⊎_elim (λ z. omega arith) (λ t. leb-true n (length bytes) (and_parts _ _ t).0) at)
    (⊎_elim (λ z. inl z) (λ t. inr (and_parts _ _ t).1) at)
    (λ m low high.
    ⊎_elim
    (λ (few : m < 6). within_and _ _ (le-leb m (length bytes) high) (above m low few))
    (λ (many : 6 ≤ m). no_long_symbol (take m bytes) (drop m bytes) (omega (arith, length-take-le m bytes high)))
    (cases_lt m 6)))

-- what holds of none above a number and not of that one holds of none from it on
pub none_from : (passes : ℕ → Bool) (n : ℕ) → passes (n + 1) ≡ false → ((m : ℕ) → n + 1 < m → m < 6 → passes m ≡ false) → (m : ℕ) → n < m → m < 6 → passes m ≡ false
none_from passes n here above m low high =
    ⊎_elim (λ e. subst (λ k. passes k ≡ false) (sym e) here) (λ apart. above m (omega arith) high) (cases_eq m (n + 1))

pub none_above_five : (passes : ℕ → Bool) (m : ℕ) → 5 < m → m < 6 → passes m ≡ false
none_above_five passes m low high = absurd (omega arith)
