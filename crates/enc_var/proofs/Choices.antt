-- Which literal or constant a statement on a variable is, by the tests that the code makes.
use Rattle.std.proofs.Common.{◌≡◌, ℕ, ◌+◌, ◌-◌, ◌<◌, ◌≤◌, ℤ, true, false, nat_le, ◌==◌, length, List, refl, sym, ap, ◌∙◌, arith}
use Rattle.std.proofs.lemmas.Bool.Decides.{nat_tests}
use Rattle.cnf_core.specs.Literal.{Literal}
use Rattle.ep_base.specs.Numbers.{has_number}
use Rattle.enc_var.specs.Decoding.{VariableLiterals, among_first, eq_of, le_of, no, literal_of_note, place_literal, values_below, values_up_to, yes}
use Rattle.enc_var.specs.declared.known.Known.TheVariants as known

pub at_most : (m n : ℕ) → m ≤ n → nat_le m n ≡ true
at_most m n h = grind (arith, nat_tests)

pub not_at_most : (m n : ℕ) → n < m → nat_le m n ≡ false
not_at_most m n h = grind (arith, nat_tests)

some : (n : ℕ) → 0 < n → (n == 0) ≡ false
some n h = grind (arith, nat_tests)

pub place_single : (first count place : ℕ) → count ≤ 1 → yes first ≡ place_literal first count place
unfolding place_literal
place_single first count place few = rw (at_most count 1 few) refl

pub place_first : (first count place : ℕ) → 1 < count → place ≡ 0 → no first ≡ place_literal first count place
unfolding place_literal
place_first first count place many zero = rw (not_at_most count 1 many, zero) refl

pub place_last : (first count place : ℕ) → 1 < count → 0 < place → count ≤ place + 1 → yes (first + (place - 1)) ≡ place_literal first count place
unfolding place_literal
place_last first count place many later last = rw (not_at_most count 1 many, some place later, at_most count (place + 1) last) refl

pub place_inner : (first count place : ℕ) → 1 < count → 0 < place → place + 1 < count → yes (first + (count - 1) + (place - 1)) ≡ place_literal first count place
unfolding place_literal
place_inner first count place many later inner = rw (not_at_most count 1 many, some place later, not_at_most count (place + 1) inner) refl

pub le_none : (e : VariableLiterals) (v : ℤ) (count : ℕ) → count ≡ values_up_to e.domain v → count ≡ 0 → known.False ≡ le_of e v
unfolding le_of among_first
le_none e v count is zero = rw (sym is, zero) refl

pub le_all : (e : VariableLiterals) (v : ℤ) (count : ℕ) → count ≡ values_up_to e.domain v → 0 < count → length e.domain ≤ count → known.True ≡ le_of e v
unfolding le_of among_first
le_all e v count is more all = rw (sym is, some count more, at_most (length e.domain) count all) refl

pub le_is : (e : VariableLiterals) (v : ℤ) (count : ℕ) → count ≡ values_up_to e.domain v → 0 < count → count < length e.domain → known.Is (no (e.first + (count - 1))) ≡ le_of e v
unfolding le_of among_first
le_is e v count is more less = rw (sym is, some count more, not_at_most (length e.domain) count less) refl

pub eq_none : (e : VariableLiterals) (v : ℤ) → has_number e.domain v ≡ false → known.False ≡ eq_of e v
unfolding eq_of
eq_none e v h = rw h refl

pub eq_single : (e : VariableLiterals) (v : ℤ) → has_number e.domain v ≡ true → length e.domain ≤ 1 → known.True ≡ eq_of e v
unfolding eq_of
eq_single e v h few = rw (h, at_most (length e.domain) 1 few) refl

pub eq_is : (e : VariableLiterals) (v : ℤ) → has_number e.domain v ≡ true → 1 < length e.domain → known.Is (literal_of_note e v) ≡ eq_of e v
unfolding eq_of
eq_is e v h many = rw (h, not_at_most (length e.domain) 1 many) refl

-- what was counted among the values that were seen, which are those of the domain
pub counted_up_to : (count : ℕ) (seen values domain : List ℤ) (w v : ℤ) → seen ≡ values → values ≡ domain → w ≡ v → count ≡ values_up_to seen w → count ≡ values_up_to domain v
counted_up_to count seen values domain w v e g same h = h ∙ ap (λ xs. values_up_to xs w) (e ∙ g) ∙ ap (λ z. values_up_to domain z) same

pub counted_below : (count : ℕ) (seen values domain : List ℤ) (w v : ℤ) → seen ≡ values → values ≡ domain → w ≡ v → count ≡ values_below seen w → count ≡ values_below domain v
counted_below count seen values domain w v e g same h = h ∙ ap (λ xs. values_below xs w) (e ∙ g) ∙ ap (λ z. values_below domain z) same

-- the literal of a value is that of its place
pub noted_at : (e : VariableLiterals) (v : ℤ) (count place : ℕ) (l : Literal) → count ≡ length e.domain → place ≡ values_below e.domain v → l ≡ place_literal e.first count place → l ≡ literal_of_note e v
unfolding literal_of_note
noted_at e v count place l long is h = h ∙ ap (λ n. place_literal e.first n place) long ∙ ap (λ p. place_literal e.first (length e.domain) p) is
