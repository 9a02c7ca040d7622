-- The literals of a variable, and the value that an assignment gives it.
--
-- A variable with the values d0 < d1 < .. < dn has one literal for each "it is at least di" with i from 1 on, and behind
-- these one for each "it is di" that isn't the first or the last. A variable with a single value has one literal, which is
-- always true.
use Rattle.std.specs.Prelude.{◌≡◌, ℕ, ◌+◌, ◌-◌, ◌≤◌, ◌==◌, nat_le, ℤ, Bool, true, false, List, length, filter, if◌then◌else◌, int_le, int_lt}
use Rattle.std.specs.List.{Contains}
use Rattle.std.specs.Ordering.{int_eq}
use Rattle.ep_base.specs.Numbers.{has_number}
use Rattle.ep_base.specs.Reads.{first_or_zero, same_bool}
use Rattle.cnf_core.specs.Literal.{Literal, IsVariable}
use Rattle.enc_var.specs.declared.known.Known.{Known}
use Rattle.enc_var.specs.declared.known.Known.TheVariants as known

-- the values that a variable may have, in ascending order, and the first of its literals' variables
pub record VariableLiterals : Type 0 where
  pub domain : List ℤ
  pub first : ℕ

-- the literal that is true where the variable is
abbrev pub yes : ℕ → Literal
yes v = record { var = v; positive = true }

-- the literal that is true where the variable is false
abbrev pub no : ℕ → Literal
no v = record { var = v; positive = false }

-- how many values are below v
unfoldable pub values_below : List ℤ → ℤ → ℕ
values_below values v = length (filter (λ w. int_lt w v) values)

-- how many values are at most v
unfoldable pub values_up_to : List ℤ → ℤ → ℕ
values_up_to values v = length (filter (λ w. int_le w v) values)

-- "it is one of the first so many values"
unfoldable pub among_first : VariableLiterals → ℕ → Known
among_first e count =
    if count == 0
    then known.False
    else (if nat_le (length e.domain) count then known.True else known.Is (no (e.first + (count - 1))))

-- "it is at most v"
unfoldable pub le_of : VariableLiterals → ℤ → Known
le_of e v = among_first e (values_up_to e.domain v)

-- the literal that says that it is the value at this place, where there are so many and this is the first variable
unfoldable pub place_literal : ℕ → ℕ → ℕ → Literal
place_literal first count place =
    if nat_le count 1
    then yes first
    else (if place == 0
    then no first
    else (if nat_le count (place + 1) then yes (first + (place - 1)) else yes (first + (count - 1) + (place - 1))))

-- the literal that says that it is v, one of its values
unfoldable pub literal_of_note : VariableLiterals → ℤ → Literal
literal_of_note e v = place_literal e.first (length e.domain) (values_below e.domain v)

-- "it is v"
unfoldable pub eq_of : VariableLiterals → ℤ → Known
eq_of e v =
    if has_number e.domain v
    then (if nat_le (length e.domain) 1 then known.True else known.Is (literal_of_note e v))
    else known.False

-- whether a literal is true under an assignment
unfoldable pub literal_holds : (ℕ → Bool) → Literal → Bool
literal_holds s l = same_bool (s l.var) l.positive

-- whether what is known is so under an assignment
unfoldable pub known_holds : (ℕ → Bool) → Known → Bool
known_holds s known.True = true
known_holds s known.False = false
known_holds s (known.Is l) = literal_holds s l

-- The value that an assignment gives a variable: the first one whose literal is true, or 0 where there is none.
unfoldable pub decoded : (ℕ → Bool) → VariableLiterals → ℤ
decoded s e = first_or_zero (filter (λ v. known_holds s (eq_of e v)) e.domain)

-- Under an assignment a variable has one of its values, and what its literals say of it is so.
pub record Means (s : ℕ → Bool) (e : VariableLiterals) : Type 0 where
  pub among : Contains e.domain (decoded s e)
  pub at_most : (v : ℤ) → known_holds s (le_of e v) ≡ int_le (decoded s e) v
  pub equal : (v : ℤ) → known_holds s (eq_of e v) ≡ int_eq (decoded s e) v
  pub noted : (v : ℤ) → Contains e.domain v → literal_holds s (literal_of_note e v) ≡ int_eq (decoded s e) v

-- a literal is of a variable from 1 up to this number
abbrev pub IsLiteralUpTo : ℕ → Literal → Type 0
IsLiteralUpTo most l = IsVariable l.var × (l.var ≤ most)

-- the literal of what is known, if there is one, is of a variable from 1 up to this number
unfoldable pub IsKnownUpTo : ℕ → Known → Type 0
IsKnownUpTo most known.True = Unit {0}
IsKnownUpTo most known.False = Unit {0}
IsKnownUpTo most (known.Is l) = IsLiteralUpTo most l

-- each literal of a variable is over a variable from 1 up to this number
pub record HasLiteralsUpTo (most : ℕ) (e : VariableLiterals) : Type 0 where
  pub at_most : (v : ℤ) → IsKnownUpTo most (le_of e v)
  pub equal : (v : ℤ) → IsKnownUpTo most (eq_of e v)
  pub noted : (v : ℤ) → Contains e.domain v → IsLiteralUpTo most (literal_of_note e v)
