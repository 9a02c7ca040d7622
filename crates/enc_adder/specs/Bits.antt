-- Numbers in binary, and steps of an encoding that take no assignment away.
use Rattle.std.specs.Prelude.{◌≡◌, ◌<◌, ◌↔◌, ℕ, ℤ, pos, ◌+ℤ◌, ◌-ℤ◌, ◌*ℤ◌, ◌≤ℤ◌, Bool, List, [], ◌∷◌, length, map}
use Rattle.std.specs.List.{All, Contains}
use Rattle.cnf_core.specs.Clauses.{Satisfies}
use Rattle.cnf_core.specs.Formula.{Cnf, Extends}
use Rattle.ep_base.specs.Numbers.{sum_of}
use Rattle.ep_flat.specs.Cons.{number_at}
use Rattle.enc_adder.specs.declared.bits.Binary.{Binary}
use Rattle.enc_adder.specs.declared.bits.Constants.{Constants}
use Rattle.enc_atoms.specs.Steps.{IsTruth}
use Rattle.enc_var.specs.Decoding.{VariableLiterals}
use Rattle.enc_var.specs.Layouts.{GoesOn, decoded_values, literals_at}

-- the number that variables of 0 and 1 spell in binary, the lowest bit first
unfoldable pub spelled : List ℤ → List ℕ → ℤ
spelled values [] = pos 0
spelled values (x ∷ xs) = number_at values x +ℤ (pos 2 *ℤ spelled values xs)

-- the sum of the numbers that are spelled
unfoldable pub total : List ℤ → List Binary → ℤ
total values numbers = sum_of (map (λ n. spelled values n.bits.items) numbers)

-- a variable of a layout that has no other numbers than 0 and 1
pub record IsBit (layout : List VariableLiterals) (x : ℕ) : Type 0 where
  pub there : x < length layout
  pub truth : (v : ℤ) → Contains (literals_at layout x).domain v → IsTruth v

-- variables of a layout that have no other numbers than 0 and 1
abbrev pub AreBits : List VariableLiterals → List ℕ → Type 0
AreBits layout xs = All (IsBit layout) xs

-- numbers whose bits are variables of a layout
abbrev pub AreNumbers : List VariableLiterals → List Binary → Type 0
AreNumbers layout numbers = All (λ n. AreBits layout n.bits.items) numbers

-- a variable of a layout that has no other number than this one
pub record IsConstant (layout : List VariableLiterals) (x : ℕ) (number : ℤ) : Type 0 where
  pub there : x < length layout
  pub only : (v : ℤ) → Contains (literals_at layout x).domain v → v ≡ number

-- variables of a layout that are always 0 and always 1
pub record HasConstants (layout : List VariableLiterals) (c : Constants) : Type 0 where
  pub zero_is : IsConstant layout c.zero (pos 0)
  pub one_is : IsConstant layout c.one (pos 1)

-- A formula and its layout go on from others and take no assignment away, and this holds of the numbers of the variables.
pub record Widens (layout : List VariableLiterals) (f : Cnf) (new_layout : List VariableLiterals) (g : Cnf) (says : List ℤ → Type 0) : Type 0 where
  pub goes_on : GoesOn layout f new_layout g
  pub continues : (s : ℕ → Bool) → Satisfies s f.clauses → Extends f.vars s g
  pub tells : (s : ℕ → Bool) → Satisfies s g.clauses → says (decoded_values new_layout s)

-- A formula and its layout were widened, and a bit of the layout is as said.
pub record HasBit (layout : List VariableLiterals) (f : Cnf) (new_layout : List VariableLiterals) (g : Cnf) (says : List ℤ → ℕ → Type 0) (x : ℕ) : Type 0 where
  pub bit : IsBit new_layout x
  pub widens : Widens layout f new_layout g (λ values. says values x)

-- A formula and its layout were widened, and bits of the layout spell a number.
pub record SpellsNumber (layout : List VariableLiterals) (f : Cnf) (new_layout : List VariableLiterals) (g : Cnf) (worth : List ℤ → ℤ) (bits : List ℕ) : Type 0 where
  pub are_bits : AreBits new_layout bits
  pub widens : Widens layout f new_layout g (λ values. spelled values bits ≡ worth values)

-- two bits spell the sum of three, the low one first
abbrev pub IsSum : ℕ → ℕ → ℕ → ℕ → ℕ → List ℤ → Type 0
IsSum a b c low high values =
    (number_at values a +ℤ (number_at values b +ℤ number_at values c)) ≡ (number_at values low +ℤ (pos 2 *ℤ number_at values high))

-- A bit is 1 exactly where the first is greater than the second, or they are alike and the bit before is 1: that is where the
-- first, less the second, with the bit before, comes to 1 or more.
pub record IsAbove (a b before : ℕ) (values : List ℤ) (x : ℕ) : Type 0 where
  pub enough : (pos 2 *ℤ number_at values x) ≤ℤ (((number_at values a -ℤ number_at values b) +ℤ number_at values before) +ℤ pos 1)
  pub no_more : ((number_at values a -ℤ number_at values b) +ℤ number_at values before) ≤ℤ (pos 2 *ℤ number_at values x)

-- a bit is 1 exactly where two are alike and the bit before is 1
abbrev pub IsAlike : ℕ → ℕ → ℕ → List ℤ → ℕ → Type 0
IsAlike a b before values x =
    (number_at values x ≡ pos 1) ↔ ((number_at values before ≡ pos 1) × (number_at values a ≡ number_at values b))

-- three variables with numbers, and a fourth one with what it is where they are these
abbrev pub Row : Type 0
Row = (ℕ × ℤ) × (ℕ × ℤ) × (ℕ × ℤ) × (ℕ × ℤ)

-- where three variables are their numbers, a fourth one is its number
abbrev pub Follows : List ℤ → Row → Type 0
Follows values row =
    number_at values row.0.0 ≡ row.0.1 → number_at values row.1.0 ≡ row.1.1 → number_at values row.2.0 ≡ row.2.1 → number_at values row.3.0 ≡ row.3.1

-- the variables of a row are of a layout
abbrev pub IsRowOf : List VariableLiterals → Row → Type 0
IsRowOf layout row = (row.0.0 < length layout) × (row.1.0 < length layout) × (row.2.0 < length layout) × (row.3.0 < length layout)

-- A formula and its layout were widened by a variable that is always this number.
pub record IsNewConstant (layout : List VariableLiterals) (f : Cnf) (new_layout : List VariableLiterals) (g : Cnf) (number : ℤ) (x : ℕ) : Type 0 where
  pub constant_is : IsConstant new_layout x number
  pub widens : Widens layout f new_layout g (λ values. Unit {0})

-- A formula and its layout were widened by variables that are always 0 and always 1.
pub record AreNewConstants (layout : List VariableLiterals) (f : Cnf) (new_layout : List VariableLiterals) (g : Cnf) (c : Constants) : Type 0 where
  pub constants_are : HasConstants new_layout c
  pub widens : Widens layout f new_layout g (λ values. Unit {0})
