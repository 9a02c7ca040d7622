-- Parts of a sum: what the numbers of a variable are worth.
use Rattle.std.specs.Prelude.{◌≡◌, ℕ, ℤ, pos, ◌≤ℤ◌, ◌%◌, ◌/◌, ◌+ℤ◌, ◌-ℤ◌, List, map}
use Rattle.std.specs.List.{All}
use Rattle.cnf_core.specs.Formula.{Cnf}
use Rattle.ep_base.specs.Reads.{weighted_sum}
use Rattle.ep_flat.specs.Cons.{number_at}
use Rattle.enc_adder.specs.Bits.{AreNumbers, Widens, total}
use Rattle.enc_atoms.specs.Atoms.{AreOfDomains}
use Rattle.enc_adder.specs.declared.parts.Step.{Step}
use Rattle.enc_adder.specs.declared.sides.Sides.{Sides}
use Rattle.enc_var.specs.Decoding.{VariableLiterals}
use Rattle.enc_var.specs.Layouts.{literals_at}

-- how far a coefficient is from 0
abbrev pub IsSizeOfCoefficient : ℤ → Type 0
IsSizeOfCoefficient size = (pos 0 ≤ℤ size) × (size ≤ℤ pos 9223372036854775808)

-- steps are those of a variable: one for each of its numbers
abbrev pub AreStepsOf : List VariableLiterals → ℕ → List Step → Type 0
AreStepsOf layout var steps = map (λ step. step.value) steps ≡ (literals_at layout var).domain

-- each step is worth what a function makes of its number
abbrev pub HaveWorths : (ℤ → ℕ) → List Step → Type 0
HaveWorths worth steps = All (λ step. step.worth ≡ worth step.value) steps

-- what the sides of a comparison come to: the left one less the right one, with the number that is left over
unfoldable pub difference : List ℤ → Sides → ℤ
difference values sides = (total values sides.left.items -ℤ total values sides.right.items) +ℤ sides.rest

-- the sum of parts, each a coefficient and a variable
unfoldable pub sum_of_parts : List ℤ → List (ℤ × ℕ) → ℤ
sum_of_parts values parts = weighted_sum (map (λ part. (part.0, number_at values part.1)) parts)

-- A formula and its layout were widened, and sides come to this.
pub record HasSides (layout : List VariableLiterals) (f : Cnf) (new_layout : List VariableLiterals) (g : Cnf) (worth : List ℤ → ℤ) (sides : Sides) : Type 0 where
  pub left : AreNumbers new_layout sides.left.items
  pub right : AreNumbers new_layout sides.right.items
  pub widens : Widens layout f new_layout g (λ values. difference values sides ≡ worth values)

-- the lowest bit of a number
unfoldable pub low_bit : ℕ → ℤ
low_bit n = pos (n % 2)

-- a step with half of what it is worth
unfoldable pub half_step : Step → Step
half_step step = record { value = step.value; worth = step.worth / 2 }

-- A number was added to what two sides come to.
pub record Moves (layout : List VariableLiterals) (old new : Sides) (number : ℤ) : Type 0 where
  pub left : AreNumbers layout old.left.items → AreNumbers layout new.left.items
  pub right : AreNumbers layout old.right.items → AreNumbers layout new.right.items
  pub differs : (values : List ℤ) → AreOfDomains layout values → difference values new ≡ (difference values old +ℤ number)

-- A number was taken from what is left over, and that added to a side, so that the sides' difference is what it was, less the number.
pub record Levels (layout : List VariableLiterals) (old new : Sides) (number : ℤ) : Type 0 where
  pub left : AreNumbers layout old.left.items → AreNumbers layout new.left.items
  pub right : AreNumbers layout old.right.items → AreNumbers layout new.right.items
  pub differs : (values : List ℤ) → AreOfDomains layout values
      → (total values new.left.items -ℤ total values new.right.items) ≡ (difference values old -ℤ number)
