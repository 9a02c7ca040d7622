-- Steps of an encoding.
use Rattle.std.specs.Prelude.{◌≡◌, ◌⊎◌, ℕ, zero, suc, ◌+◌, ◌<◌, ℤ, pos, Bool, false, IsTrue, List, [], ◌∷◌, ◌++◌, length, map, Option, MatchOption}
use Rattle.std.specs.List.{All, Contains}
use Rattle.cnf_core.specs.Clauses.{Satisfies}
use Rattle.cnf_core.specs.Formula.{Cnf, Extends}
use Rattle.enc_atoms.specs.Atoms.{clause_holds}
use Rattle.enc_atoms.specs.declared.atoms.Atom.{Atom}
use Rattle.enc_atoms.specs.declared.atoms.Test.TheVariants as Test
use Rattle.ep_flat.specs.Cons.{number_at}
use Rattle.enc_var.specs.Decoding.{VariableLiterals}
use Rattle.enc_var.specs.Layouts.{GoesOn, IsLayoutOf, decoded_values}

-- a formula can grow, and a layout is its own
pub record IsReady (layout : List VariableLiterals) (f : Cnf) : Type 0 where
  pub from_new : IsTrue f.from_new
  pub is_layout : IsLayoutOf layout f

-- the atoms speak of variables of the layout
abbrev pub AreAtomsOf : List VariableLiterals → List Atom → Type 0
AreAtomsOf layout atoms = All (λ atom. atom.var < length layout) atoms

-- the variables are of the layout
abbrev pub AreOf : List VariableLiterals → List ℕ → Type 0
AreOf layout vars = All (λ x. x < length layout) vars

-- the variable of a truth value, where there is one, is of the layout
abbrev pub HasTruth : List VariableLiterals → Option ℕ → Type 0
HasTruth layout truth = MatchOption truth (Unit {0}) (λ t. t < length layout)

-- where none of the atoms holds of the numbers, this does
abbrev pub Unless : List Atom → (List ℤ → Type 0) → List ℤ → Type 0
Unless guard holds values = clause_holds values guard ≡ false → holds values

-- the number is 0 or 1
abbrev pub IsTruth : ℤ → Type 0
IsTruth v = (v ≡ pos 0) ⊎ (v ≡ pos 1)

-- a domain is that of 0 and 1
pub record IsTruthDomain (domain : List ℤ) : Type 0 where
  pub has : (v : ℤ) → IsTruth v → Contains domain v
  pub only : (v : ℤ) → Contains domain v → IsTruth v

-- so many numbers one after another, from the first on
unfoldable pub numbers_from : ℕ → ℕ → List ℕ
numbers_from first zero = []
numbers_from first (suc count) = first ∷ numbers_from (first + 1) count

-- A formula and its layout go on from others by so many variables of 0 and 1, which can have any numbers of these.
pub record HasTruths (layout : List VariableLiterals) (f : Cnf) (new_layout : List VariableLiterals) (g : Cnf) (count : ℕ) : Type 0 where
  pub goes_on : GoesOn layout f new_layout g
  pub added : List VariableLiterals
  pub pushed : new_layout ≡ layout ++ added
  pub many : length added ≡ count
  pub domains : All (λ e. IsTruthDomain e.domain) added
  pub choice : (s : ℕ → Bool) (truths : List ℤ) → Satisfies s f.clauses → length truths ≡ count → All IsTruth truths
      → (far : Extends f.vars s g) × (decoded_values added far.values ≡ truths)

-- so many numbers, each 0 or 1, of which something holds
pub record SomeTruths (count : ℕ) (holds : List ℤ → Type 0) : Type 0 where
  pub truths : List ℤ
  pub many : length truths ≡ count
  pub each : All IsTruth truths
  pub holds_there : holds truths

-- "the variable is at most the number", "it is above it", "it is it" and "it is another one"
abbrev pub at_most : ℕ → ℤ → Atom
at_most x v = record { var = x; test = Test.AtMost; value = v }

abbrev pub above : ℕ → ℤ → Atom
above x v = record { var = x; test = Test.Above; value = v }

abbrev pub is : ℕ → ℤ → Atom
is x v = record { var = x; test = Test.Is; value = v }

abbrev pub is_not : ℕ → ℤ → Atom
is_not x v = record { var = x; test = Test.IsNot; value = v }

-- for each variable "it is the number"
unfoldable pub are_all : List ℕ → ℤ → List Atom
are_all xs v = map (λ x. is x v) xs

-- where the first variable is the first number, the second one is the second
abbrev pub Implied : ℕ → ℤ → ℕ → ℤ → List ℤ → Type 0
Implied x v y w values = number_at values x ≡ v → number_at values y ≡ w

-- where the first variable is the first number, the second one isn't the second
abbrev pub NotBoth : ℕ → ℤ → ℕ → ℤ → List ℤ → Type 0
NotBoth x v y w values = number_at values x ≡ v → number_at values y ≡ w → ⊥
