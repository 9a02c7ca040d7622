-- Statements on variables, clauses of them, and what it is to add to a formula.
use Rattle.std.specs.Prelude.{ℤ, Bool, not, List, int_le, int_lt}
use Rattle.std.specs.List.{list_any, AllZip, Contains}
use Rattle.std.specs.Ordering.{int_eq}
use Rattle.cnf_core.specs.Formula.{Cnf, Keeps}
use Rattle.enc_atoms.specs.declared.atoms.Atom.{Atom}
use Rattle.enc_atoms.specs.declared.atoms.Test.{Test}
use Rattle.enc_var.specs.Decoding.{VariableLiterals}
use Rattle.enc_var.specs.Layouts.{GoesOn, decoded_values}
use Rattle.ep_flat.specs.Cons.{number_at}

-- whether a number compares so with a given one
unfoldable pub test_holds : Test → ℤ → ℤ → Bool
test_holds Test.AtMost given n = int_le n given
test_holds Test.Above given n = int_lt given n
test_holds Test.Is given n = int_eq n given
test_holds Test.IsNot given n = not (int_eq n given)

-- whether an atom holds of the numbers of the variables
unfoldable pub atom_holds : List ℤ → Atom → Bool
atom_holds values atom = test_holds atom.test atom.value (number_at values atom.var)

-- whether one of some atoms holds of the numbers of the variables
unfoldable pub clause_holds : List ℤ → List Atom → Bool
clause_holds values atoms = list_any (atom_holds values) atoms

-- numbers of the variables, each of its variable's domain
abbrev pub AreOfDomains : List VariableLiterals → List ℤ → Type 0
AreOfDomains layout values = AllZip (λ e v. Contains e.domain v) layout values

-- a number of a domain of which something holds
pub record HasNumber (domain : List ℤ) (holds : ℤ → Type 0) : Type 0 where
  pub number : ℤ
  pub among : Contains domain number
  pub holds_there : holds number

-- A formula and its layout go on from others, and keep exactly the assignments that give the variables of the earlier
-- layout numbers of which this holds.
pub record Adds (layout : List VariableLiterals) (f : Cnf) (new_layout : List VariableLiterals) (g : Cnf) (holds : List ℤ → Type 0) : Type 0 where
  pub goes_on : GoesOn layout f new_layout g
  pub keeps : Keeps f g (λ s. holds (decoded_values layout s))
