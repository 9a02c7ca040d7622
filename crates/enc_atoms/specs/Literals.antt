-- What is known of atoms by the literals of a layout, and clauses that always hold.
use Rattle.std.specs.Prelude.{◌≡◌, ℕ, Bool, List}
use Rattle.std.specs.List.{Contains, list_any}
use Rattle.cnf_core.specs.Literal.{Literal, VariablesUpTo, negation}
use Rattle.enc_atoms.specs.Atoms.{clause_holds}
use Rattle.enc_atoms.specs.declared.atoms.Atom.{Atom}
use Rattle.enc_atoms.specs.declared.atoms.Test.{Test}
use Rattle.enc_var.specs.Decoding.{Means, VariableLiterals, eq_of, le_of, literal_holds}
use Rattle.enc_var.specs.Layouts.{decoded_values, literals_at}
use Rattle.enc_var.specs.declared.known.Known.{Known}
use Rattle.enc_var.specs.declared.known.Known.TheVariants as known
use Rattle.std.specs.List.{All}

-- what is known of the contrary of a statement
unfoldable pub contrary_of : Known → Known
contrary_of known.True = known.False
contrary_of known.False = known.True
contrary_of (known.Is l) = known.Is (negation l)

-- what is known of an atom on a variable with these literals
unfoldable pub known_of_test : VariableLiterals → Test → Atom → Known
known_of_test e Test.AtMost atom = le_of e atom.value
known_of_test e Test.Above atom = contrary_of (le_of e atom.value)
known_of_test e Test.Is atom = eq_of e atom.value
known_of_test e Test.IsNot atom = contrary_of (eq_of e atom.value)

-- what is known of an atom
unfoldable pub known_of : List VariableLiterals → Atom → Known
known_of layout atom = known_of_test (literals_at layout atom.var) atom.test atom

-- a literal stands together with its negation
pub record HasContraries (literals : List Literal) : Type 0 where
  pub literal : Literal
  pub stands : Contains literals literal
  pub contrary : Contains literals (negation literal)

-- literals of a formula's variables of which one is true exactly where one of some atoms holds
pub record AreGathered (layout : List VariableLiterals) (most : ℕ) (atoms : List Atom) (literals : List Literal) : Type 0 where
  pub names : VariablesUpTo most literals
  pub same : (s : ℕ → Bool) → All (Means s) layout → list_any (literal_holds s) literals ≡ clause_holds (decoded_values layout s) atoms
