-- Layouts of a flat problem's variables before any constraint is encoded.
use Rattle.std.specs.Prelude.{◌≡◌, ℕ, ℤ, Bool, IsTrue, List, map}
use Rattle.std.specs.List.{All}
use Rattle.cnf_core.specs.Clauses.{Satisfies}
use Rattle.cnf_core.specs.Formula.{Cnf}
use Rattle.cnf_core.specs.Steps.{IsConsistent}
use Rattle.enc_atoms.specs.Atoms.{AreOfDomains}
use Rattle.enc_var.specs.Decoding.{VariableLiterals}
use Rattle.enc_var.specs.Layouts.{IsLayoutOf, decoded_values}

-- an assignment that satisfies a formula gives the variables these numbers
pub record AreChosen (layout : List VariableLiterals) (f : Cnf) (values : List ℤ) : Type 0 where
  pub assignment : ℕ → Bool
  pub satisfies : Satisfies assignment f.clauses
  pub values_are : decoded_values layout assignment ≡ values

-- The layout has variables of these domains and no more, and each numbers of their domains can be chosen.
pub record HasVariables (domains : List (List ℤ)) (layout : List VariableLiterals) (f : Cnf) : Type 0 where
  pub from_new : IsTrue f.from_new
  pub is_layout : IsLayoutOf layout f
  pub domains_are : map (λ e. e.domain) layout ≡ domains
  pub consistent : All IsConsistent f.clauses
  pub complete : (values : List ℤ) → AreOfDomains layout values → AreChosen layout f values
