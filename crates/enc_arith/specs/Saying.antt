-- What the clauses of a constraint say where none of some atoms holds.
use Rattle.std.specs.Prelude.{ℕ, ◌<◌, ℤ, Bool, IsTrue, List, [], ◌∷◌, ◌++◌, ◌||◌, Option, length, MatchOption}
use Rattle.std.specs.List.{All}
use Rattle.cnf_core.specs.Formula.{Cnf}
use Rattle.ep_base.specs.Reads.{IsWithinNumbers}
use Rattle.ep_flat.specs.Cons.{is_as_said}
use Rattle.enc_atoms.specs.Atoms.{clause_holds}
use Rattle.enc_atoms.specs.declared.atoms.Atom.{Atom}
use Rattle.enc_atoms.specs.declared.atoms.Test.{Test}
use Rattle.enc_var.specs.Decoding.{VariableLiterals}
use Rattle.enc_var.specs.Layouts.{IsLayoutOf, literals_at}

-- whether one of some atoms holds, or a constraint is as its variable says
unfoldable pub says : List ℤ → List Atom → Option ℕ → Bool → Bool
says values when truth holds = clause_holds values when || is_as_said values truth holds

-- some atoms, and that a variable isn't a number
abbrev pub or_is_not : List Atom → ℕ → ℤ → List Atom
or_is_not when x n = when ++ record { var = x; test = Test.IsNot; value = n } ∷ []

-- a formula can grow, and the layout is its own
pub record IsReady (layout : List VariableLiterals) (f : Cnf) : Type 0 where
  pub from_new : IsTrue f.from_new
  pub is_layout : IsLayoutOf layout f

-- atoms name variables of a layout
abbrev pub NamesIn : List VariableLiterals → List Atom → Type 0
NamesIn layout atoms = All (λ atom. atom.var < length layout) atoms

-- a result's variable is one of a layout, with numbers that are small enough, and so is the one that says whether a
-- constraint holds, if there is one
pub record IsTarget (layout : List VariableLiterals) (truth : Option ℕ) (result : ℕ) : Type 0 where
  pub truth_there : MatchOption truth (Unit {0}) (λ t. t < length layout)
  pub there : result < length layout
  pub numbers : All IsWithinNumbers (literals_at layout result).domain
