-- What clauses under guards say.
use Rattle.std.specs.Prelude.{◌≡◌, ◌⊎◌, ℕ, ℤ, pos, Bool, IsTrue, List}
use Rattle.enc_atoms.specs.Atoms.{clause_holds}
use Rattle.enc_atoms.specs.declared.atoms.Atom.{Atom}
use Rattle.ep_base.specs.Numbers.{has_number}
use Rattle.ep_flat.specs.Cons.{number_at}

-- one of the guards holds, or this does
abbrev pub Unless : List Atom → (List ℤ → Type 0) → List ℤ → Type 0
Unless guards says values = IsTrue (clause_holds values guards) ⊎ says values

-- the variable is 0 or 1
abbrev pub IsTruthValue : ℕ → List ℤ → Type 0
IsTruthValue truth values = (number_at values truth ≡ pos 0) ⊎ (number_at values truth ≡ pos 1)

-- whether the variable's number is one of these is as said
abbrev pub IsMember : ℕ → List ℤ → Bool → List ℤ → Type 0
IsMember x numbers inside values = has_number numbers (number_at values x) ≡ inside
