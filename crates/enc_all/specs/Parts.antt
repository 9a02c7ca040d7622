-- Parts of constraints between truth values: a variable that is 1, or one that isn't.
use Rattle.std.specs.Prelude.{◌≡◌, ◌⊎◌, ℕ, ℤ, pos, Bool, true, false, not, List, if◌then◌else◌}
use Rattle.std.specs.List.{list_any}
use Rattle.ep_base.specs.Numbers.{is_one}
use Rattle.ep_base.specs.Reads.{same_bool}
use Rattle.ep_flat.specs.Cons.{number_at}
use Rattle.enc_atoms.specs.declared.atoms.Atom.{Atom}
use Rattle.enc_atoms.specs.declared.atoms.Test.{Test}

-- whether a part is so: the variable is 1, or with false it isn't
unfoldable pub part_holds : List ℤ → Bool × ℕ → Bool
part_holds values p = same_bool (is_one (number_at values p.1)) p.0

-- whether one of some parts is so
unfoldable pub any_part : List ℤ → List (Bool × ℕ) → Bool
any_part values parts = list_any (part_holds values) parts

-- the contrary of a part
abbrev pub other_part : Bool × ℕ → Bool × ℕ
other_part p = (not p.0, p.1)

-- the test that a part makes of its variable
unfoldable pub test_of : Bool → Test
test_of true = Test.Is
test_of false = Test.IsNot

-- the atom that says that a part is so
abbrev pub part_atom : Bool × ℕ → Atom
part_atom p = record { var = p.1; test = test_of p.0; value = pos 1 }

-- a variable is 0 or 1
abbrev pub IsTruth : List ℤ → ℕ → Type 0
IsTruth values t = (number_at values t ≡ pos 0) ⊎ (number_at values t ≡ pos 1)
