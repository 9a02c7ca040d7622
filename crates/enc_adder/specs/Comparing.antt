-- What tells whether something holds.
use Rattle.std.specs.Prelude.{◌≡◌, ◌<◌, ℕ, ℤ, Bool, List, length}
use Rattle.std.specs.Ordering.{int_eq}
use Rattle.cnf_core.specs.Formula.{Cnf}
use Rattle.enc_adder.specs.Bits.{Widens}
use Rattle.ep_flat.specs.Cons.{number_at}
use Rattle.enc_var.specs.Decoding.{VariableLiterals}

-- A formula and its layout were widened, and a variable of the layout is its number exactly where something holds.
pub record Tells (layout : List VariableLiterals) (f : Cnf) (new_layout : List VariableLiterals) (g : Cnf) (holds : List ℤ → Bool) (place : ℕ × ℤ) : Type 0 where
  pub there : place.0 < length new_layout
  pub widens : Widens layout f new_layout g (λ values. int_eq (number_at values place.0) place.1 ≡ holds values)
