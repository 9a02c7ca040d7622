-- What a full adder gives.
use Rattle.std.specs.Prelude.{ℕ, List}
use Rattle.cnf_core.specs.Formula.{Cnf}
use Rattle.enc_adder.specs.Bits.{IsBit, IsSum, Widens}
use Rattle.enc_var.specs.Decoding.{VariableLiterals}

-- A formula and its layout were widened, and two bits of the layout spell the sum of three, the low one first.
pub record HasSum (layout : List VariableLiterals) (f : Cnf) (new_layout : List VariableLiterals) (g : Cnf) (a b c : ℕ) (made : ℕ × ℕ) : Type 0 where
  pub low : IsBit new_layout made.0
  pub high : IsBit new_layout made.1
  pub widens : Widens layout f new_layout g (IsSum a b c made.0 made.1)
