-- What watches a literal.
use Rattle.std.specs.Prelude.{◌≡◌, ℕ, ◌+◌, ◌*◌, ◌/◌, ◌%◌, ◌==◌, Bool, if◌then◌else◌}
use Rattle.std.proofs.Common.{arith}
use Rattle.std.proofs.lemmas.Bool.Decides.{nat_tests}
use Rattle.cnf_core.specs.Literal.{Literal}

-- one of the two entries of a clause, whether the clause is known to have two literals, and some literal of the clause
pub record Watched : Type 0 where
  pub entry : ℕ
  pub pair : Bool
  pub blocker : Literal

-- a number is what its half and its rest make
pub word_again : (n : ℕ) → 2 * (n / 2) + (if n % 2 == 1 then 1 else 0) ≡ n
word_again n = grind (arith, nat_tests)
