-- A literal's number gives the literal back.
use Rattle.std.proofs.Common.{◌≡◌, ℕ, ◌/◌, ◌%◌, ◌==◌, arith}
use Rattle.std.proofs.lemmas.Bool.Decides.{nat_tests}
use Rattle.cnf_core.specs.Literal.{code_of}

pub code_again : (n : ℕ) → code_of (record { var = n / 2; positive = n % 2 == 0 }) ≡ n
code_again n = grind (arith, nat_tests)
