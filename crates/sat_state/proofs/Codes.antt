-- Literals and their codes.
use Rattle.std.proofs.Common.{◌≡◌, ℕ, ◌+◌, ◌*◌, ◌/◌, ◌%◌, Bool, true, false, cond, eqb, refl, arith}
use Rattle.std.proofs.lemmas.Bool.Decides.{nat_tests}
use Rattle.cnf_core.specs.Literal.{Literal, code_of}
use Rattle.cnf_core.proofs.Literals.{literal_ext}
use Rattle.sat_state.specs.WatchesInside.{literal_at}

positive_again : (v : ℕ) (p : Bool) → eqb ((2 * v + cond p 0 1) % 2) 0 ≡ p
positive_again v true = grind (arith, nat_tests)
positive_again v false = grind (arith, nat_tests)

var_again : (v : ℕ) (p : Bool) → (2 * v + cond p 0 1) / 2 ≡ v
var_again v true = omega arith
var_again v false = omega arith

pub literal_again : (l : Literal) → literal_at (code_of l) ≡ l
literal_again l = literal_ext (literal_at (code_of l)) l (var_again l.var l.positive) (positive_again l.var l.positive)

code_cases : (c r : ℕ) → r ≡ c % 2 → 2 * (c / 2) + cond (eqb r 0) 0 1 ≡ c
code_cases c r e = grind (arith, nat_tests)

pub code_again : (c : ℕ) → code_of (literal_at c) ≡ c
code_again c = code_cases c (c % 2) refl
