-- One for true.
use Rattle.std.proofs.Common.{ℕ, Bool, cond}

-- one for true
abbrev pub one_if : Bool → ℕ
one_if b = cond b 1 0
