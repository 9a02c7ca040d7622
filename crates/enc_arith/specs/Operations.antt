-- Operations on two numbers, of which a quotient and a remainder are 0 for a divisor of 0.
use Rattle.std.specs.Prelude.{ℤ, ◌*ℤ◌}
use Rattle.ep_base.specs.Reads.{safe_quotient, safe_remainder}
use Rattle.enc_arith.specs.declared.operations.Operation.{Operation}

-- the value of an operation
unfoldable pub result_of : Operation → ℤ → ℤ → ℤ
result_of Operation.Product x y = x *ℤ y
result_of Operation.Quotient x y = safe_quotient x y
result_of Operation.Remainder x y = safe_remainder x y
