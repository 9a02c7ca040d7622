-- Functions of one number, and operations on two, which are such functions once the first one is given.
use Rattle.std.specs.Prelude.{ℤ, ◌*ℤ◌}
use Rattle.ep_base.specs.Numbers.{absolute_of, nth_power}
use Rattle.ep_base.specs.Reads.{safe_quotient, safe_remainder}
use Rattle.enc_arith.specs.declared.functions.Function.{Function}
use Rattle.enc_arith.specs.declared.functions.Function.TheVariants as code

-- the value of a function
unfoldable pub function_value : Function → ℤ → ℤ
function_value code.Same n = n
function_value code.Absolute n = absolute_of n
function_value (code.Power exponent) n = nth_power n exponent
function_value (code.Product factor) n = factor *ℤ n
function_value (code.Quotient over) n = safe_quotient over n
function_value (code.Remainder over) n = safe_remainder over n
