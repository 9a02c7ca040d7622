use Rattle.std.proofs.Common.{◌≡◌, take, arith}
use Rattle.std.proofs.lemmas.Int.{ints, to_z-of_z}
use Rattle.std.proofs.lemmas.List.{take_all}
use Rattle.ep_lexer.proofs.DigitSteps.{TakesDigit, takes_digit, small_value}
use Rattle.ep_lexer.proofs.numbers.number_value.Goals as goal

step : (c : goal.After-from) → TakesDigit c.args.digits.now c.loop-digit.digit-index c.loop-digit.value c.from.result
step c = takes_digit _ _ _ _ (omega arith) c.requires.few c.requires.digits c.loop-digit.invariant.value c.loop-digit.invariant.small c.from.ensures

pub overflow_mul-value : goal.overflow_mul-value
overflow_mul-value c = let small = small_value _ _ (omega arith) c.loop-digit.invariant.small in omega arith

pub overflow_add-value : goal.overflow_add-value
overflow_add-value c = let fits = (step c).fits in omega arith

pub loop-digit-preserved : goal.loop-digit-preserved
loop-digit-preserved c = let s = step c in record { value = s.value; small = s.small }

pub overflow_cast-result : goal.overflow_cast-result
overflow_cast-result c = let small = small_value _ _ (omega arith) c.loop-digit.invariant.small in omega (arith, ints)

pub returns : goal.returns
returns c =
    let small = small_value _ _ (omega arith) c.loop-digit.invariant.small in
    let all : take c.loop-digit.digit-index c.args.digits.now ≡ c.args.digits.now = take_all _ _ c.loop-digit-test.false in
    grind (arith, ints, to_z-of_z)
