use Rattle.std.proofs.Common.{pos, negsuc, w64, sym, ap, ◌∙◌, arith}
use Rattle.std.proofs.lemmas.Int.{to_z-of_z, ints}
use Rattle.std.specs.Prelude.{int_lt}
use Rattle.ep_numbers.proofs.Ends.{far_above, far_below}
use Rattle.ep_numbers.proofs.reach.is_far_word.Goals as goal

pub returns-then-number-gt-MOST_NUMBER : goal.returns-then-number-gt-MOST_NUMBER
returns-then-number-gt-MOST_NUMBER c =
    let n = c.args.number in
    let same = to_z-of_z w64 n (omega (arith, ints)) in
    ap (int_lt (pos 1099511627776)) same ∙ far_above n (ap (int_lt (pos 1099511627776)) (sym same) ∙ c.if-number-gt-MOST_NUMBER.true)

pub returns-else-number-gt-MOST_NUMBER : goal.returns-else-number-gt-MOST_NUMBER
returns-else-number-gt-MOST_NUMBER c =
    let n = c.args.number in
    let same = to_z-of_z w64 n (omega (arith, ints)) in
    ap (λ x. int_lt x (negsuc 1099511627775)) same ∙ far_below n (ap (int_lt (pos 1099511627776)) (sym same) ∙ c.if-number-gt-MOST_NUMBER.false)
