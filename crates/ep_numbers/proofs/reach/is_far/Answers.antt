use Rattle.std.proofs.Common.{pos, negsuc, sym, ap, ◌∙◌, arith}
use Rattle.std.proofs.lemmas.Int.{to_z-of_z, ints}
use Rattle.std.specs.Prelude.{int_lt}
use Rattle.std.specs.Int.{w128}
use Rattle.ep_numbers.proofs.Ends.{far_above, far_below}
use Rattle.ep_numbers.proofs.reach.is_far.Goals as goal

pub returns-then-number-gt-MOST_WIDE : goal.returns-then-number-gt-MOST_WIDE
returns-then-number-gt-MOST_WIDE c =
    let n = c.args.number in
    let same = to_z-of_z w128 n (omega (arith, ints)) in
    ap (int_lt (pos 1099511627776)) same ∙ far_above n (ap (int_lt (pos 1099511627776)) (sym same) ∙ c.if-number-gt-MOST_WIDE.true)

pub returns-else-number-gt-MOST_WIDE : goal.returns-else-number-gt-MOST_WIDE
returns-else-number-gt-MOST_WIDE c =
    let n = c.args.number in
    let same = to_z-of_z w128 n (omega (arith, ints)) in
    ap (λ x. int_lt x (negsuc 1099511627775)) same ∙ far_below n (ap (int_lt (pos 1099511627776)) (sym same) ∙ c.if-number-gt-MOST_WIDE.false)
