use Rattle.std.proofs.Common.{ap, sym, ◌∙◌, arith, pos, ◌+ℤ◌}
use Rattle.std.proofs.lemmas.Int.{ints}
use Rattle.std.specs.Prelude.{int_lt, nat_abs, ◌-ℤ◌}
use Rattle.ep_base.specs.Intervals.{width}
use Rattle.ep_numbers.proofs.Counting.{itself_above, none_below, wide_length}
use Rattle.ep_numbers.proofs.spans.width.Goals as goal

pub returns-then-count-lt0 : goal.returns-then-count-lt0
unfolding width
returns-then-count-lt0 c =
    let ends = c.args.x in
    let long = wide_length ends.high ends.low c.from.result c.from-2.result (omega (arith, ints)) (omega (arith, ints)) c.from.ensures c.from-2.ensures in
    sym (none_below ((ends.high +ℤ pos 1) -ℤ ends.low) (ap (λ x. int_lt x (pos 0)) (sym long) ∙ c.if-count-lt0.true))

pub returns : goal.returns
unfolding width
returns c =
    let ends = c.args.x in
    let long = wide_length ends.high ends.low c.from.result c.from-2.result (omega (arith, ints)) (omega (arith, ints)) c.from.ensures c.from-2.ensures in
    ap nat_abs long ∙ itself_above ((ends.high +ℤ pos 1) -ℤ ends.low) (ap (λ x. int_lt x (pos 0)) (sym long) ∙ c.if-count-lt0.false)
