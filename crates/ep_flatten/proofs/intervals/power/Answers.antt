use Rattle.std.proofs.Common.{rules, ap, ◌∙◌, ◌≡◌, ◌≤◌, [], ◌∷◌, pos, if◌then◌else◌, w64, to_z, of_z}
use Rattle.std.specs.Int.{w128}
use Rattle.std.proofs.lemmas.Int.{to_z-of_z}
use Rattle.ep_base.specs.Intervals.{has_zero, spanned}
use Rattle.ep_base.specs.Numbers.{nth_power}
use Rattle.ep_numbers.specs.Spans.{interval_of}
use Rattle.ep_numbers.proofs.Ends.{power_zero, powered}
use Rattle.ep_flatten.proofs.intervals.power.Goals as goal

pub returns-then-exponent-eq0 : goal.returns-then-exponent-eq0
returns-then-exponent-eq0 c =
    let none : c.args.exponent ≡ 0 = search rules in
    power_zero (interval_of c.args.x) c.args.exponent none

pub returns : goal.returns
returns c =
    let x = c.args.x in
    let some : 1 ≤ c.args.exponent = search rules in
    let low : to_z w128 (of_z w128 c.in_ok-low.low) ≡ nth_power x.low c.args.exponent =
    to_z-of_z w128 c.in_ok-low.low (search rules) ∙ c.in_ok-low.ensures ∙ ap (λ n. nth_power n c.args.exponent) (to_z-of_z w64 x.low (search rules)) in
    let high : to_z w128 (of_z w128 c.in_ok-high.high) ≡ nth_power x.high c.args.exponent =
    to_z-of_z w128 c.in_ok-high.high (search rules) ∙ c.in_ok-high.ensures ∙ ap (λ n. nth_power n c.args.exponent) (to_z-of_z w64 x.high (search rules)) in
    c.between.ensures ∙ (λ i. spanned (low i ∷ high i ∷ (if has_zero (interval_of x) then pos 0 ∷ [] else []))) ∙ powered (interval_of x) c.args.exponent some
