use Rattle.std.proofs.Common.{rules, ap, subst, sym, ◌∙◌, ◌≡◌, ◌≤◌, [], ◌∷◌, pos, if◌then◌else◌, w64, to_z, of_z}
use Rattle.std.proofs.lemmas.Int.{to_z-of_z}
use Rattle.ep_base.specs.Intervals.{has_zero, spanned}
use Rattle.ep_base.specs.Numbers.{nth_power}
use Rattle.ep_base.specs.Reads.{IsWithinNumbers}
use Rattle.ep_numbers.specs.Spans.{interval_of}
use Rattle.ep_numbers.proofs.Ends.{ends_near, power_zero, powered}
use Rattle.ep_numbers.proofs.spans.power.Goals as goal

pub returns-then-exponent-eq0-clause-same : goal.returns-then-exponent-eq0-clause-same
returns-then-exponent-eq0-clause-same c = c.only.ensures ∙ power_zero (interval_of c.args.x) c.args.exponent c.if-exponent-eq0.true

pub returns-clause-same : goal.returns-clause-same
returns-clause-same c =
    let x = c.args.x in
    let some : 1 ≤ c.args.exponent = search rules in
    let low : to_z w64 (of_z w64 c.in-Some.low) ≡ nth_power x.low c.args.exponent =
    to_z-of_z w64 c.in-Some.low (search rules) ∙ c.in-Some.ensures.same ∙ ap (λ n. nth_power n c.args.exponent) (to_z-of_z w64 x.low (search rules)) in
    let high : to_z w64 (of_z w64 c.in-Some-nth_power.high) ≡ nth_power x.high c.args.exponent =
    to_z-of_z w64 c.in-Some-nth_power.high (search rules) ∙ c.in-Some-nth_power.ensures.same ∙ ap (λ n. nth_power n c.args.exponent) (to_z-of_z w64 x.high (search rules)) in
    c.between.ensures ∙ (λ i. spanned (low i ∷ high i ∷ (if has_zero (interval_of x) then pos 0 ∷ [] else []))) ∙ powered (interval_of x) c.args.exponent some

pub returns-in_default-clause-told : goal.returns-in_default-clause-told
returns-in_default-clause-told c h =
    let x = c.args.x in
    let some : 1 ≤ c.args.exponent = search rules in
    c.in_default.ensures.told
    (subst IsWithinNumbers (sym (ap (λ n. nth_power n c.args.exponent) (to_z-of_z w64 x.low (search rules)))) (ends_near (interval_of x) c.args.exponent some h).0)

pub returns-in_default-nth_power-clause-told : goal.returns-in_default-nth_power-clause-told
returns-in_default-nth_power-clause-told c h =
    let x = c.args.x in
    let some : 1 ≤ c.args.exponent = search rules in
    c.in_default-nth_power.ensures.told
    (subst IsWithinNumbers (sym (ap (λ n. nth_power n c.args.exponent) (to_z-of_z w64 x.high (search rules)))) (ends_near (interval_of x) c.args.exponent some h).1)
