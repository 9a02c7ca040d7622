use Rattle.std.proofs.Common.{◌≡◌, rules, sym, ap, subst, ◌∙◌, arith, pos, w64, to_z, of_z}
use Rattle.std.specs.Prelude.{neg_ℤ}
use Rattle.std.specs.Int.{int_max, int_min, w128}
use Rattle.std.proofs.lemmas.Int.{ints, to_z-of_z}
use Rattle.ep_base.specs.Intervals.{IsWithinReach, from_to}
use Rattle.ep_flatten.proofs.Ends.{clamped_has, within}
use Rattle.ep_flatten.proofs.intervals.clamped.Goals as goal

pub returns-clause-small : goal.returns-clause-small
returns-clause-small c =
    let low : to_z w64 (of_z w64 c.kept.result) ≡ c.kept.result = to_z-of_z w64 c.kept.result (search rules) in
    let high : to_z w64 (of_z w64 c.kept-2.result) ≡ c.kept-2.result = to_z-of_z w64 c.kept-2.result (search rules) in
    subst IsWithinReach (λ i. from_to (sym low i) (sym high i))
    (within c.kept.result c.kept-2.result c.kept.ensures.low c.kept.ensures.high c.kept-2.ensures.low c.kept-2.ensures.high)

pub returns-clause-holds : goal.returns-clause-holds
returns-clause-holds c =
    let x = c.args.x in
    let low = to_z-of_z w64 c.kept.result (search rules) in
    let high = to_z-of_z w64 c.kept-2.result (search rules) in
    clamped_has x.low x.high _ _
    (low ∙ c.kept.ensures.value ∙ ap (λ n. int_max (neg_ℤ (pos 1099511627776)) (int_min n (pos 1099511627776))) (to_z-of_z w128 x.low (omega (arith, ints))))
    (high ∙ c.kept-2.ensures.value ∙ ap (λ n. int_max (neg_ℤ (pos 1099511627776)) (int_min n (pos 1099511627776))) (to_z-of_z w128 x.high (omega (arith, ints))))
