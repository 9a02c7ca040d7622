use Rattle.std.proofs.Common.{◌≡◌, ◌∙◌, SFits, of_z, rules, subst, sym, to_z, w64}
use Rattle.std.specs.Prelude.{◌+ℤ◌, ◌*ℤ◌}
use Rattle.std.specs.Int.{w128}
use Rattle.std.proofs.lemmas.Int.{to_z-of_z}
use Rattle.ep_flatten.proofs.images.scaled_number.Goals as goal

pub returns-clause-same : goal.returns-clause-same
returns-clause-same c =
    let more = c.in_ok-sum.ensures in
    let wide : to_z w128 (of_z w128 c.from.result) ≡ c.args.more = to_z-of_z w128 c.from.result (search rules) ∙ c.from.ensures ∙ to_z-of_z w64 c.args.more c.ranges.more in
    let coefficient = to_z-of_z w64 c.args.coefficient c.ranges.coefficient in
    let number = to_z-of_z w64 c.args.number c.ranges.number in
    let product : to_z w128 (of_z w128 c.times-product.result) ≡ (c.args.coefficient *ℤ c.args.number) = to_z-of_z w128 c.times-product.result (search rules) ∙ c.times-product.ensures ∙ (λ i. coefficient i *ℤ number i) in
    to_z-of_z w128 c.in_ok-sum.sum (subst (SFits w128) (sym more.1) more.0) ∙ more.1 ∙ (λ i. wide i +ℤ product i)
