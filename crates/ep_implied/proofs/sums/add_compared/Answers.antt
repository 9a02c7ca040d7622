use Rattle.std.proofs.Common.{rules, ◌≡◌, ◌∙◌, ◌+ℤ◌, ◌*ℤ◌, ◌≤ℤ◌, ℤ, true, sym, ap, subst}
use Rattle.std.proofs.lemmas.Int.{to_z-of_z}
use Rattle.std.specs.Int.{w64, w128}
use Rattle.ep_implied.specs.Sums.{parts_sum, stays_within, weighed}
use Rattle.ep_implied.proofs.SumSteps.{holds_with, raised_is}
use Rattle.ep_implied.proofs.sums.add_compared.Goals as goal

pub returns : goal.returns
returns c = λ is values holds low.
    let times = to_z-of_z w128 c.args.times c.ranges.times in
    let most = to_z-of_z w128 c.args.sum.now.most (search rules) in
    let number = to_z-of_z w64 c.args.number c.ranges.number in
    let more = raised_is c.in-Some.most _ c.args.sum.now.most _ c.args.times _ c.args.number c.in-Some.ensures most times number in
    let stays = subst (λ (t : ℤ). stays_within c.args.op t ≡ true) times (sym c.stays_within.ensures ∙ c.if-not-stays_within.false) in
    let sum = c.add_parts.ensures is values in
    let after = to_z-of_z w128 c.in-Some.most (search rules) in
    let held = holds_with c.args.op c.args.times c.args.number c.args.parts.now c.args.sum.now.coefficients.items _ c.args.sum.now.most c.in-Some.most values stays more
    (sum ∙ ap (λ (t : ℤ). weighed 0 c.args.sum.now.coefficients.items values +ℤ (t *ℤ parts_sum c.args.parts.now values)) times) holds low in
    subst (λ (m : ℤ). weighed 0 c.add_parts.new.coefficients.items values ≤ℤ m) (sym after) held
