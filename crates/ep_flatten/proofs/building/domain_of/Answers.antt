use Rattle.std.proofs.Common.{rules, ◌∙◌, ◌≡◌, [], ◌∷◌, w64, to_z, of_z}
use Rattle.std.proofs.lemmas.Int.{to_z-of_z}
use Rattle.ep_flatten.proofs.Adding.{if_ok_then, one_run}
use Rattle.ep_flatten.proofs.building.domain_of.Goals as goal

pub returns : goal.returns
returns c =
    let low : to_z w64 (of_z w64 c.args.span.low) ≡ c.args.span.low = to_z-of_z w64 c.args.span.low (search rules) in
    let high : to_z w64 (of_z w64 c.args.span.high) ≡ c.args.span.high = to_z-of_z w64 c.args.span.high (search rules) in
    let first : c.push.new.self.items ≡ record { lo = to_z w64 (of_z w64 c.args.span.low); hi = to_z w64 (of_z w64 c.args.span.high) } ∷ [] = search rules in
    let one : c.push.new.self.items ≡ record { lo = c.args.span.low; hi = c.args.span.high } ∷ [] = first ∙ (λ i. record { lo = low i; hi = high i } ∷ []) in
    if_ok_then c.new.result c.new.ensures.numbers (λ domain h. one_run c.args.span.low c.args.span.high c.push.new.self.items domain one h)
