use Rattle.std.proofs.Common.{rules, [], ◌++◌, ◌∷◌, ◌+ℤ◌, ◌∙◌, ℤ, of_z, to_z, w64, ap}
use Rattle.std.proofs.lemmas.Int.{to_z-of_z}
use Rattle.opb_text.proofs.FlatLaws.{on_ok}
use Rattle.opb_text.proofs.SumLaws.{takes_alone, takes_behind, takes_joined}
use Rattle.opb_text.proofs.sums.join_part.Goals as goal

pub returns-in_default : goal.returns-in_default
returns-in_default c = takes_alone c.args.part c.args.parts.now.items c.pop.new.self.items c.push.new.self.items c.in_default.ensures.items c.in_ok-push.ensures.items

pub returns-then-last-part : goal.returns-then-last-part
returns-then-last-part c =
    let first = to_z-of_z w64 c.in-Some.last.0 (search rules) in
    let second = to_z-of_z w64 c.args.part.0 (search rules) in
    let sum = c.added.ensures ∙ ap (λ (z : ℤ). z +ℤ to_z w64 (of_z w64 c.args.part.0)) first ∙ ap (λ (z : ℤ). c.in-Some.last.0 +ℤ z) second in
    on_ok c.push_part.result c.push_part.ensures (λ pushed. takes_joined c.args.part c.in-Some.last c.args.parts.now.items c.pop.new.self.items c.push_part.new.parts.items c.added.result c.in-Some.ensures.items (pushed ∙ ap (λ (z : ℤ). c.pop.new.self.items ++ (z, c.in-Some.last.1) ∷ []) (to_z-of_z w64 c.added.result (search rules))) sum c.if-last-part.true)

pub returns : goal.returns
returns c = takes_behind c.args.part c.in-Some.last c.args.parts.now.items c.pop.new.self.items c.push-2.new.self.items c.push-3.new.self.items c.in-Some.ensures.items c.in_ok-push-2.ensures.items c.in_ok-push-3.ensures.items
