use Rattle.std.proofs.Common.{rules, subst, ap, ◌∙◌, ◌≡◌, ◌∷◌, [], ℕ, ℤ, List, w64, to_z, of_z}
use Rattle.std.specs.List.{All}
use Rattle.std.proofs.lemmas.Int.{to_z-of_z}
use Rattle.ep_base.specs.Reads.{IsWithinNumbers}
use Rattle.ep_flatten.specs.Sums.{TakesIn, coefficients_in, multiplied}
use Rattle.ep_flatten.proofs.SumLaws.{if_some, joins_sum, joins_term, on_ok_both}
use Rattle.ep_flatten.proofs.sums.add_sum.Goals as goal

pub returns-in_default : goal.returns-in_default
returns-in_default c = λ nodes node form.
    on_ok_both c.add_part.result c.add_part.ensures.number c.add_part.ensures.parts
    (λ n p. joins_term nodes c.args.coefficient c.args.term c.args.sum.now.number c.add_part.new.sum.number c.args.sum.now.parts.items c.add_part.new.sum.parts.items n
    (subst (λ (m : ℤ). TakesIn ((m, c.args.term) ∷ []) c.args.sum.now.parts.items c.add_part.new.sum.parts.items) (to_z-of_z w64 c.args.coefficient c.ranges.coefficient) p))

pub returns-in_default-2 : goal.returns-in_default-2
returns-in_default-2 c = λ nodes node form.
    on_ok_both c.add_part-in_default-2.result c.add_part-in_default-2.ensures.number c.add_part-in_default-2.ensures.parts
    (λ n p. joins_term nodes c.args.coefficient c.args.term c.args.sum.now.number c.add_part-in_default-2.new.sum.number c.args.sum.now.parts.items c.add_part-in_default-2.new.sum.parts.items n
    (subst (λ (m : ℤ). TakesIn ((m, c.args.term) ∷ []) c.args.sum.now.parts.items c.add_part-in_default-2.new.sum.parts.items) (to_z-of_z w64 c.args.coefficient c.ranges.coefficient) p))

pub returns : goal.returns
returns c = λ nodes node form.
    let k = to_z w64 (of_z w64 c.args.coefficient) in
    let coefficient : k ≡ c.args.coefficient = to_z-of_z w64 c.args.coefficient c.ranges.coefficient in
    let number : to_z w64 (of_z w64 c.args.number) ≡ c.args.number = to_z-of_z w64 c.args.number c.ranges.number in
    let more = c.in-Some-2.more.items in
    let given = if_some (λ made. (made.items ≡ multiplied k c.args.parts.now) × All IsWithinNumbers (coefficients_in made.items)) c.in_ok-more.field-0 c.in-Some-2.more c.in-Some-2.is c.in_ok-more.ensures in
    on_ok_both c.add_parts.result c.add_parts.ensures.number c.add_parts.ensures.parts
    (λ n p.
    joins_sum nodes c.args.coefficient c.args.term node c.args.number c.args.parts.now more c.args.sum.now.number c.add_parts.new.sum.number c.args.sum.now.parts.items c.add_parts.new.sum.parts.items form (given.0 ∙ ap (λ (m : ℤ). multiplied m c.args.parts.now) coefficient) given.1
    (subst (λ (ps : List (ℤ × ℕ)). TakesIn ps c.args.sum.now.parts.items c.add_parts.new.sum.parts.items) c.deref.ensures.value p)
    (n ∙ search (rules, c.in-Some.ensures)))
