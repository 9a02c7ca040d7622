use Rattle.std.proofs.Common.{rules, sym, subst, ap, ◌≡◌, ◌<◌, ◌∷◌, [], ℕ, ℤ, List, length, slice_index_or, w64, to_z, of_z}
use Rattle.std.specs.Prelude.{OnOk}
use Rattle.std.proofs.lemmas.Int.{to_z-of_z}
use Rattle.ep_flatten.specs.Forms.{IsFormOf, node_at, summed}
use Rattle.ep_flatten.specs.FormViews.{plain_form, plain_sum}
use Rattle.ep_flatten.specs.Sums.{Joins, TakesIn}
use Rattle.ep_flatten.proofs.SumLaws.{joins_term, on_ok_both}
use Rattle.ep_flatten.proofs.FormLaws.{form_summed}
use Rattle.ep_flatten.proofs.forms.join.Goals as goal

pub returns-then-place-forms : goal.returns-then-place-forms
returns-then-place-forms c = λ nodes have.
    on_ok_both c.add_part.result c.add_part.ensures.number c.add_part.ensures.parts
    (λ n p. joins_term nodes c.args.coefficient c.args.term c.args.sum.now.number c.add_part.new.sum.number c.args.sum.now.parts.items c.add_part.new.sum.parts.items n
    (subst (λ (m : ℤ). TakesIn ((m, c.args.term) ∷ []) c.args.sum.now.parts.items c.add_part.new.sum.parts.items) (to_z-of_z w64 c.args.coefficient c.ranges.coefficient) p))

pub returns-then-stands_alone : goal.returns-then-stands_alone
returns-then-stands_alone c = λ nodes have.
    let call = c.add_part-then-stands_alone in
    on_ok_both call.result call.ensures.number call.ensures.parts
    (λ n p. joins_term nodes c.args.coefficient c.args.term c.args.sum.now.number call.new.sum.number c.args.sum.now.parts.items call.new.sum.parts.items n
    (subst (λ (m : ℤ). TakesIn ((m, c.args.term) ∷ []) c.args.sum.now.parts.items call.new.sum.parts.items) (to_z-of_z w64 c.args.coefficient c.ranges.coefficient) p))

pub returns-in_default : goal.returns-in_default
returns-in_default c = λ nodes have.
    let call = c.add_part-in_default in
    on_ok_both call.result call.ensures.number call.ensures.parts
    (λ n p. joins_term nodes c.args.coefficient c.args.term c.args.sum.now.number call.new.sum.number c.args.sum.now.parts.items call.new.sum.parts.items n
    (subst (λ (m : ℤ). TakesIn ((m, c.args.term) ∷ []) c.args.sum.now.parts.items call.new.sum.parts.items) (to_z-of_z w64 c.args.coefficient c.ranges.coefficient) p))

pub returns-else-stands_alone : goal.returns-else-stands_alone
returns-else-stands_alone c = λ nodes have.
    let forms = c.args.forms.now in
    let t = c.args.term in
    let read = c.index-forms-place.result in
    let below : t < length forms = search rules in
    let is : read ≡ slice_index_or forms t read = search (rules, c.index-forms-place.is) in
    let number : to_z w64 (of_z w64 c.in-Sum.number) ≡ c.in-Sum.number = to_z-of_z w64 c.in-Sum.number (search rules) in
    let form : IsFormOf nodes t (node_at nodes t) (summed c.in-Sum.number c.in-Sum.parts.items) = form_summed forms t read c.in-Sum.number c.in-Sum.parts.items nodes below is (ap plain_form c.in-Sum.is) have in
    let given : IsFormOf nodes t (node_at nodes t) (summed (to_z w64 (of_z w64 c.in-Sum.number)) c.deref-in-Sum.result.now) =
    subst (λ (n : ℤ). IsFormOf nodes t (node_at nodes t) (summed n c.deref-in-Sum.result.now)) (sym number)
    (subst (λ (ps : List (ℤ × ℕ)). IsFormOf nodes t (node_at nodes t) (summed c.in-Sum.number ps)) (sym c.deref-in-Sum.ensures.value) form) in
    subst (λ (m : ℤ). OnOk c.add_sum.result (Joins nodes m t (plain_sum c.args.sum.now) (plain_sum c.add_sum.new.sum))) (to_z-of_z w64 c.args.coefficient c.ranges.coefficient)
    (c.add_sum.ensures nodes (node_at nodes t) given)
