use Rattle.std.proofs.Common.{rules, sym, subst, ◌≡◌, ◌∷◌, [], ℤ, pos, w64, to_z, of_z}
use Rattle.std.proofs.lemmas.Int.{to_z-of_z}
use Rattle.ep_ground.specs.Nodes as nodes
use Rattle.ep_ground.specs.Nodes.{GroundNode}
use Rattle.ep_flatten.specs.Forms.{IsNextForm, summed}
use Rattle.ep_flatten.specs.FormViews.{plain_forms, plain_sum}
use Rattle.ep_flatten.specs.Sums.{Gathers}
use Rattle.ep_flatten.proofs.FormLaws.{next_left, next_own, next_right}
use Rattle.ep_flatten.proofs.forms.product_form.Goals as goal

pub returns-in-Some : goal.returns-in-Some
returns-in-Some c =
    let forms = plain_forms c.args.forms.now in
    let sum = c.in_ok-sum.sum in
    let k = to_z w64 (of_z w64 c.in-Some.number) in
    let number : k ≡ c.in-Some.number = to_z-of_z w64 c.in-Some.number (search rules) in
    subst (λ (n : ℤ). IsNextForm forms (nodes.product c.args.one c.args.other) (summed n sum.parts.items)) (sym (to_z-of_z w64 sum.number (search rules)))
    (next_left forms c.args.one c.args.other c.in-Some.number (plain_sum sum) c.in-Some.ensures.there c.in-Some.ensures.form c.in-Some.ensures.small
    (λ nodes have. subst (λ (m : ℤ). Gathers nodes (pos 0) ((m, c.args.other) ∷ []) (plain_sum sum)) number (c.in_ok-sum.ensures nodes have)))

pub returns-in-Some-number_of : goal.returns-in-Some-number_of
returns-in-Some-number_of c =
    let forms = plain_forms c.args.forms.now in
    let sum = c.in_ok-sum-2.sum in
    let found = c.in-Some-number_of in
    let k = to_z w64 (of_z w64 found.number) in
    let number : k ≡ found.number = to_z-of_z w64 found.number (search rules) in
    subst (λ (n : ℤ). IsNextForm forms (nodes.product c.args.one c.args.other) (summed n sum.parts.items)) (sym (to_z-of_z w64 sum.number (search rules)))
    (next_right forms c.args.one c.args.other found.number (plain_sum sum) found.ensures.there found.ensures.form found.ensures.small
    (λ nodes have. subst (λ (m : ℤ). Gathers nodes (pos 0) ((m, c.args.one) ∷ []) (plain_sum sum)) number (c.in_ok-sum-2.ensures nodes have)))

pub returns : goal.returns
returns c = next_own (plain_forms c.args.forms.now) (nodes.product c.args.one c.args.other)
