use Rattle.std.proofs.Common.{rules, refl, sym, subst, ℤ, length, w64, to_z, of_z}
use Rattle.std.proofs.lemmas.Int.{to_z-of_z}
use Rattle.ep_ground.specs.Nodes as nodes
use Rattle.ep_ground.specs.Nodes.{GroundNode}
use Rattle.ep_flatten.specs.Forms.{IsNextForm, summed}
use Rattle.ep_flatten.specs.FormViews.{plain_forms, plain_sum}
use Rattle.ep_flatten.specs.Sums.{Gathers}
use Rattle.ep_flatten.proofs.SumLaws.{gathers_all, gathers_none, gathers_step}
use Rattle.ep_flatten.proofs.FormLaws.{form_sum}
use Rattle.ep_flatten.proofs.forms.sum_form.Goals as goal

pub loop-part-init : goal.loop-part-init
loop-part-init c = λ nodes have. gathers_none nodes (to_z w64 (of_z w64 c.args.number)) (record { number = to_z w64 (of_z w64 c.args.number); parts = c.new.result.items }) refl c.new.ensures.items

pub loop-part-preserved : goal.loop-part-preserved
loop-part-preserved c = λ nodes have.
    let p = c.part-item.result in
    gathers_step nodes (to_z w64 (of_z w64 c.args.number)) c.args.parts.now c.loop-part.part-index p (to_z w64 (of_z w64 p.0)) (plain_sum c.loop-part.sum) (plain_sum c.join.new.sum)
    c.loop-part-test.true c.part-item.is (to_z-of_z w64 p.0 (search rules)) (c.loop-part.invariant nodes have) (c.in_ok-join.ensures nodes have)

pub returns : goal.returns
returns c =
    let forms = plain_forms c.args.forms.now in
    let sum = c.loop-part.sum in
    subst (λ (n : ℤ). IsNextForm forms (nodes.sum c.args.number c.args.parts.now) (summed n sum.parts.items)) (sym (to_z-of_z w64 sum.number (search rules)))
    (λ nodes have h.
    form_sum nodes (length forms) c.args.number c.args.parts.now (plain_sum sum)
    (subst (λ (n : ℤ). Gathers nodes n c.args.parts.now (plain_sum sum)) (to_z-of_z w64 c.args.number c.ranges.number)
    (gathers_all nodes (to_z w64 (of_z w64 c.args.number)) c.args.parts.now c.loop-part.part-index (plain_sum sum) c.loop-part-test.false (c.loop-part.invariant nodes have)))
    h)
