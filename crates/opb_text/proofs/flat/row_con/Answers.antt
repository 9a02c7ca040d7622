use Rattle.std.proofs.Common.{rules, ◌-ℤ◌, ◌∙◌, List, ℤ, of_z, to_z, w64, ap, subst, sym, arith}
use Rattle.std.proofs.lemmas.Int.{to_z-of_z}
use Rattle.ep_base.specs.declared.operators.CompareOp.{CompareOp}
use Rattle.opb_text.specs.declared.content.OpbTerm.{OpbTerm}
use Rattle.opb_text.specs.Sums.{IsConOf, IsSumOf}
use Rattle.opb_text.specs.Views.{plain_row}
use Rattle.opb_text.proofs.FlatLaws.{row_con_is, sum_con}
use Rattle.opb_text.proofs.flat.row_con.Goals as goal

pub returns : goal.returns
returns c =
    let parts = c.in_ok-sum.sum.parts.items in
    let number = to_z w64 (of_z w64 c.less-number.result) in
    let s = subst (λ (ts : List OpbTerm). IsSumOf c.args.vars.now ts parts c.in_ok-sum.sum.constant) c.deref.ensures.value c.in_ok-sum.ensures in
    let right = to_z-of_z w64 c.args.row.now.right (search rules) in
    let constant = to_z-of_z w64 c.in_ok-sum.sum.constant (search rules) in
    let is = to_z-of_z w64 c.less-number.result (search rules) ∙ c.less-number.ensures
    ∙ ap (λ (z : ℤ). z -ℤ to_z w64 (of_z w64 c.in_ok-sum.sum.constant)) right ∙ ap (λ (z : ℤ). c.args.row.now.right -ℤ z) constant in
    subst (λ (o : CompareOp). IsConOf c.args.vars.now (plain_row c.args.row.now) (sum_con parts o number)) (sym c.comparison.ensures)
    (row_con_is c.args.vars.now (plain_row c.args.row.now) parts c.in_ok-sum.sum.constant number s (omega (arith, c.requires.small)) is)
