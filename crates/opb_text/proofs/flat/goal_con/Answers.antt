use Rattle.std.proofs.Common.{rules, ◌≡◌, ◌-ℤ◌, ◌∙◌, List, ℕ, ℤ, pos, neg_ℤ, length, of_z, to_z, w64, refl, ap, subst, sym, arith}
use Rattle.std.proofs.lemmas.Int.{ints, to_z-of_z}
use Rattle.ep_base.specs.declared.operators.CompareOp.TheVariants as op
use Rattle.opb_text.specs.Sums.{IsGoalCon}
use Rattle.opb_text.proofs.FlatLaws.{goal_con_is, sum_con}
use Rattle.opb_text.proofs.flat.goal_con.Goals as goal

less_than_zero : (z : ℤ) → (pos 0 -ℤ z) ≡ neg_ℤ z
less_than_zero z = omega (arith, ints)

pub returns : goal.returns
returns c =
    let number = to_z w64 (of_z w64 c.less-number.result) in
    let constant = to_z-of_z w64 c.in_ok-sum.sum.constant (search rules) in
    let is = to_z-of_z w64 c.less-number.result (search rules) ∙ c.less-number.ensures ∙ ap (λ (z : ℤ). pos 0 -ℤ z) constant ∙ less_than_zero c.in_ok-sum.sum.constant in
    subst (λ (ps : List (ℤ × ℕ)). IsGoalCon c.args.vars.now c.args.terms.now (sum_con ps op.Equal number)) (sym c.in_ok-push_part.ensures)
    (goal_con_is c.args.vars.now c.args.terms.now c.in_ok-sum.sum.parts.items c.in_ok-sum.sum.constant number (length c.args.vars.now) c.in_ok-sum.ensures c.requires.small is refl)
