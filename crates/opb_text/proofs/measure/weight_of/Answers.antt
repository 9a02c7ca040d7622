use Rattle.std.proofs.Common.{◌≡◌, ◌+◌, ◌*◌, ◌≤◌, List, ℕ, min, map, take, subst, sym, ap, ◌∙◌, arith}
use Rattle.std.specs.Prelude.{All, sum_by}
use Rattle.std.proofs.lemmas.List.{take_all}
use Rattle.opb_text.specs.declared.content.OpbTerm.{OpbTerm}
use Rattle.opb_text.specs.declared.content.OpbRow.{OpbRow}
use Rattle.opb_text.specs.Contents.{objective_terms}
use Rattle.opb_text.specs.Views.{plain_opb, plain_row}
use Rattle.opb_text.specs.Weights.{factors_reach, row_reach, terms_cost, most_reach, most_weight}
use Rattle.opb_text.proofs.Measures.{near_row, rows_cost, weight_step}
use Rattle.opb_text.proofs.measure.weight_of.Goals as goal

pub terms_cost-requires-in-loop-row : goal.terms_cost-requires-in-loop-row
terms_cost-requires-in-loop-row c =
    let near : List OpbRow → Type 0 = λ rows. All (λ row. row_reach row ≤ most_reach) (map plain_row rows) in
    let all = subst near (sym c.deref-row-items.ensures.value) c.requires.reach.rows in
    let here = near_row c.deref-row-items.result.now c.loop-row.row-index c.row-item.result all c.loop-row-test.true c.row-item.is in
    subst (λ (ts : List OpbTerm). factors_reach ts ≤ most_reach) (sym c.deref.ensures.value) (omega (arith, here))

pub loop-row-init : goal.loop-row-init
loop-row-init c =
    let cost : c.terms_cost.result ≡ terms_cost (objective_terms (plain_opb c.args.opb.now)) = c.terms_cost.ensures ∙ ap terms_cost c.objective_terms.ensures in
    omega (arith, c.capped_sum-weight.ensures, c.capped_sum-weight-2.ensures, cost)

pub loop-row-preserved : goal.loop-row-preserved
loop-row-preserved c =
    weight_step c.deref-row-items.result.now c.loop-row.row-index c.row-item.result (2 * c.args.vars) (terms_cost (objective_terms (plain_opb c.args.opb.now)))
    c.loop-row.weight c.capped_sum-weight-in-loop-row.result c.terms_cost-in-loop-row.result c.loop-row-test.true c.row-item.is c.loop-row.invariant c.capped_sum-weight-in-loop-row.ensures
    (c.terms_cost-in-loop-row.ensures ∙ ap terms_cost c.deref.ensures.value)

pub returns : goal.returns
returns c =
    let whole : take c.loop-row.row-index c.deref-row-items.result.now ≡ c.args.opb.now.rows.items = take_all c.loop-row.row-index c.deref-row-items.result.now c.loop-row-test.false ∙ c.deref-row-items.ensures.value in
    let cost = ap (sum_by (λ (row : OpbRow). terms_cost row.terms.items)) whole ∙ sym (rows_cost c.args.opb.now.rows.items) in
    c.loop-row.invariant ∙ ap (λ (n : ℕ). min (2 * c.args.vars + (terms_cost (objective_terms (plain_opb c.args.opb.now)) + n)) (most_weight + 1)) cost
