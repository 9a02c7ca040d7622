use Rattle.std.proofs.Common.{◌++◌, List, [], ℕ, ap, map, ◌∙◌}
use Rattle.std.proofs.lemmas.List.{take_all}
use Rattle.opb_text.specs.declared.content.OpbTerm.{OpbTerm}
use Rattle.opb_text.specs.Contents.{objective_terms}
use Rattle.opb_text.specs.Views.{plain_opb}
use Rattle.opb_text.proofs.NamedOnce.{variables_with, variables_none, variables_step}
use Rattle.opb_text.proofs.variables.named_variables.Goals as goal

pub loop-row-init : goal.loop-row-init
loop-row-init c =
    c.in_ok-push_variables.ensures
    ∙ ap (λ (xs : List ℕ). xs ++ map (λ t. t.var) c.objective_terms.result.now) c.new-named.ensures.items
    ∙ ap (λ (ts : List OpbTerm). [] ++ map (λ t. t.var) ts) c.objective_terms.ensures
    ∙ variables_none (objective_terms (plain_opb c.args.opb.now))

pub loop-row-preserved : goal.loop-row-preserved
loop-row-preserved c =
    c.in_ok-push_variables-2.ensures
    ∙ ap (λ (ts : List OpbTerm). c.loop-row.named.items ++ map (λ t. t.var) ts) c.deref.ensures.value
    ∙ variables_step (objective_terms (plain_opb c.args.opb.now)) c.deref-row-items.result.now c.loop-row.row-index c.row-item.result c.loop-row.named.items c.loop-row-test.true c.row-item.is c.loop-row.invariant

pub returns : goal.returns
returns c =
    c.loop-row.invariant
    ∙ ap (variables_with (objective_terms (plain_opb c.args.opb.now))) (take_all c.loop-row.row-index c.deref-row-items.result.now c.loop-row-test.false ∙ c.deref-row-items.ensures.value)
