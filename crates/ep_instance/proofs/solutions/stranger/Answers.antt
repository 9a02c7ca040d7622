use Rattle.std.proofs.Common.{◌∙◌, ◌+◌, ◌++◌, ap, refl, map, drop, option_map}
use Rattle.std.specs.Prelude.{option_to_list}
use Rattle.std.proofs.Math.ListN.{drop_of_length-le}
use Rattle.ep_tree.specs.SolutionTexts.{letting_names, strangers}
use Rattle.ep_tree.specs.Views.{statement_tree}
use Rattle.ep_types_rules.proofs.RuleSteps.{next_is}
use Rattle.ep_instance_parts.specs.Instances.{find_of}
use Rattle.ep_instance.proofs.ShapingSteps.{next_strange, no_stranger, stranger_first}
use Rattle.ep_instance.proofs.solutions.stranger.Goals as goal

pub loop-statement-init : goal.loop-statement-init
loop-statement-init c = refl

pub loop-statement-preserved : goal.loop-statement-preserved
loop-statement-preserved c =
    let fs = map find_of c.args.finds.now in
    let k = c.loop-statement.statement-index in
    let all = c.args.statements.now in
    let s = statement_tree c.statement-item.result in
    let ss = map statement_tree (drop (k + 1) all) in
    let cut = ap (λ xs. strangers fs (letting_names (map statement_tree xs))) (next_is all k c.statement-item.result c.loop-statement-test.true c.statement-item.is) in
    c.loop-statement.invariant ∙ cut ∙ next_strange fs s ss _ c.strange_name.ensures
    ∙ ap (λ o. option_to_list (option_map (λ n. n.now) o) ++ strangers fs (letting_names ss)) c.in_default.is

pub returns-in-loop-statement : goal.returns-in-loop-statement
returns-in-loop-statement c =
    let fs = map find_of c.args.finds.now in
    let k = c.loop-statement.statement-index in
    let all = c.args.statements.now in
    let s = statement_tree c.statement-item.result in
    let ss = map statement_tree (drop (k + 1) all) in
    let cut = ap (λ xs. strangers fs (letting_names (map statement_tree xs))) (next_is all k c.statement-item.result c.loop-statement-test.true c.statement-item.is) in
    stranger_first _ (strangers fs (letting_names ss)) c.in-Some.name.now _
    (c.loop-statement.invariant ∙ cut ∙ next_strange fs s ss _ c.strange_name.ensures
    ∙ ap (λ o. option_to_list (option_map (λ n. n.now) o) ++ strangers fs (letting_names ss)) c.in-Some.is)
    (c.in_ok-stranger.ensures.copied ∙ c.text.ensures.text)

pub returns : goal.returns
returns c =
    let fs = map find_of c.args.finds.now in
    c.loop-statement.invariant
    ∙ ap (λ xs. strangers fs (letting_names (map statement_tree xs))) (drop_of_length-le c.args.statements.now c.loop-statement-test.false)
    ∙ no_stranger fs
