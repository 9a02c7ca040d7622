use Rattle.ep_size.proofs.Words.{Ok, ap, refl, subst, ◌∙◌, absolute_interval, one_node, negated_span, wide_span, absolute, all_different, folded, minus, negation, to_int, expr_tree, env_in, grid_of, Gives, capped}
use Rattle.ep_size.proofs.FormSteps.{absolute_number, minus_number, negation_number, to_int_number}
use Rattle.ep_size.proofs.NodeSteps.{finished_at}
use Rattle.ep_size.proofs.MatrixSteps.{all_different_number, folded_node}
use Rattle.ep_size.proofs.forms.finish_one.Goals as goal

pub returns-in-Group : goal.returns-in-Group
unfolding one_node
returns-in-Group c mode p holds known =
    finished_at mode (env_in c.args.scope) _ _ _ _ _ (ap (λ o. one_node p o (expr_tree c.args.part.now)) c.in-Group.is) holds (λ held.
    c.group_node.ensures mode p held known)

pub returns-in-Not : goal.returns-in-Not
unfolding one_node
returns-in-Not c mode p holds known =
    let e = expr_tree c.args.part.now in
    finished_at mode (env_in c.args.scope) _ _ c.args.total.now c.truth_node.new.total (Ok c.truth_node.result) (ap (λ o. one_node p o (expr_tree c.args.part.now)) c.in-Not.is) holds (λ held.
    c.truth_node.ensures mode (env_in c.args.scope) (negation p e) 2 refl (negation_number mode (env_in c.args.scope) p e held))

pub returns-in-ToInt : goal.returns-in-ToInt
unfolding one_node
returns-in-ToInt c mode p holds known =
    let e = expr_tree c.args.part.now in
    finished_at mode (env_in c.args.scope) _ _ c.args.total.now c.truth_node-in-ToInt.new.total (Ok c.truth_node-in-ToInt.result) (ap (λ o. one_node p o (expr_tree c.args.part.now)) c.in-ToInt.is) holds (λ held.
    c.truth_node-in-ToInt.ensures mode (env_in c.args.scope) (to_int p e) 0 refl (to_int_number mode (env_in c.args.scope) p e held))

pub returns-in-Neg : goal.returns-in-Neg
unfolding one_node
returns-in-Neg c mode p holds known =
    let e = expr_tree c.args.part.now in
    finished_at mode (env_in c.args.scope) _ _ _ _ _ (ap (λ o. one_node p o (expr_tree c.args.part.now)) c.in-Neg.is) holds (λ held.
    c.number_node.ensures mode (env_in c.args.scope) (minus p e) _ _
    (c.told_count.ensures ∙ ap (λ s. capped s.spread) c.number_span-span.ensures)
    (subst (λ s. Gives c.negated_span.result (negated_span s)) c.number_span-span.ensures c.negated_span.ensures)
    (minus_number mode (env_in c.args.scope) p e (grid_of c.args.known) held known.extent))

pub returns-in-Abs : goal.returns-in-Abs
unfolding one_node
returns-in-Abs c mode p holds known =
    let e = expr_tree c.args.part.now in
    finished_at mode (env_in c.args.scope) _ _ _ _ _ (ap (λ o. one_node p o (expr_tree c.args.part.now)) c.in-Abs.is) holds (λ held.
    c.number_node-in-Abs.ensures mode (env_in c.args.scope) (absolute p e) _ _
    (c.told_count-in-Abs.ensures ∙ ap (λ s. capped s.spread) c.number_span-span.ensures)
    (subst (λ s. Gives c.wide.result (wide_span (absolute_interval s.reach))) c.number_span-span.ensures
    (subst (λ i. Gives c.wide.result (wide_span i)) c.absolute.ensures c.wide.ensures))
    (absolute_number mode (env_in c.args.scope) p e (grid_of c.args.known) held known.extent))

pub returns-in-Flatten : goal.returns-in-Flatten
unfolding one_node
returns-in-Flatten c mode p holds known =
    finished_at mode (env_in c.args.scope) _ _ _ _ _ (ap (λ o. one_node p o (expr_tree c.args.part.now)) c.in-Flatten.is) holds (λ held.
    c.flat_node.ensures mode (env_in c.args.scope) p (expr_tree c.args.part.now) c.args.total.now held known)

pub returns-in-Fold : goal.returns-in-Fold
unfolding one_node
returns-in-Fold c mode p holds known =
    let e = expr_tree c.args.part.now in
    finished_at mode (env_in c.args.scope) _ _ _ _ _ (ap (λ o. one_node p o (expr_tree c.args.part.now)) c.in-Fold.is) holds (λ held.
    c.finish_fold.ensures mode (env_in c.args.scope) (folded p c.in-Fold.fold e) (folded_node mode (env_in c.args.scope) p c.in-Fold.fold e (grid_of c.args.known) held known.extent))

pub returns-in-AllDiff : goal.returns-in-AllDiff
unfolding one_node
returns-in-AllDiff c mode p holds known =
    let e = expr_tree c.args.part.now in
    finished_at mode (env_in c.args.scope) _ _ _ _ _ (ap (λ o. one_node p o (expr_tree c.args.part.now)) c.in-AllDiff.is) holds (λ held.
    c.finish_different.ensures mode (env_in c.args.scope) (all_different p e) (all_different_number mode (env_in c.args.scope) p e (grid_of c.args.known) held known.extent))
