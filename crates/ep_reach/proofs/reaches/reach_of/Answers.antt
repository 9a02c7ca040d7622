use Rattle.std.proofs.Common.{rules, ◌∷◌, ap, subst, sym, ◌∙◌, w64}
use Rattle.std.specs.Prelude.{map}
use Rattle.std.proofs.lemmas.Int.{to_z-of_z}
use Rattle.ep_base.specs.Intervals.{only, scaled, sum_interval}
use Rattle.ep_ground.specs.Bounds.{node_reach, reach_at}
use Rattle.ep_ground.specs.NodeViews.{plain_node}
use Rattle.ep_ground.specs.Nodes.{sum}
use Rattle.ep_numbers.specs.Spans.{intervals_of}
use Rattle.ep_reach.specs.Reaching.{IsToldAt}
use Rattle.ep_reach.proofs.Reaching.{if_some_so}
use Rattle.ep_reach.proofs.Telling.{told_power, told_sum}
use Rattle.ep_reach.proofs.reaches.reach_of.Goals as goal

pub returns-in-Add-clause-reach : goal.returns-in-Add-clause-reach
unfolding node_reach
returns-in-Add-clause-reach c =
    let g = reach_at (intervals_of c.args.spans.now) in
    let number = to_z-of_z w64 c.in-Add.number (search rules) in
    if_some_so c.sum_of_terms.result c.sum_of_terms.ensures.sum
    (λ wide e. e ∙ (λ i. sum_interval (only (number i) ∷ map (λ p. scaled p.0 (g p.1)) (c.deref.ensures.value i))) ∙ ap (λ x. node_reach c.args.cells.now g (plain_node x)) (sym c.in-Add.is))

pub returns-in-Add-clause-told : goal.returns-in-Add-clause-told
returns-in-Add-clause-told c h =
    c.sum_of_terms.ensures.told
    (told_sum c.args.cells.now (intervals_of c.args.spans.now) c.in-Add.number c.deref.result.now
    (subst (IsToldAt c.args.cells.now (intervals_of c.args.spans.now)) (ap plain_node c.in-Add.is ∙ ap (sum c.in-Add.number) (sym c.deref.ensures.value)) h))

pub returns-in-Pow-clause-reach : goal.returns-in-Pow-clause-reach
unfolding node_reach
returns-in-Pow-clause-reach c =
    if_some_so c.power_of_term.result c.power_of_term.ensures.same
    (λ wide e. e ∙ ap (λ x. node_reach c.args.cells.now (reach_at (intervals_of c.args.spans.now)) (plain_node x)) (sym c.in-Pow.is))

pub returns-in-Pow-clause-told : goal.returns-in-Pow-clause-told
returns-in-Pow-clause-told c h =
    c.power_of_term.ensures.told
    (told_power c.args.cells.now (intervals_of c.args.spans.now) c.in-Pow.part c.in-Pow.exponent
    (subst (IsToldAt c.args.cells.now (intervals_of c.args.spans.now)) (ap plain_node c.in-Pow.is) h))
