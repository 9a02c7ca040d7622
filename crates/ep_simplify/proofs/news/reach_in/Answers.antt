use Rattle.std.proofs.Common.{List, ap, subst, sym, ◌∙◌}
use Rattle.ep_ground.specs.Bounds.{node_reach, reach_at}
use Rattle.ep_ground.specs.NodeViews.{plain_node}
use Rattle.ep_numbers.specs.Spans.{intervals_of}
use Rattle.ep_numbers.specs.declared.spans.Span.{Span}
use Rattle.ep_reach.proofs.Reaching.{if_some_so}
use Rattle.ep_reach.specs.Reaching.{IsToldAt}
use Rattle.ep_simplify.proofs.Taking.{known_reach}
use Rattle.ep_simplify.proofs.Untold.{told_over}
use Rattle.ep_simplify.proofs.news.reach_in.Goals as goal

pub returns-clause-near : goal.returns-clause-near
returns-clause-near c = if_some_so c.near_reach.result c.near_reach.ensures.near (λ span e. c.if-not-news.false)

pub returns-clause-reach : goal.returns-clause-reach
returns-clause-reach c = if_some_so c.near_reach.result c.near_reach.ensures.reach
    (λ span e h.
    e
    ∙ ap (λ (ss : List Span). node_reach c.args.cells.now (reach_at (intervals_of ss)) (plain_node c.args.node.now)) c.deref.ensures.value
    ∙ known_reach c.args.cells.now c.args.news.now h c.if-not-news.false (plain_node c.args.node.now))

pub returns-clause-told : goal.returns-clause-told
returns-clause-told c h were own =
    c.near_reach.ensures.told
    (subst (λ (ss : List Span). IsToldAt c.args.cells.now (intervals_of ss) (plain_node c.args.node.now)) (sym c.deref.ensures.value) (told_over c.args.cells.now c.args.news.now (plain_node c.args.node.now) h were own))
