use Rattle.std.proofs.Common.{◌≤◌, List, ap, arith, length, subst, sym, ◌∙◌}
use Rattle.std.specs.Prelude.{slice_get}
use Rattle.std.specs.List.{All}
use Rattle.ep_base.specs.Reads.{IsWithinNumbers}
use Rattle.ep_ground.specs.Bounds.{node_reach, reach_at}
use Rattle.ep_ground.specs.GroundViews.{plain_ground}
use Rattle.ep_ground.specs.NodeViews.{plain_node}
use Rattle.ep_ground.specs.declared.cells.Cell.{Cell}
use Rattle.ep_numbers.specs.Spans.{interval_of, intervals_of}
use Rattle.ep_reach.specs.Reaching.{IsToldAt}
use Rattle.ep_numbers.specs.declared.spans.Span.{Span}
use Rattle.ep_reach.proofs.Reaching.{bounded_all, bounded_more, bounded_none, pushed_intervals}
use Rattle.ep_reach.proofs.Telling.{told_at}
use Rattle.ep_reach.proofs.checks.is_bounded.Goals as goal

pub loop-term-init : goal.loop-term-init
loop-term-init c =
    let g = plain_ground c.args.ground.now in bounded_none g.nodes g.cells (intervals_of c.new-spans.result.items) (ap intervals_of c.new-spans.ensures.items)

pub loop-term-preserved : goal.loop-term-preserved
loop-term-preserved c =
    let g = plain_ground c.args.ground.now in
    let node = plain_node c.node-node.result.now in
    let spans = c.loop-term.spans.items in
    bounded_more g.nodes g.cells c.loop-term.term (intervals_of spans) (intervals_of c.push.new.self.items) node (interval_of c.in-Some.span)
    (ap (slice_get g.nodes) (sym c.new.ensures) ∙ c.node-node.ensures.node)
    (c.in-Some.ensures.reach ∙ (λ i. node_reach (c.deref-in-loop-term-2.ensures.value i) (reach_at (intervals_of (c.deref-in-loop-term.ensures.value i))) node))
    c.in-Some.ensures.near c.in-Some.ensures.coefficients
    (pushed_intervals spans c.push.new.self.items c.in-Some.span c.in_ok-push.ensures.items) c.loop-term.invariant

pub returns-clause-sound : goal.returns-clause-sound
returns-clause-sound c h =
    let g = plain_ground c.args.ground.now in
    let end : length g.nodes ≤ c.loop-term.term = omega (arith, c.loop-term-test.false, c.len-term-end.ensures.value) in
    bounded_all g c.loop-term.term (intervals_of c.loop-term.spans.items) end
    (subst (λ (cells : List Cell). All (λ one. All IsWithinNumbers one.values) cells) c.deref.ensures.value (c.are_near_cells.ensures.sound c.if-not-are_near_cells.false)) c.loop-term.invariant

pub returns-then-not-are_near_cells-clause-complete : goal.returns-then-not-are_near_cells-clause-complete
returns-then-not-are_near_cells-clause-complete c h =
    sym c.if-not-are_near_cells.true
    ∙ c.are_near_cells.ensures.complete (subst (λ (cells : List Cell). All (λ one. All IsWithinNumbers one.values) cells) (sym c.deref.ensures.value) h.cells)

pub returns-in_default-clause-complete : goal.returns-in_default-clause-complete
returns-in_default-clause-complete c h =
    let g = plain_ground c.args.ground.now in
    let node = plain_node c.node-node.result.now in
    let spans = c.loop-term.spans.items in
    let told = told_at g c.loop-term.term (intervals_of spans) node (ap (slice_get g.nodes) (sym c.new.ensures) ∙ c.node-node.ensures.node) c.loop-term.invariant h in
    c.in_default.ensures.told
    (subst (λ (cells : List Cell). IsToldAt cells (intervals_of c.deref-in-loop-term.result.now) node) (sym c.deref-in-loop-term-2.ensures.value)
    (subst (λ (kept : List Span). IsToldAt g.cells (intervals_of kept) node) (sym c.deref-in-loop-term.ensures.value) told))
