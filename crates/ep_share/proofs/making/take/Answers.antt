use Rattle.std.proofs.Common.{◌∙◌, refl, subst, sym}
use Rattle.ep_ground.specs.NodeViews.{plain_node}
use Rattle.ep_numbers.specs.declared.spans.Span.{Span}
use Rattle.ep_numbers.specs.Spans.{interval_of}
use Rattle.std.specs.Prelude.{List}
use Rattle.ep_share.proofs.Taken.{taken_new, taken_old}
use Rattle.ep_share.specs.Cutting.{IsReachOver}
use Rattle.ep_share.proofs.making.take.Goals as goal

pub interned-requires : goal.interned-requires
interned-requires c = record { room = c.requires.room; parts = c.requires.node.parts }

pub returns-then-len-before : goal.returns-then-len-before
returns-then-len-before c =
    taken_old c.args.cells.now c.args.made.now _ (plain_node c.args.node) c.in_ok-term.term c.requires.made
    c.in_ok-term.ensures.term c.in_ok-term.ensures.arena (sym c.len.ensures.value ∙ c.if-len-before.true ∙ c.len-before.ensures.value) refl

pub returns : goal.returns
returns c =
    taken_new c.args.cells.now c.args.made.now _ (plain_node c.args.node) c.span_of-span.result c.in_ok-term.term c.requires.made c.requires.node c.requires.cut
    (subst (λ (ss : List Span). IsReachOver c.args.cells.now ss (plain_node c.args.node) (interval_of c.span_of-span.result)) c.deref.ensures.value c.span_of-span.ensures)
    c.len.ensures.arena c.in_ok-term.ensures.term c.in_ok-term.ensures.arena (λ same. c.if-len-before.false (c.len.ensures.value ∙ same ∙ sym c.len-before.ensures.value)) c.in_ok-push.ensures.items
