use Rattle.std.proofs.Common.{rules, sym, subst, ℕ, ℤ, List, pos, w64, to_z, of_z}
use Rattle.std.proofs.lemmas.Int.{to_z-of_z}
use Rattle.ep_ground.specs.NodeViews.{plain_node}
use Rattle.ep_ground.specs.Nodes as nodes
use Rattle.ep_numbers.specs.Spans.{interval_of, intervals_of}
use Rattle.ep_flatten.specs.Building.{Covers, CoversFormAlways}
use Rattle.ep_flatten.specs.FormViews.{plain_form}
use Rattle.ep_flatten.specs.declared.forms.Form.{Form}
use Rattle.ep_flatten.proofs.Adding.{covers_compared, covers_own, covers_summed}
use Rattle.ep_flatten.proofs.spans.form_span.Goals as goal

pub returns-in-Own : goal.returns-in-Own
returns-in-Own c =
    let spans = intervals_of c.args.spans.now in
    let node = plain_node c.args.node.now in
    subst (λ (form : Form). CoversFormAlways spans node (plain_form form) (interval_of c.span_of.result)) (sym c.in-Own.is)
    (record { covers = λ cells. covers_own node cells spans (interval_of c.span_of.result) (c.span_of.ensures.covers cells) })

pub returns-in-Sum : goal.returns-in-Sum
returns-in-Sum c =
    let spans = intervals_of c.args.spans.now in
    let node = plain_node c.args.node.now in
    let n = c.in-Sum.number in
    let parts = c.in-Sum.parts.items in
    let i = interval_of c.sum_span.result in
    subst (λ (form : Form). CoversFormAlways spans node (plain_form form) i) (sym c.in-Sum.is)
    (record {
      covers = λ cells.
          covers_summed node n parts cells spans i
          (subst (λ (m : ℤ). Covers cells spans (nodes.sum m parts) i) (to_z-of_z w64 n (search rules))
          (subst (λ (ps : List (ℤ × ℕ)). Covers cells spans (nodes.sum (to_z w64 (of_z w64 n)) ps) i) c.deref.ensures.value (c.sum_span.ensures.covers cells)));
    })

pub returns-in-Compare : goal.returns-in-Compare
returns-in-Compare c =
    let spans = intervals_of c.args.spans.now in
    let node = plain_node c.args.node.now in
    subst (λ (form : Form). CoversFormAlways spans node (plain_form form) (interval_of (record { low = pos 0; high = pos 1 }))) (sym c.in-Compare.is)
    (record { covers = λ cells. covers_compared node c.in-Compare.field-0 c.in-Compare.field-1.items c.in-Compare.field-2 cells spans })
