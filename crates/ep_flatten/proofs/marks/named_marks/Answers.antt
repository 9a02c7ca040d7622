use Rattle.std.proofs.Common.{rules, ◌≡◌, false}
use Rattle.std.specs.Prelude.{replicate}
use Rattle.ep_ground.specs.GroundViews.{plain_ground}
use Rattle.ep_flatten.proofs.MarkedTerms.{named_marked}
use Rattle.ep_flatten.proofs.marks.named_marks.Goals as goal

pub returns : goal.returns
returns c = λ forms.
    let none : c.in_ok-asserted.asserted.items ≡ replicate c.len.result false = search rules in
    let unmarked : c.in_ok-marked.marked.items ≡ replicate c.len-2.result false = search rules in
    named_marked (plain_ground c.args.g.now) forms c.len.result c.len-2.result c.in_ok-asserted.asserted.items c.in_ok-marked.marked.items c.mark_all.new.marks.items c.mark_goal.new.marks.items c.deref.result.now
    none c.len.ensures.value unmarked c.len-2.ensures.value c.deref.ensures.value c.mark_all.ensures c.mark_goal.ensures c.requires
