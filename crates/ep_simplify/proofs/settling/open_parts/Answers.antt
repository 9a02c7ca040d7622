use Rattle.std.proofs.Common.{sym, ◌∙◌}
use Rattle.ep_simplify.proofs.Joining.{open_dropped, open_kept}
use Rattle.ep_simplify.proofs.settling.open_parts.Goals as goal

pub loop-part-preserved-then-is_number : goal.loop-part-preserved-then-is_number
loop-part-preserved-then-is_number c =
    open_dropped c.args.news.now.arena c.args.parts.now c.loop-part.part-index _ c.loop-part.rest.items c.loop-part.invariant c.loop-part-test.true c.part-item.is (sym c.is_number.ensures ∙ c.if-is_number.true)

pub loop-part-preserved : goal.loop-part-preserved
loop-part-preserved c =
    open_kept c.args.news.now.arena c.args.parts.now c.loop-part.part-index _ c.loop-part.rest.items c.push.new.self.items c.in_ok-push.ensures.items c.loop-part.invariant c.loop-part-test.true c.part-item.is (sym c.is_number.ensures ∙ c.if-is_number.false)
