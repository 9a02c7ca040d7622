use Rattle.std.proofs.Common.{sym, ◌∙◌}
use Rattle.ep_parse_parts.proofs.LooksAhead.{comes_not, told_never, told_now, told_on, told_smaller, un_named}
use Rattle.ep_parse_parts.proofs.cursor.Cursor.colon_comes.Goals as goal

pub returns-then-is_none : goal.returns-then-is_none
returns-then-is_none c = record { comes = sym (comes_not _ (un_named _ _ c.name_next.ensures.next c.if-is_none.ensures)) ∙ c.loop-ahead.invariant }

pub returns-then-is_at : goal.returns-then-is_at
returns-then-is_at c = record { comes = told_now _ _ _ c.name_next.ensures.next c.if-is_none.ensures c.pass.ensures.passed c.if-is_at.ensures.next ∙ c.loop-ahead.invariant }

pub returns-then-not-passes : goal.returns-then-not-passes
returns-then-not-passes c =
    record { comes = told_never _ _ _ _ c.name_next.ensures.next c.if-is_none.ensures c.pass.ensures.passed c.if-is_at.ensures.next c.if-not-passes.ensures.passed ∙ c.loop-ahead.invariant }

pub loop-ahead-smaller : goal.loop-ahead-smaller
loop-ahead-smaller c = told_smaller _ _ _ _ c.name_next.ensures.next c.if-is_none.ensures c.pass.ensures.passed c.if-not-passes.ensures.passed

pub loop-ahead-preserved : goal.loop-ahead-preserved
loop-ahead-preserved c =
    told_on _ _ _ _ c.name_next.ensures.next c.if-is_none.ensures c.pass.ensures.passed c.if-is_at.ensures.next c.if-not-passes.ensures.passed ∙ c.loop-ahead.invariant
