use Rattle.std.proofs.Common.{◌∙◌, sym}
use Rattle.ep_explain.proofs.explaining.leave_out_blocks.Goals as goal

pub loop-turn-preserved : goal.loop-turn-preserved
loop-turn-preserved g c = record {
  narrowed = c.in_ok-narrowed.ensures;
  spent = c.in_ok-after.ensures.spent ∙ sym c.is_some.ensures ∙ c.if-is_some.false;
  shown = c.in_ok-after.ensures.shown;
  budget = c.in_ok-after.ensures.budget ∙ c.loop-turn.invariant.budget;
  sound = λ before. c.in_ok-after.ensures.sound (c.loop-turn.invariant.sound before);
}
