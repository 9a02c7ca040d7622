use Rattle.std.proofs.Common.{arith, subst, sym, ℕ}
use Rattle.ep_ground.specs.GroundViews.{plain_ground}
use Rattle.ep_flatten.specs.FormViews.{plain_forms}
use Rattle.ep_flatten.specs.Marking.{AreMarksFrom}
use Rattle.ep_flatten.proofs.marks.marks_of.Goals as goal

pub loop-term-init : goal.loop-term-init
loop-term-init c = (
  omega (arith, c.len-term.ensures.value),
  subst (λ (n : ℕ). AreMarksFrom (plain_ground c.args.g.now) (plain_forms c.args.forms.now) n n c.in_ok-marks.marks.asserted.items c.in_ok-marks.marks.marked.items) (sym c.len-term.ensures.value)
      (c.in_ok-marks.ensures (plain_forms c.args.forms.now)),
)
