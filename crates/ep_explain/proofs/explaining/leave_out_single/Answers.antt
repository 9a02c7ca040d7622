use Rattle.std.proofs.Common.{◌≡◌, ◌∙◌, ◌+◌, ◌-◌, drop, subst, sym, arith}
use Rattle.ep_explain.specs.Narrowing.{IsAllSettled}
use Rattle.ep_explain.proofs.Single.{is_none}
use Rattle.ep_explain.proofs.explaining.leave_out_single.Goals as goal

pub loop-place-preserved : goal.loop-place-preserved
loop-place-preserved g c =
    let next : c.loop-place.place ≡ c.loop-place.place - 1 + 1 = omega (arith, c.loop-place-test.true) in
    record {
      left = c.in_ok-after.ensures.left;
      within = c.in_ok-after.ensures.there;
      settled = c.in_ok-after.ensures.settled (is_none _ _ c.is_some-in-loop-place.ensures c.if-is_some-2.false)
          (subst (λ n. IsAllSettled (drop n c.loop-place.left.items)) next c.loop-place.invariant.settled);
      spent = c.in_ok-after.ensures.spent ∙ sym c.is_some-in-loop-place.ensures ∙ c.if-is_some-2.false;
      shown = c.in_ok-after.ensures.shown;
      budget = c.in_ok-after.ensures.budget ∙ c.loop-place.invariant.budget;
      sound = λ before. c.in_ok-after.ensures.sound (c.loop-place.invariant.sound before);
    }
