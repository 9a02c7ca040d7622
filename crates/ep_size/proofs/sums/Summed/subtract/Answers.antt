use Rattle.ep_size.proofs.Words.{arith, refl, SFits, w64, neg_ℤ, ints, negated, negated_span, plain_span}
use Rattle.ep_size.proofs.SumSteps.{high_fits, high_own, low_fits, low_own, near_opposite, sums_decided, sums_fixed, taken}
use Rattle.ep_size.proofs.sums.Summed.subtract.Goals as goal

pub returns-then-span : goal.returns-then-span
unfolding negated_span negated
returns-then-span c spans few h =
    let t = c.args.self.now in
    let s = c.args.span in
    let f : SFits w64 s.reach.low = omega (arith, ints) in
    let g : SFits w64 s.reach.high = omega (arith, ints) in
    let n = near_opposite s.reach.high g in
    let m = near_opposite s.reach.low f in
    sums_decided t _ spans (negated_span (plain_span s)) few h n m
    (taken t.low s.reach.high c.from.result c.saturating_sub-self.result (low_own t spans h) g (low_fits t spans (neg_ℤ s.reach.high) few h n) c.from.ensures c.saturating_sub-self.ensures)
    (taken t.high s.reach.low c.from-2.result c.saturating_sub-self-2.result (high_own t spans h) f (high_fits t spans (neg_ℤ s.reach.low) few h m) c.from-2.ensures c.saturating_sub-self-2.ensures)
    (omega (arith, c.told.ensures, c.told_count.ensures, c.told-self.ensures))
    (omega (arith, c.told-then-span.ensures, c.told-self-then-span.ensures))
    c.if-span.true

pub returns-else-span : goal.returns-else-span
unfolding negated_span negated
returns-else-span c spans few h =
    let t = c.args.self.now in
    let s = c.args.span in
    let f : SFits w64 s.reach.low = omega (arith, ints) in
    let g : SFits w64 s.reach.high = omega (arith, ints) in
    let n = near_opposite s.reach.high g in
    let m = near_opposite s.reach.low f in
    sums_fixed t _ spans (negated_span (plain_span s)) few h n m
    (taken t.low s.reach.high c.from.result c.saturating_sub-self.result (low_own t spans h) g (low_fits t spans (neg_ℤ s.reach.high) few h n) c.from.ensures c.saturating_sub-self.ensures)
    (taken t.high s.reach.low c.from-2.result c.saturating_sub-self-2.result (high_own t spans h) f (high_fits t spans (neg_ℤ s.reach.low) few h m) c.from-2.ensures c.saturating_sub-self-2.ensures)
    refl refl
    c.if-span.false
