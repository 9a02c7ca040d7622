use Rattle.ep_size.proofs.Words.{arith, refl, SFits, w64, ints, plain_span}
use Rattle.ep_size.proofs.SumSteps.{added, high_fits, high_own, low_fits, low_own, near_own, sums_decided, sums_fixed}
use Rattle.ep_size.proofs.sums.Summed.add.Goals as goal

pub returns-then-span : goal.returns-then-span
returns-then-span c spans few h =
    let t = c.args.self.now in
    let s = c.args.span in
    let f : SFits w64 s.reach.low = omega (arith, ints) in
    let g : SFits w64 s.reach.high = omega (arith, ints) in
    let n = near_own s.reach.low f in
    let m = near_own s.reach.high g in
    sums_decided t _ spans (plain_span s) few h n m
    (added t.low s.reach.low c.from.result c.saturating_add-self.result (low_own t spans h) f (low_fits t spans s.reach.low few h n) c.from.ensures c.saturating_add-self.ensures)
    (added t.high s.reach.high c.from-2.result c.saturating_add-self-2.result (high_own t spans h) g (high_fits t spans s.reach.high few h m) c.from-2.ensures c.saturating_add-self-2.ensures)
    (omega (arith, c.told.ensures, c.told_count.ensures, c.told-self.ensures))
    (omega (arith, c.told-then-span.ensures, c.told-self-then-span.ensures))
    c.if-span.true

pub returns-else-span : goal.returns-else-span
returns-else-span c spans few h =
    let t = c.args.self.now in
    let s = c.args.span in
    let f : SFits w64 s.reach.low = omega (arith, ints) in
    let g : SFits w64 s.reach.high = omega (arith, ints) in
    let n = near_own s.reach.low f in
    let m = near_own s.reach.high g in
    sums_fixed t _ spans (plain_span s) few h n m
    (added t.low s.reach.low c.from.result c.saturating_add-self.result (low_own t spans h) f (low_fits t spans s.reach.low few h n) c.from.ensures c.saturating_add-self.ensures)
    (added t.high s.reach.high c.from-2.result c.saturating_add-self-2.result (high_own t spans h) g (high_fits t spans s.reach.high few h m) c.from-2.ensures c.saturating_add-self-2.ensures)
    refl refl
    c.if-span.false
