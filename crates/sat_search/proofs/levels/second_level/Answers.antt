use Rattle.std.proofs.Common.{ap, ◌∙◌, subst, max}
use Rattle.sat_search.specs.Analysis.{IsFrom}
use Rattle.sat_search.proofs.GoingBack.{one_after, two_after}
use Rattle.sat_search.proofs.levels.second_level.Goals as goal

pub loop-lit-preserved : goal.loop-lit-preserved
loop-lit-preserved c =
    let trail = c.args.state.now.trail in
    let here = c.level_in-level.result in
    let lits = c.lits-lits.result.now in
    let l = c.lit-item.result in
    let i = c.loop-lit.lit-index in
    let highest = c.loop-lit.highest in
    let second = c.loop-lit.second in
    let from : IsFrom trail here l.var = subst (IsFrom trail here) c.var.ensures.value c.level_in-level.ensures in
    record {
      one = one_after trail highest here c.max-highest.result i lits l c.loop-lit-test.true c.lit-item.is from c.max-highest.ensures c.loop-lit.invariant.one;
      two = two_after trail second highest here c.max-second.result i lits l c.lits-lits.ensures.ordered c.loop-lit-test.true c.lit-item.is from
          (c.max-second.ensures ∙ ap (max second) c.min.ensures) c.loop-lit.invariant.one c.loop-lit.invariant.two;
    }
