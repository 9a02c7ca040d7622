use Rattle.std.proofs.Common.{refl, arith}
use Rattle.sat_state.specs.Trail.{literals}
use Rattle.sat_search.proofs.Tracing.{free_below}
use Rattle.sat_search.proofs.learning.cut_at.Goals as goal

pub returns : goal.returns
returns c =
    let e = c.in_ok-decision.ensures in (
      refl,
      record {
        order = omega (arith, e.below);
        there = c.requires.within;
        at_end = e.decision.at_end;
        free = λ d. free_below (literals c.args.state.now.trail) c.in_ok-decision.decision c.args.place _ (omega (arith, e.below)) (c.requires.free d);
        marked = c.requires.marked;
        alone = e.alone;
      },
    )
