use Rattle.std.proofs.Common.{refl}
use Rattle.ep_ground.specs.Bounds.{node_reach}
use Rattle.ep_ground.specs.Nodes.{same_truth}
use Rattle.ep_simplify.proofs.Joining.{both_first_below}
use Rattle.ep_simplify.proofs.Taking.{truth_settles}
use Rattle.ep_simplify.proofs.settling.equivalence.Goals as goal

pub equivalent-requires : goal.equivalent-requires
equivalent-requires c = let h = both_first_below c.args.news.now.arena c.args.a c.args.b c.requires.parts in record { a = h.0; b = h.1 }

pub open_equivalence-requires : goal.open_equivalence-requires
open_equivalence-requires c = record {
  news = c.requires.news;
  room = c.requires.room;
  parts = c.requires.parts;
  undecided = c.equivalent.ensures.undecided c.in-None.is;
}

pub returns-in_ok-outcome-in-Some : goal.returns-in_ok-outcome-in-Some
unfolding node_reach
returns-in_ok-outcome-in-Some c =
    truth_settles c.args.cells.now c.args.news.now c.truth.new.news (same_truth c.args.a c.args.b) c.in-Some.known c.in_ok-outcome-in-Some.outcome c.requires.news refl
    (c.in-Some.ensures.says c.args.cells.now c.requires.news) c.in_ok-outcome-in-Some.ensures
