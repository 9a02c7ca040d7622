use Rattle.std.proofs.Common.{refl}
use Rattle.ep_ground.specs.Bounds.{node_reach}
use Rattle.ep_ground.specs.Grounds.{StandsOver}
use Rattle.ep_ground.specs.Nodes.{is_partial, member, parts_of}
use Rattle.ep_simplify.proofs.Taking.{own_settles, truth_settles}
use Rattle.ep_simplify.proofs.Untold.{membership_untold}
use Rattle.ep_simplify.specs.Decided.{IsOpen}
use Rattle.ep_simplify.proofs.settling.membership.Goals as goal

pub take-requires : goal.take-requires
unfolding parts_of is_partial StandsOver IsOpen
take-requires c = record {
  news = c.requires.news;
  room = c.requires.room;
  parts = c.requires.parts;
  safe = record { whole = refl; stands = tt };
  undecided = c.membered.ensures.undecided c.in-None.is;
  untold = λ were own. membership_untold c.args.cells.now c.args.news.now.arena c.args.a c.args.numbers (c.membered.ensures.untold c.in-None.is were.near c.args.cells.now c.requires.news);
}

pub returns-in_ok-outcome-in-Some : goal.returns-in_ok-outcome-in-Some
unfolding node_reach
returns-in_ok-outcome-in-Some c =
    truth_settles c.args.cells.now c.args.news.now c.truth.new.news (member c.args.a c.args.numbers) c.in-Some.known c.in_ok-outcome-in-Some.outcome c.requires.news refl
    (c.in-Some.ensures.says c.args.cells.now c.requires.news) c.in_ok-outcome-in-Some.ensures

pub returns-in_ok-own-in-None : goal.returns-in_ok-own-in-None
unfolding parts_of
returns-in_ok-own-in-None c =
    own_settles c.args.cells.now c.args.news.now c.take.new.news (member c.args.a c.args.numbers) c.in_ok-own-in-None.own c.requires.news c.requires.parts c.in_ok-own-in-None.ensures
