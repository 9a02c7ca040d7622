use Rattle.std.proofs.Common.{refl}
use Rattle.ep_ground.specs.Grounds.{StandsOver}
use Rattle.ep_ground.specs.Nodes.{is_partial, negation, parts_of}
use Rattle.ep_simplify.proofs.Negating.{below_at, double_untold, first_below, negation_negated, open_double}
use Rattle.ep_simplify.proofs.Taking.{own_settles}
use Rattle.ep_simplify.proofs.settling.double_negation.Goals as goal

pub take-requires : goal.take-requires
unfolding parts_of is_partial StandsOver
take-requires c = record {
  news = c.requires.news;
  room = c.requires.room;
  parts = c.requires.parts;
  safe = record { whole = refl; stands = tt };
  undecided = open_double c.args.news.now.arena c.args.a c.args.inner c.requires.inner;
  untold = λ were own. double_untold c.args.cells.now c.args.news.now.arena c.args.a c.args.inner c.requires.inner (c.is_truth.ensures.complete c.if-is_truth.false (first_below c.args.news.now.arena c.args.inner (below_at c.args.cells.now c.args.news.now c.args.a (negation c.args.inner) c.requires.news c.requires.inner)) were.near c.args.cells.now c.requires.news);
}

pub returns-then-is_truth : goal.returns-then-is_truth
returns-then-is_truth c =
    negation_negated c.args.cells.now c.args.news.now c.args.a c.args.inner c.requires.news (first_below c.args.news.now.arena c.args.a c.requires.parts) c.requires.inner
    (c.is_truth.ensures.sound c.if-is_truth.true c.args.cells.now c.requires.news)

pub returns : goal.returns
unfolding parts_of
returns c = own_settles c.args.cells.now c.args.news.now c.take.new.news (negation c.args.a) c.in_ok-own.own c.requires.news c.requires.parts c.in_ok-own.ensures
