use Rattle.std.proofs.Common.{sym, ◌∙◌}
use Rattle.ep_ground.specs.Nodes.{least, parts_of}
use Rattle.ep_simplify.proofs.Picking.{least_of_one, least_untold, not_one}
use Rattle.ep_simplify.proofs.Taking.{own_settles}
use Rattle.ep_simplify.specs.Decided.{IsOpen}
use Rattle.ep_simplify.proofs.settling.least_part.Goals as goal

pub take-requires : goal.take-requires
unfolding parts_of IsOpen
take-requires c = record {
  news = c.requires.news;
  room = c.requires.room;
  parts = c.requires.parts;
  safe = c.requires.safe;
  undecided = not_one c.args.parts.items c.deref.result.now c.deref.ensures.value (c.lone_part.ensures.none c.in_default.is);
  untold = λ were own. least_untold c.args.cells.now c.args.news.now c.args.parts.items (c.requires.untold were own);
}

pub returns-in-Some : goal.returns-in-Some
returns-in-Some c = least_of_one c.args.cells.now c.args.news.now c.args.parts.items c.in-Some.part c.requires.news c.requires.parts (sym c.deref.ensures.value ∙ c.in-Some.ensures.one)

pub returns : goal.returns
unfolding parts_of
returns c = own_settles c.args.cells.now c.args.news.now c.take.new.news (least c.args.parts.items) c.in_ok-own.own c.requires.news c.requires.parts c.in_ok-own.ensures
