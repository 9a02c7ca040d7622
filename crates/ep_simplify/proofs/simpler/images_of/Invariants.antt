use Rattle.std.proofs.Common.{◌≡◌, length}
use Rattle.ep_ground.specs.GroundViews.{plain_ground}
use Rattle.ep_reach.specs.Reaching.{IsNearThroughout}
use Rattle.ep_simplify.specs.Settling.{AreNear, IsNews}
use Rattle.ep_simplify.specs.Standing.{Stand}
use Rattle.ep_simplify.proofs.simpler.images_of.Given as goal

abbrev pub invariant-loop-t : goal.invariant-loop-t
invariant-loop-t l = record {
  many : length l.images.items ≡ l.t;
  stand : Stand l.g.cells.items l.g.arena l.news.arena l.images.items;
  news : IsNews l.g.cells.items l.news;
  near : IsNearThroughout (plain_ground l.g) → AreNear l.news;
}
