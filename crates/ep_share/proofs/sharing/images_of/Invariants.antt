use Rattle.std.proofs.Common.{◌≡◌, length}
use Rattle.ep_share.specs.Cutting.{IsMade}
use Rattle.ep_share.specs.Standing.{Stand}
use Rattle.ep_share.proofs.sharing.images_of.Given as goal

abbrev pub invariant-loop-t : goal.invariant-loop-t
invariant-loop-t l = record {
  many : length l.images.items ≡ l.t;
  stand : Stand l.g.cells.items l.g.arena l.made.arena l.images.items;
  made : IsMade l.g.cells.items l.made;
}
