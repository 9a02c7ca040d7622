use Rattle.std.proofs.Common.{◌≡◌, length}
use Rattle.ep_defined.specs.Translations.{Translates}
use Rattle.ep_defined.proofs.all.images_of.Given as goal

abbrev pub invariant-loop-t : goal.invariant-loop-t
invariant-loop-t l = record {
  many : length l.images.items ≡ l.t;
  stand : Translates l.g.cells.items l.g.arena l.arena l.nought l.images.items;
}
