use Rattle.std.proofs.Common.{◌<◌, ℤ, length, refl, subst, w64}
use Rattle.std.proofs.lemmas.Int.{to_z-of_z}
use Rattle.std.proofs.lemmas.List.Elements.{All-nil}
use Rattle.ep_ground.specs.Grounds.{StandsOver}
use Rattle.ep_ground.specs.Nodes.{constant, is_partial, parts_of}
use Rattle.ep_simplify.proofs.Untold.{number_untold}
use Rattle.ep_simplify.specs.Settling.{IsTaken}
use Rattle.ep_simplify.specs.Decided.{IsOpen}
use Rattle.ep_simplify.proofs.settling.number.Goals as goal

pub take-requires : goal.take-requires
unfolding parts_of is_partial StandsOver IsOpen
take-requires c = record {
  news = c.requires.news;
  room = c.requires.room;
  parts = All-nil (λ p. p < length c.args.news.now.arena);
  safe = record { whole = refl; stands = tt };
  undecided = tt;
  untold = λ were own. number_untold c.args.cells.now c.args.news.now.arena _;
}

pub returns : goal.returns
returns c =
    subst (λ (n : ℤ). IsTaken c.args.cells.now c.args.news.now (constant n) c.take.new.news c.in_ok-alone.alone) (to_z-of_z w64 c.args.number c.ranges.number) c.in_ok-alone.ensures
