use Rattle.std.proofs.Common.{◌≡◌, ◌<◌, ◌∙◌, arith, length, subst, sym}
use Rattle.ep_ground.specs.NodeViews.{plain_node}
use Rattle.ep_ground.specs.Nodes.{GroundNode}
use Rattle.ep_share.proofs.Best.{read_at}
use Rattle.ep_share.proofs.Cuts.{pair_can, part_there}
use Rattle.ep_share.proofs.TwoParts.{pair_cut}
use Rattle.ep_share.specs.Cutting.{CanBeTaken, IsCut, IsTaken, addend_at, pair_of, told_reach}
use Rattle.ep_share.proofs.cutting.take_pair.Goals as goal

pub take-requires : goal.take-requires
take-requires c =
    let parts = c.args.parts.now in
    let first : c.args.at.first < length parts = omega (arith, c.requires.places.ascend, c.requires.places.within) in
    let one = read_at parts c.args.at.first c.index-parts-at.result first c.index-parts-at.is in
    let other = read_at parts c.args.at.second c.index-parts-at-2.result c.requires.places.within c.index-parts-at-2.is in
    let pair : plain_node c.in_ok-pair.pair ≡ pair_of (addend_at parts c.args.at.first) (addend_at parts c.args.at.second) = c.in_ok-pair.ensures ∙ (λ i. pair_of (one i) (other i)) in
    record {
      made = c.requires.made;
      room = c.requires.room;
      node = subst (CanBeTaken c.args.cells.now c.args.made.now) (sym pair)
          (pair_can c.args.cells.now c.args.made.now (addend_at parts c.args.at.first) (addend_at parts c.args.at.second)
          (part_there (length c.args.made.now.arena) parts c.args.at.first first c.requires.parts)
          (part_there (length c.args.made.now.arena) parts c.args.at.second c.requires.places.within c.requires.parts));
      cut = subst (IsCut (told_reach c.args.made.now.spans.items)) (sym pair) (pair_cut (told_reach c.args.made.now.spans.items) (addend_at parts c.args.at.first) (addend_at parts c.args.at.second));
    }

pub returns : goal.returns
returns c =
    let parts = c.args.parts.now in
    let first : c.args.at.first < length parts = omega (arith, c.requires.places.ascend, c.requires.places.within) in
    let one = read_at parts c.args.at.first c.index-parts-at.result first c.index-parts-at.is in
    let other = read_at parts c.args.at.second c.index-parts-at-2.result c.requires.places.within c.index-parts-at-2.is in
    let pair : plain_node c.in_ok-pair.pair ≡ pair_of (addend_at parts c.args.at.first) (addend_at parts c.args.at.second) = c.in_ok-pair.ensures ∙ (λ i. pair_of (one i) (other i)) in
    subst (λ (n : GroundNode). IsTaken c.args.cells.now c.args.made.now n c.take.new.made c.in_ok-term.term) pair c.in_ok-term.ensures
