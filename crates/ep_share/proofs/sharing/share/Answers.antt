use Rattle.std.proofs.Common.{arith, ap, length, subst, sym, ◌∙◌}
use Rattle.std.proofs.lemmas.Bool.{false≢true}
use Rattle.ep_ground.specs.GroundViews.{plain_ground}
use Rattle.ep_share.proofs.Shared.{IsAllShared, all_shared, bounded_after, few_nodes, fewer_additions, is_kept, kept_itself, same_additions}
use Rattle.ep_share.proofs.Standing.{nothing_made}
use Rattle.ep_simplify.proofs.Simplified.{keeps, named_below, none_partial, well_formed_after}
use Rattle.ep_simplify.specs.Standing.{IsSimplified}
use Rattle.ep_share.proofs.sharing.share.Goals as goal

pub returns-then-not-have_few_parts : goal.returns-then-not-have_few_parts
returns-then-not-have_few_parts c = record {
  keeps = kept_itself (plain_ground c.args.g);
  no_partial = c.requires.no_partial;
  well_formed = c.requires.well_formed;
  bounded = c.requires.bounded;
  nodes = omega arith;
  additions = same_additions (plain_ground c.args.g);
  shared = λ few. absurd (false≢true (sym c.if-not-have_few_parts.true ∙ c.have_few_parts.ensures.complete few));
}

pub images_of-requires : goal.images_of-requires
images_of-requires c = record {
  nodes = c.requires.nodes;
  well_formed = c.requires.well_formed;
  no_partial = c.requires.no_partial;
  few = c.have_few_parts.ensures.sound c.if-not-have_few_parts.false;
  made = nothing_made c.args.g.cells.items c.nothing-made.result c.nothing-made.ensures.arena c.nothing-made.ensures.spans;
  none = c.nothing-made.ensures.arena;
}

pub new_ground-requires : goal.new_ground-requires
new_ground-requires c =
    named_below (plain_ground c.args.g) c.deref.result.now (ap length c.deref.ensures.value ∙ c.in_ok-images.ensures.many) c.requires.well_formed

pub returns : goal.returns
returns c =
    let g = plain_ground c.args.g in
    let new = plain_ground c.in_ok-new.new in
    let images = c.in_ok-images.images.items in
    let made = c.images_of.new.made in
    let h : IsAllShared g new images made = record {
      stand = c.in_ok-images.ensures.stand;
      is_made = c.in_ok-images.ensures.made;
      same = c.in_ok-new.ensures.nodes;
      many = c.in_ok-images.ensures.many;
      simplified = subst (IsSimplified g new) c.deref.ensures.value c.in_ok-new.ensures.simplified;
      well_formed = c.requires.well_formed;
    } in
    record {
      keeps = keeps g new images (is_kept g new images made h);
      no_partial = none_partial g new images (is_kept g new images made h);
      well_formed = well_formed_after g new images (is_kept g new images made h);
      bounded = bounded_after g new images made h c.requires.bounded;
      nodes = few_nodes g new images made h;
      additions = fewer_additions g new images made h;
      shared = λ few. all_shared g new images made h c.requires.bounded;
    }
