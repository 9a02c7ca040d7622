use Rattle.std.proofs.Common.{◌≡◌, ℕ, ◌<◌, ◌+◌, List, [], ◌∷◌, ◌++◌, Some, ap, length, subst, sym, ◌∙◌, slice_get}
use Rattle.std.specs.List.{All}
use Rattle.std.proofs.lemmas.List.{length_push}
use Rattle.ep_defined.specs.Growing.{IsSafeOver}
use Rattle.ep_ground.specs.GroundViews.{plain_ground}
use Rattle.ep_ground.specs.NodeViews.{plain_node}
use Rattle.ep_ground.specs.Nodes.{parts_of}
use Rattle.ep_ground.specs.SameTrees.{with_parts}
use Rattle.ep_ground.specs.declared.cells.Cell.{Cell}
use Rattle.ep_simplify.proofs.Images.{all_parts_stand, has_room, made_near, none_near, one_more, safe_node, started}
use Rattle.ep_simplify.specs.Settling.{IsNews, IsSettled}
use Rattle.ep_simplify.specs.Standing.{Stand, standing_at}
use Rattle.ep_simplify.proofs.simpler.images_of.Goals as goal

pub loop-t-init : goal.loop-t-init
loop-t-init c = record {
  many = ap length c.new-images.ensures.items;
  stand = subst (Stand c.args.g.now.cells.items c.args.g.now.arena c.args.news.now.arena) (sym c.new-images.ensures.items) (started c.args.g.now.cells.items c.args.g.now.arena c.args.news.now.arena c.requires.none);
  news = c.requires.news;
  near = λ near. none_near c.args.news.now c.requires.none c.requires.near;
}

pub with_parts-requires : goal.with_parts-requires
with_parts-requires c =
    let place : c.new.result ≡ length c.deref.result.now = c.new.ensures ∙ sym c.loop-t.invariant.many ∙ sym (ap length c.deref.ensures.value) in
    subst (λ (n : ℕ). All (λ (p : ℕ). p < n) (parts_of (plain_node c.node-old.result.now))) place c.node-old.ensures.parts

pub settled-requires : goal.settled-requires
settled-requires c =
    let images = c.loop-t.images.items in
    let cells = c.args.g.now.cells.items in
    let olds = c.args.g.now.arena in
    let node = plain_node c.node-old.result.now in
    let place : c.new.result ≡ length images = c.new.ensures ∙ sym c.loop-t.invariant.many in
    let same = subst (λ (is : List ℕ). plain_node c.in_ok-node.node ≡ with_parts (standing_at is) node) c.deref.ensures.value c.in_ok-node.ensures in
    let below = subst (λ (n : ℕ). All (λ (p : ℕ). p < n) (parts_of node)) place c.node-old.ensures.parts in
    record {
      news = subst (λ (cs : List Cell). IsNews cs c.loop-t.news) (sym c.deref-in-loop-t.ensures.value) c.loop-t.invariant.news;
      room = has_room (length c.loop-t.news.arena) (length images) c.loop-t.t c.len-t-end.result c.loop-t.invariant.stand.few c.loop-t.invariant.many c.loop-t-test.true c.len-t-end.ensures.fits;
      parts = all_parts_stand cells olds c.loop-t.news.arena images node (plain_node c.in_ok-node.node) c.loop-t.invariant.stand below same;
      safe = subst (λ (cs : List Cell). IsSafeOver (length cs) (plain_node c.in_ok-node.node)) (sym c.deref-in-loop-t.ensures.value)
          (subst (IsSafeOver (length cells)) (sym same) (safe_node (standing_at images) (length cells) olds c.new.result node c.requires.no_partial c.requires.well_formed.nodes c.node-old.ensures.node));
    }

pub loop-t-preserved : goal.loop-t-preserved
loop-t-preserved c =
    let images = c.loop-t.images.items in
    let cells = c.args.g.now.cells.items in
    let olds = c.args.g.now.arena in
    let node = plain_node c.node-old.result.now in
    let items : c.push.new.self.items ≡ images ++ c.in_ok-image.image ∷ [] = c.in_ok-push.ensures.items in
    let place : c.new.result ≡ length images = c.new.ensures ∙ sym c.loop-t.invariant.many in
    let at = subst (λ (k : ℕ). slice_get olds k ≡ Some node) place c.node-old.ensures.node in
    let same = subst (λ (is : List ℕ). plain_node c.in_ok-node.node ≡ with_parts (standing_at is) node) c.deref.ensures.value c.in_ok-node.ensures in
    let settles = subst (λ (cs : List Cell). IsSettled cs c.loop-t.news (plain_node c.in_ok-node.node) c.settled.new.news c.in_ok-image.image) c.deref-in-loop-t.ensures.value c.in_ok-image.ensures in
    record {
      many = ap length items ∙ length_push images c.in_ok-image.image ∙ ap (λ (k : ℕ). k + 1) c.loop-t.invariant.many;
      stand = one_more cells olds c.loop-t.news c.settled.new.news images c.push.new.self.items node (plain_node c.in_ok-node.node) c.in_ok-image.image c.len-t-end.ensures.arena.before c.loop-t.invariant.stand c.loop-t.invariant.news at same settles items;
      news = settles.news;
      near = λ near. settles.near (c.loop-t.invariant.near near) (made_near (plain_ground c.args.g.now) c.loop-t.news.arena images node (plain_node c.in_ok-node.node) c.len-t-end.ensures.arena.before c.loop-t.invariant.stand at same near);
    }
