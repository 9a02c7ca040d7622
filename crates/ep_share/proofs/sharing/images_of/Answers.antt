use Rattle.std.proofs.Common.{◌≡◌, ℕ, ◌<◌, ◌≤◌, ◌+◌, List, [], ◌∷◌, ◌++◌, Some, ap, length, refl, subst, sym, ◌∙◌, slice_get}
use Rattle.std.specs.List.{All}
use Rattle.std.proofs.lemmas.List.{length_push}
use Rattle.ep_ground.specs.NodeViews.{plain_node}
use Rattle.ep_ground.specs.Nodes.{parts_of}
use Rattle.ep_ground.specs.SameTrees.{with_parts}
use Rattle.ep_ground.specs.declared.cells.Cell.{Cell}
use Rattle.ep_share.proofs.Standing.{has_room, next_can, one_more, started}
use Rattle.ep_share.specs.Cutting.{CanBeTaken, IsMade}
use Rattle.ep_share.specs.Standing.{IsSettled, Stand}
use Rattle.ep_simplify.specs.Standing.{standing_at}
use Rattle.ep_share.proofs.sharing.images_of.Goals as goal

pub loop-t-init : goal.loop-t-init
loop-t-init c = record {
  many = ap length c.new-images.ensures.items;
  stand = subst (Stand c.args.g.now.cells.items c.args.g.now.arena c.args.made.now.arena) (sym c.new-images.ensures.items) (started c.args.g.now.cells.items c.args.g.now.arena c.args.made.now.arena c.requires.none);
  made = c.requires.made;
}

pub with_parts-requires : goal.with_parts-requires
with_parts-requires c =
    let place : c.new.result ≡ length c.deref.result.now = c.new.ensures ∙ sym c.loop-t.invariant.many ∙ sym (ap length c.deref.ensures.value) in
    subst (λ (n : ℕ). All (λ (p : ℕ). p < n) (parts_of (plain_node c.node-old.result.now))) place c.node-old.ensures.parts

pub settled-requires : goal.settled-requires
settled-requires c =
    let images = c.loop-t.images.items in
    let cells = c.args.g.now.cells.items in
    let olds = c.args.g.now.arena in
    let node = plain_node c.node-old.result.now in
    let place : c.new.result ≡ length images = c.new.ensures ∙ sym c.loop-t.invariant.many in
    let at = subst (λ (k : ℕ). slice_get olds k ≡ Some node) place c.node-old.ensures.node in
    let same = subst (λ (is : List ℕ). plain_node c.in_ok-node.node ≡ with_parts (standing_at is) node) c.deref.ensures.value c.in_ok-node.ensures in
    record {
      made = subst (λ (cs : List Cell). IsMade cs c.loop-t.made) (sym c.deref-in-loop-t.ensures.value) c.loop-t.invariant.made;
      room = has_room (length c.loop-t.made.arena) (length images) c.loop-t.t c.len-t-end.result 400000008 c.loop-t.invariant.stand.few c.loop-t.invariant.many c.loop-t-test.true (subst (λ (n : ℕ). n ≤ 400000008) (sym c.len-t-end.ensures.value) c.requires.nodes) refl;
      node = subst (λ (cs : List Cell). CanBeTaken cs c.loop-t.made (plain_node c.in_ok-node.node)) (sym c.deref-in-loop-t.ensures.value)
          (next_can cells olds c.loop-t.made images node (plain_node c.in_ok-node.node) c.len-t-end.ensures.arena.before c.loop-t.invariant.stand c.requires.no_partial c.requires.well_formed.nodes c.requires.few at same);
    }

pub loop-t-preserved : goal.loop-t-preserved
loop-t-preserved c =
    let images = c.loop-t.images.items in
    let cells = c.args.g.now.cells.items in
    let olds = c.args.g.now.arena in
    let node = plain_node c.node-old.result.now in
    let items : c.push.new.self.items ≡ images ++ c.in_ok-image.image ∷ [] = c.in_ok-push.ensures.items in
    let place : c.new.result ≡ length images = c.new.ensures ∙ sym c.loop-t.invariant.many in
    let at = subst (λ (k : ℕ). slice_get olds k ≡ Some node) place c.node-old.ensures.node in
    let same = subst (λ (is : List ℕ). plain_node c.in_ok-node.node ≡ with_parts (standing_at is) node) c.deref.ensures.value c.in_ok-node.ensures in
    let settles = subst (λ (cs : List Cell). IsSettled cs 8 c.loop-t.made (plain_node c.in_ok-node.node) c.settled.new.made c.in_ok-image.image) c.deref-in-loop-t.ensures.value c.in_ok-image.ensures in
    record {
      many = ap length items ∙ length_push images c.in_ok-image.image ∙ ap (λ (k : ℕ). k + 1) c.loop-t.invariant.many;
      stand = one_more cells olds c.loop-t.made c.settled.new.made images c.push.new.self.items node (plain_node c.in_ok-node.node) c.in_ok-image.image c.len-t-end.ensures.arena.before c.loop-t.invariant.stand c.loop-t.invariant.made at same settles items;
      made = settles.made;
    }
