use Rattle.std.proofs.Common.{◌≡◌, ℕ, ◌<◌, List, [], ◌∷◌, ◌++◌, ◌+◌, Some, ap, length, subst, sym, ◌∙◌, slice_get}
use Rattle.std.specs.List.{All}
use Rattle.std.proofs.lemmas.List.{length_push}
use Rattle.std.proofs.lemmas.Option.{slice_get_within}
use Rattle.ep_defined.specs.Images.{IsImage, StandsIn}
use Rattle.ep_defined.specs.Translations.{Translates}
use Rattle.ep_defined.specs.declared.images.Image.{Image}
use Rattle.ep_defined.proofs.AllImages.{images_stand, room_for_image}
use Rattle.ep_defined.proofs.Translating.{translates_more}
use Rattle.ep_ground.specs.Nodes.{parts_of}
use Rattle.ep_ground.specs.NodeViews.{plain_node}
use Rattle.ep_defined.proofs.all.images_of.Goals as goal

pub loop-t-init : goal.loop-t-init
loop-t-init c = record {
  many = ap length c.new-images.ensures.items;
  stand = subst (Translates c.args.g.now.cells.items c.args.g.now.arena c.args.arena.now c.args.nought) (sym c.new-images.ensures.items) c.requires.start;
}

pub loop-t-preserved : goal.loop-t-preserved
loop-t-preserved c =
    let olds = c.args.g.now.arena in
    let items : c.push.new.self.items ≡ c.loop-t.images.items ++ c.in_ok-image.image ∷ [] = c.in_ok-push.ensures.items in
    let place : c.new.result ≡ length c.loop-t.images.items = c.new.ensures ∙ sym c.loop-t.invariant.many in
    let at = subst (λ (k : ℕ). slice_get olds k ≡ Some (plain_node c.node-node.result.now)) place c.node-node.ensures.node in
    let is = subst (λ (images : List Image). IsImage c.node_image.new.arena c.args.nought images (plain_node c.node-node.result.now) c.in_ok-image.image) c.deref.ensures.value c.in_ok-image.ensures.is in
    record {
      many = ap length items ∙ length_push c.loop-t.images.items c.in_ok-image.image ∙ ap (λ (k : ℕ). k + 1) c.loop-t.invariant.many;
      stand = subst (Translates c.args.g.now.cells.items olds c.node_image.new.arena c.args.nought) (sym items)
          (translates_more c.args.g.now.cells.items olds c.loop-t.arena c.node_image.new.arena c.args.nought c.loop-t.images.items (plain_node c.node-node.result.now) c.in_ok-image.image
          c.len-t-end.ensures.arena.before c.requires.well_formed.nodes c.loop-t.invariant.stand at c.in_ok-image.ensures.grows is);
    }

pub node_image-requires : goal.node_image-requires
node_image-requires c =
    let place : c.new.result ≡ length c.deref.result.now = c.new.ensures ∙ sym c.loop-t.invariant.many ∙ sym (ap length c.deref.ensures.value) in
    record {
      parts = subst (λ (n : ℕ). All (λ (p : ℕ). p < n) (parts_of (plain_node c.node-node.result.now))) place c.node-node.ensures.parts;
      stand = subst (All (StandsIn c.loop-t.arena)) (sym c.deref.ensures.value) (images_stand c.args.g.now.cells.items c.args.g.now.arena c.loop-t.arena c.args.nought c.loop-t.images.items c.loop-t.invariant.stand);
      nought = slice_get_within c.loop-t.arena c.args.nought _ c.loop-t.invariant.stand.is_nought;
      room = room_for_image (length c.loop-t.arena) (length c.loop-t.images.items) c.loop-t.t (length c.args.g.now.arena) c.loop-t.invariant.stand.few c.loop-t.invariant.many (subst (λ (n : ℕ). c.loop-t.t < n) c.len-t-end.ensures.value c.loop-t-test.true) c.requires.nodes;
    }
