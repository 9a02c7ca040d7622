use Rattle.std.proofs.Common.{ℕ, List, ◌<◌, ◌++◌, ◌∷◌, [], arith, length, refl, subst, sym, ◌∙◌}
use Rattle.std.specs.List.{All}
use Rattle.std.proofs.lemmas.List.Elements.{All-push}
use Rattle.ep_defined.specs.Images.{IsConjunction, IsImageBy, guards_in, over_totals}
use Rattle.ep_defined.specs.declared.kinds.Kind.{Kind}
use Rattle.ep_ground.specs.Nodes.{parts_of}
use Rattle.ep_ground.specs.NodeViews.{plain_node}
use Rattle.ep_defined.proofs.Growth.{all_later, conjunction_there, grows_then, guards_stand, image_by, is_later, is_there, room_after, room_less, truth_safe}
use Rattle.ep_defined.proofs.steps.truth_image.Goals as goal

pub total_of-requires-clause-whole : goal.total_of-requires-clause-whole
total_of-requires-clause-whole c =
    truth_safe (plain_node c.args.node.now) c.requires.kind

pub conjunction-requires-clause-guards : goal.conjunction-requires-clause-guards
conjunction-requires-clause-guards c =
    subst (All (λ (g : ℕ). g < length c.total_of.new.arena)) (sym (c.in_ok-push.ensures.items ∙ (λ i. (c.in_ok-add_guards_of.ensures ∙ (λ j. c.new-guards.ensures.items j ++ (guards_in c.args.images.now (parts_of (plain_node c.args.node.now))))) i ++ c.in_ok-plain.plain ∷ [])))
    (All-push (λ (g : ℕ). g < length c.total_of.new.arena) (guards_in c.args.images.now (parts_of (plain_node c.args.node.now))) c.in_ok-plain.plain (guards_stand c.total_of.new.arena c.args.images.now (parts_of (plain_node c.args.node.now)) (all_later (plain_node c.args.node.now) 1 c.args.arena.now c.total_of.new.arena c.args.images.now c.in_ok-plain.ensures.grows c.requires.stand) c.requires.parts)
    (is_there c.total_of.new.arena c.in_ok-plain.plain (over_totals c.args.images.now (plain_node c.args.node.now)) c.in_ok-plain.ensures.is))

pub returns-clause-is : goal.returns-clause-is
unfolding IsImageBy
returns-clause-is c =
    image_by Kind.Truth c.conjunction.new.arena c.args.nought c.args.images.now (plain_node c.args.node.now) _ c.requires.kind (record {
      plain = c.in_ok-plain.plain;
      is = is_later (plain_node c.args.node.now) 1 c.total_of.new.arena c.conjunction.new.arena c.in_ok-plain.plain (over_totals c.args.images.now (plain_node c.args.node.now)) (c.in_ok-all.ensures.grows (plain_node c.args.node.now)) c.in_ok-plain.ensures.is;
      total = subst (λ (o : _). IsConjunction c.conjunction.new.arena ((guards_in c.args.images.now (parts_of (plain_node c.args.node.now))) ++ c.in_ok-plain.plain ∷ []) o) c.in-Some.is (subst (λ (gs : List ℕ). IsConjunction c.conjunction.new.arena gs c.in_ok-all.all) (c.in_ok-push.ensures.items ∙ (λ i. (c.in_ok-add_guards_of.ensures ∙ (λ j. c.new-guards.ensures.items j ++ (guards_in c.args.images.now (parts_of (plain_node c.args.node.now))))) i ++ c.in_ok-plain.plain ∷ [])) c.in_ok-all.ensures.is);
      guard = refl;
    })

pub returns-clause-grows : goal.returns-clause-grows
returns-clause-grows c =
    grows_then (plain_node c.args.node.now) 1 1 3 c.args.arena.now c.total_of.new.arena c.conjunction.new.arena (omega arith) c.in_ok-plain.ensures.grows (c.in_ok-all.ensures.grows (plain_node c.args.node.now))

pub total_of-requires-clause-room : goal.total_of-requires-clause-room
total_of-requires-clause-room c = room_less 1 3 c.args.arena.now (omega arith) c.requires.room

pub conjunction-requires-clause-room : goal.conjunction-requires-clause-room
conjunction-requires-clause-room c =
    room_after (plain_node c.args.node.now) 1 1 3 c.args.arena.now c.total_of.new.arena (omega arith) c.in_ok-plain.ensures.grows c.requires.room

pub unreachable-requires : goal.unreachable-requires
unreachable-requires c =
    let guards = guards_in c.args.images.now (parts_of (plain_node c.args.node.now)) in
    conjunction_there c.conjunction.new.arena guards c.in_ok-plain.plain
    (subst (λ (o : _). IsConjunction c.conjunction.new.arena (guards ++ c.in_ok-plain.plain ∷ []) o) c.in-None.is (subst (λ (gs : List ℕ). IsConjunction c.conjunction.new.arena gs c.in_ok-all.all) (c.in_ok-push.ensures.items ∙ (λ i. (c.in_ok-add_guards_of.ensures ∙ (λ j. c.new-guards.ensures.items j ++ guards)) i ++ c.in_ok-plain.plain ∷ [])) c.in_ok-all.ensures.is))
