use Rattle.std.proofs.Common.{ℕ, List, ◌<◌, ◌++◌, length, subst, sym, ◌∙◌}
use Rattle.std.specs.Prelude.{option_to_list}
use Rattle.std.specs.List.{All}
use Rattle.std.proofs.lemmas.List.Elements.{All-append}
use Rattle.ep_defined.specs.Images.{IsConjunction, guards_in}
use Rattle.ep_ground.specs.Nodes.{parts_of}
use Rattle.ep_ground.specs.NodeViews.{plain_node}
use Rattle.ep_defined.proofs.Growth.{guards_stand, own_stands}
use Rattle.ep_defined.proofs.steps.guard_of.Goals as goal

pub conjunction-requires-clause-guards : goal.conjunction-requires-clause-guards
conjunction-requires-clause-guards c =
    subst (All (λ (g : ℕ). g < length c.args.arena.now)) (sym (c.in_ok-add_guards_of.ensures ∙ (λ i. c.in_ok-guards.ensures i ++ guards_in c.args.images.now (parts_of (plain_node c.args.node.now)))))
    (All-append (λ (g : ℕ). g < length c.args.arena.now) (option_to_list c.args.own) (guards_in c.args.images.now (parts_of (plain_node c.args.node.now))) (own_stands c.args.arena.now c.args.own c.requires.own) (guards_stand c.args.arena.now c.args.images.now (parts_of (plain_node c.args.node.now)) c.requires.stand c.requires.parts))

pub returns-clause-is : goal.returns-clause-is
returns-clause-is c =
    subst (λ (gs : List ℕ). IsConjunction c.conjunction.new.arena gs c.in_ok-all.all) (c.in_ok-add_guards_of.ensures ∙ (λ i. c.in_ok-guards.ensures i ++ guards_in c.args.images.now (parts_of (plain_node c.args.node.now)))) c.in_ok-all.ensures.is
