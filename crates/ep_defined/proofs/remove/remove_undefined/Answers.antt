use Rattle.std.proofs.Common.{ap, length, subst, ◌∙◌}
use Rattle.ep_defined.specs.Translations.{IsRemoved}
use Rattle.ep_defined.proofs.Ending.{all_translated, few_nodes, named_below}
use Rattle.ep_defined.proofs.Removed.{bounded_after, keeps, none_partial, well_formed_after}
use Rattle.ep_ground.specs.GroundViews.{plain_ground}
use Rattle.ep_defined.proofs.remove.remove_undefined.Goals as goal

pub images_of-requires : goal.images_of-requires
images_of-requires c = record {
  nodes = c.requires.nodes;
  well_formed = c.requires.well_formed;
  start = c.in_ok-nought.ensures c.args.g.cells.items c.args.g.arena;
}

pub new_ground-requires : goal.new_ground-requires
new_ground-requires c =
    named_below (plain_ground c.args.g) c.deref.result.now (ap length c.deref.ensures.value ∙ c.in_ok-images.ensures.many) c.requires.well_formed

pub returns-clause-keeps : goal.returns-clause-keeps
returns-clause-keeps c =
    keeps (plain_ground c.args.g) (plain_ground c.in_ok-new.new) c.in_ok-images.images.items
    (all_translated (plain_ground c.args.g) (plain_ground c.in_ok-new.new) c.in_ok-images.images.items c.images_of.new.arena c.in_ok-nought.nought
    c.in_ok-new.ensures.nodes c.in_ok-images.ensures.stand c.in_ok-images.ensures.many (subst (IsRemoved (plain_ground c.args.g) (plain_ground c.in_ok-new.new)) c.deref.ensures.value c.in_ok-new.ensures.removed) c.requires.well_formed)

pub returns-clause-no_partial : goal.returns-clause-no_partial
returns-clause-no_partial c =
    none_partial (plain_ground c.args.g) (plain_ground c.in_ok-new.new) c.in_ok-images.images.items
    (all_translated (plain_ground c.args.g) (plain_ground c.in_ok-new.new) c.in_ok-images.images.items c.images_of.new.arena c.in_ok-nought.nought
    c.in_ok-new.ensures.nodes c.in_ok-images.ensures.stand c.in_ok-images.ensures.many (subst (IsRemoved (plain_ground c.args.g) (plain_ground c.in_ok-new.new)) c.deref.ensures.value c.in_ok-new.ensures.removed) c.requires.well_formed)

pub returns-clause-well_formed : goal.returns-clause-well_formed
returns-clause-well_formed c =
    well_formed_after (plain_ground c.args.g) (plain_ground c.in_ok-new.new) c.in_ok-images.images.items
    (all_translated (plain_ground c.args.g) (plain_ground c.in_ok-new.new) c.in_ok-images.images.items c.images_of.new.arena c.in_ok-nought.nought
    c.in_ok-new.ensures.nodes c.in_ok-images.ensures.stand c.in_ok-images.ensures.many (subst (IsRemoved (plain_ground c.args.g) (plain_ground c.in_ok-new.new)) c.deref.ensures.value c.in_ok-new.ensures.removed) c.requires.well_formed)

pub returns-clause-bounded : goal.returns-clause-bounded
returns-clause-bounded c =
    bounded_after (plain_ground c.args.g) (plain_ground c.in_ok-new.new) c.in_ok-images.images.items
    (all_translated (plain_ground c.args.g) (plain_ground c.in_ok-new.new) c.in_ok-images.images.items c.images_of.new.arena c.in_ok-nought.nought
    c.in_ok-new.ensures.nodes c.in_ok-images.ensures.stand c.in_ok-images.ensures.many (subst (IsRemoved (plain_ground c.args.g) (plain_ground c.in_ok-new.new)) c.deref.ensures.value c.in_ok-new.ensures.removed) c.requires.well_formed)

pub returns-clause-nodes : goal.returns-clause-nodes
returns-clause-nodes c =
    few_nodes (plain_ground c.args.g) (plain_ground c.in_ok-new.new) c.in_ok-images.images.items
    (all_translated (plain_ground c.args.g) (plain_ground c.in_ok-new.new) c.in_ok-images.images.items c.images_of.new.arena c.in_ok-nought.nought
    c.in_ok-new.ensures.nodes c.in_ok-images.ensures.stand c.in_ok-images.ensures.many (subst (IsRemoved (plain_ground c.args.g) (plain_ground c.in_ok-new.new)) c.deref.ensures.value c.in_ok-new.ensures.removed) c.requires.well_formed)
