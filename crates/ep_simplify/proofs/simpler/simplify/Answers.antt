use Rattle.std.proofs.Common.{ap, length, subst, sym, ◌∙◌}
use Rattle.ep_ground.specs.GroundViews.{plain_ground}
use Rattle.ep_simplify.proofs.Additions.{fewer_additions}
use Rattle.ep_simplify.proofs.Images.{no_news}
use Rattle.ep_simplify.proofs.Simplified.{all_folded, all_simplified, all_undecided, all_untold, bounded_after, few_nodes, is_kept, keeps, named_below, none_told, none_partial, well_formed_after}
use Rattle.ep_ground.specs.Terms.{PartsStandBefore}
use Rattle.ep_simplify.specs.Standing.{IsSimplified}
use Rattle.ep_simplify.proofs.simpler.simplify.Goals as goal

pub images_of-requires : goal.images_of-requires
images_of-requires c = record {
  well_formed = c.requires.well_formed;
  no_partial = c.requires.no_partial;
  news = no_news c.args.g.cells.items c.no_news-news.result c.no_news-news.ensures.arena c.no_news-news.ensures.spans;
  none = c.no_news-news.ensures.arena;
  near = c.no_news-news.ensures.near;
}

pub new_ground-requires : goal.new_ground-requires
new_ground-requires c =
    named_below (plain_ground c.args.g) c.deref.result.now (ap length c.deref.ensures.value ∙ c.in_ok-images.ensures.many) c.requires.well_formed

pub returns-clause-keeps : goal.returns-clause-keeps
returns-clause-keeps c =
    keeps (plain_ground c.args.g) (plain_ground c.in_ok-new.new) c.in_ok-images.images.items
    (is_kept (plain_ground c.args.g) (plain_ground c.in_ok-new.new) c.in_ok-images.images.items
    (all_simplified (plain_ground c.args.g) (plain_ground c.in_ok-new.new) c.in_ok-images.images.items c.images_of.new.news c.in_ok-new.ensures.nodes c.in_ok-images.ensures.stand c.in_ok-images.ensures.many
    (subst (IsSimplified (plain_ground c.args.g) (plain_ground c.in_ok-new.new)) c.deref.ensures.value c.in_ok-new.ensures.simplified) c.requires.well_formed c.in_ok-images.ensures.news))

pub returns-clause-no_partial : goal.returns-clause-no_partial
returns-clause-no_partial c =
    none_partial (plain_ground c.args.g) (plain_ground c.in_ok-new.new) c.in_ok-images.images.items
    (is_kept (plain_ground c.args.g) (plain_ground c.in_ok-new.new) c.in_ok-images.images.items
    (all_simplified (plain_ground c.args.g) (plain_ground c.in_ok-new.new) c.in_ok-images.images.items c.images_of.new.news c.in_ok-new.ensures.nodes c.in_ok-images.ensures.stand c.in_ok-images.ensures.many
    (subst (IsSimplified (plain_ground c.args.g) (plain_ground c.in_ok-new.new)) c.deref.ensures.value c.in_ok-new.ensures.simplified) c.requires.well_formed c.in_ok-images.ensures.news))

pub returns-clause-well_formed : goal.returns-clause-well_formed
returns-clause-well_formed c =
    well_formed_after (plain_ground c.args.g) (plain_ground c.in_ok-new.new) c.in_ok-images.images.items
    (is_kept (plain_ground c.args.g) (plain_ground c.in_ok-new.new) c.in_ok-images.images.items
    (all_simplified (plain_ground c.args.g) (plain_ground c.in_ok-new.new) c.in_ok-images.images.items c.images_of.new.news c.in_ok-new.ensures.nodes c.in_ok-images.ensures.stand c.in_ok-images.ensures.many
    (subst (IsSimplified (plain_ground c.args.g) (plain_ground c.in_ok-new.new)) c.deref.ensures.value c.in_ok-new.ensures.simplified) c.requires.well_formed c.in_ok-images.ensures.news))

pub returns-clause-bounded : goal.returns-clause-bounded
returns-clause-bounded c =
    bounded_after (plain_ground c.args.g) (plain_ground c.in_ok-new.new) c.in_ok-images.images.items
    (all_simplified (plain_ground c.args.g) (plain_ground c.in_ok-new.new) c.in_ok-images.images.items c.images_of.new.news c.in_ok-new.ensures.nodes c.in_ok-images.ensures.stand c.in_ok-images.ensures.many
    (subst (IsSimplified (plain_ground c.args.g) (plain_ground c.in_ok-new.new)) c.deref.ensures.value c.in_ok-new.ensures.simplified) c.requires.well_formed c.in_ok-images.ensures.news)

pub returns-clause-nodes : goal.returns-clause-nodes
returns-clause-nodes c =
    few_nodes (plain_ground c.args.g) (plain_ground c.in_ok-new.new) c.in_ok-images.images.items
    (all_simplified (plain_ground c.args.g) (plain_ground c.in_ok-new.new) c.in_ok-images.images.items c.images_of.new.news c.in_ok-new.ensures.nodes c.in_ok-images.ensures.stand c.in_ok-images.ensures.many
    (subst (IsSimplified (plain_ground c.args.g) (plain_ground c.in_ok-new.new)) c.deref.ensures.value c.in_ok-new.ensures.simplified) c.requires.well_formed c.in_ok-images.ensures.news)

pub returns-clause-additions : goal.returns-clause-additions
returns-clause-additions c =
    fewer_additions (plain_ground c.args.g) (plain_ground c.in_ok-new.new) c.in_ok-images.images.items
    (all_simplified (plain_ground c.args.g) (plain_ground c.in_ok-new.new) c.in_ok-images.images.items c.images_of.new.news c.in_ok-new.ensures.nodes c.in_ok-images.ensures.stand c.in_ok-images.ensures.many
    (subst (IsSimplified (plain_ground c.args.g) (plain_ground c.in_ok-new.new)) c.deref.ensures.value c.in_ok-new.ensures.simplified) c.requires.well_formed c.in_ok-images.ensures.news)

pub returns-clause-undecided : goal.returns-clause-undecided
returns-clause-undecided c = all_undecided (plain_ground c.in_ok-new.new) c.args.g.cells.items c.images_of.new.news c.in_ok-new.ensures.nodes c.in_ok-images.ensures.news

pub returns-clause-untold : goal.returns-clause-untold
returns-clause-untold c near =
    none_told (plain_ground c.in_ok-new.new)
    (all_untold (plain_ground c.args.g) (plain_ground c.in_ok-new.new) c.images_of.new.news c.in_ok-images.images.items c.in_ok-new.ensures.nodes
    (subst (IsSimplified (plain_ground c.args.g) (plain_ground c.in_ok-new.new)) c.deref.ensures.value c.in_ok-new.ensures.simplified) c.in_ok-images.ensures.news (c.in_ok-images.ensures.near near))

pub returns-clause-folded : goal.returns-clause-folded
returns-clause-folded c near =
    all_folded (plain_ground c.in_ok-new.new) (subst PartsStandBefore (sym c.in_ok-new.ensures.nodes) c.in_ok-images.ensures.news.before)
    (all_untold (plain_ground c.args.g) (plain_ground c.in_ok-new.new) c.images_of.new.news c.in_ok-images.images.items c.in_ok-new.ensures.nodes
    (subst (IsSimplified (plain_ground c.args.g) (plain_ground c.in_ok-new.new)) c.deref.ensures.value c.in_ok-new.ensures.simplified) c.in_ok-images.ensures.news (c.in_ok-images.ensures.near near))
