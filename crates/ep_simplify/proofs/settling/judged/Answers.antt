use Rattle.std.proofs.Common.{◌<◌, ℕ, length, subst}
use Rattle.std.specs.List.{All}
use Rattle.ep_defined.proofs.Listing.{left_below, right_below}
use Rattle.ep_defined.specs.Growing.{IsSafeOver}
use Rattle.ep_ground.specs.NodeViews.{plain_node}
use Rattle.ep_ground.specs.Nodes.{parts_of}
use Rattle.ep_ground.specs.declared.nodes.Node.{Node}
use Rattle.ep_simplify.proofs.Settled.{open_others, others_untold}
use Rattle.ep_simplify.proofs.Taking.{own_settles}
use Rattle.ep_simplify.specs.Settling.{ReachesMore}
use Rattle.ep_simplify.proofs.settling.judged.Goals as goal

pub comparison-requires-clause-parts : goal.comparison-requires-clause-parts
unfolding parts_of
comparison-requires-clause-parts c = subst (λ (n : Node). All (λ (t : ℕ). t < length c.args.news.now.arena) (parts_of (plain_node n))) c.in-Compare.is c.requires.parts

pub membership-requires-clause-parts : goal.membership-requires-clause-parts
unfolding parts_of
membership-requires-clause-parts c = subst (λ (n : Node). All (λ (t : ℕ). t < length c.args.news.now.arena) (parts_of (plain_node n))) c.in-Member.is c.requires.parts

pub negation_of-requires-clause-parts : goal.negation_of-requires-clause-parts
unfolding parts_of
negation_of-requires-clause-parts c = subst (λ (n : Node). All (λ (t : ℕ). t < length c.args.news.now.arena) (parts_of (plain_node n))) c.in-Not.is c.requires.parts

pub conjunction-requires-clause-parts : goal.conjunction-requires-clause-parts
unfolding parts_of
conjunction-requires-clause-parts c = subst (λ (n : Node). All (λ (t : ℕ). t < length c.args.news.now.arena) (parts_of (plain_node n))) c.in-And.is c.requires.parts

pub disjunction-requires-clause-parts : goal.disjunction-requires-clause-parts
unfolding parts_of
disjunction-requires-clause-parts c = subst (λ (n : Node). All (λ (t : ℕ). t < length c.args.news.now.arena) (parts_of (plain_node n))) c.in-Or.is c.requires.parts

pub equivalence-requires-clause-parts : goal.equivalence-requires-clause-parts
unfolding parts_of
equivalence-requires-clause-parts c = subst (λ (n : Node). All (λ (t : ℕ). t < length c.args.news.now.arena) (parts_of (plain_node n))) c.in-Iff.is c.requires.parts

pub least_part-requires : goal.least_part-requires
unfolding parts_of
least_part-requires c = record {
  news = c.requires.news;
  room = c.requires.room;
  parts = subst (λ (n : Node). All (λ (t : ℕ). t < length c.args.news.now.arena) (parts_of (plain_node n))) c.in-Min.is c.requires.parts;
  safe = subst (λ (n : Node). IsSafeOver (length c.args.cells.now) (plain_node n)) c.in-Min.is c.requires.safe;
  untold = subst (λ (n : Node). ReachesMore c.args.cells.now c.args.news.now (plain_node n)) c.in-Min.is c.requires.untold;
}

pub greatest_part-requires : goal.greatest_part-requires
unfolding parts_of
greatest_part-requires c = record {
  news = c.requires.news;
  room = c.requires.room;
  parts = subst (λ (n : Node). All (λ (t : ℕ). t < length c.args.news.now.arena) (parts_of (plain_node n))) c.in-Max.is c.requires.parts;
  safe = subst (λ (n : Node). IsSafeOver (length c.args.cells.now) (plain_node n)) c.in-Max.is c.requires.safe;
  untold = subst (λ (n : Node). ReachesMore c.args.cells.now c.args.news.now (plain_node n)) c.in-Max.is c.requires.untold;
}

pub pick-requires : goal.pick-requires
unfolding parts_of
pick-requires c =
    let n = length c.args.news.now.arena in
    let all = subst (λ (m : Node). All (λ (t : ℕ). t < n) (parts_of (plain_node m))) c.in-SafePick.is c.requires.parts in
    record {
      news = c.requires.news;
      room = c.requires.room;
      parts = left_below n c.in-SafePick.parts.items c.in-SafePick.indices.items all;
      indices = right_below n c.in-SafePick.parts.items c.in-SafePick.indices.items all;
      untold = subst (λ (m : Node). ReachesMore c.args.cells.now c.args.news.now (plain_node m)) c.in-SafePick.is c.requires.untold;
    }

pub take-requires : goal.take-requires
take-requires c = record {
  news = c.requires.news;
  room = c.requires.room;
  parts = c.requires.parts;
  safe = c.requires.safe;
  undecided = open_others c.args.news.now.arena c.args.node c.in_default.not-Min c.in_default.not-Max c.in_default.not-SafePick c.in_default.not-Compare c.in_default.not-Member c.in_default.not-Not c.in_default.not-And c.in_default.not-Or c.in_default.not-Iff;
  untold = λ were own. others_untold c.args.cells.now c.args.news.now.arena c.args.node c.in_default.not-Min c.in_default.not-Max c.in_default.not-SafePick c.in_default.not-Compare c.in_default.not-Member c.in_default.not-Not c.in_default.not-And c.in_default.not-Or c.in_default.not-Iff (c.requires.untold were own);
}

pub returns-in_ok-own-in_default : goal.returns-in_ok-own-in_default
returns-in_ok-own-in_default c = own_settles c.args.cells.now c.args.news.now c.take.new.news (plain_node c.args.node) c.in_ok-own-in_default.own c.requires.news c.requires.parts c.in_ok-own-in_default.ensures
