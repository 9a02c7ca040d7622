use Rattle.std.proofs.Common.{ℕ, [], length, subst, sym}
use Rattle.ep_base.specs.declared.operators.CompareOp.{CompareOp}
use Rattle.ep_defined.specs.Growing.{IsNodeAt}
use Rattle.ep_defined.specs.Images.{IsDivisorTest}
use Rattle.ep_ground.specs.Nodes.{compare, parts_of}
use Rattle.ep_ground.specs.NodeViews.{plain_node}
use Rattle.ep_defined.proofs.Listing.{parts_below, second_below}
use Rattle.ep_defined.proofs.SafeKinds.{no_division_left}
use Rattle.ep_defined.proofs.steps.divisor_test.Goals as goal

pub total-requires : goal.total-requires
unfolding parts_of
total-requires c =
    second_below (length c.args.images.now) _ c.in-Div.divisor [] (parts_below (length c.args.images.now) c.args.node.now _ c.in-Div.is c.requires.parts)

pub total-requires-in-Mod : goal.total-requires-in-Mod
unfolding parts_of
total-requires-in-Mod c =
    second_below (length c.args.images.now) _ c.in-Mod.divisor [] (parts_below (length c.args.images.now) c.args.node.now _ c.in-Mod.is c.requires.parts)

pub returns-in_ok-own-in-Div-clause-is : goal.returns-in_ok-own-in-Div-clause-is
unfolding IsDivisorTest
returns-in_ok-own-in-Div-clause-is c =
    subst (λ n. IsDivisorTest c.unequal.new.arena c.args.nought c.args.images.now (plain_node n) c.in_ok-own-in-Div.own) (sym c.in-Div.is) (subst (λ (t : ℕ). IsNodeAt c.unequal.new.arena c.in_ok-own-in-Div.own (compare CompareOp.NotEqual t c.args.nought)) c.total.ensures c.in_ok-own-in-Div.ensures.is)

pub returns-in_ok-own-in-Mod-clause-is : goal.returns-in_ok-own-in-Mod-clause-is
unfolding IsDivisorTest
returns-in_ok-own-in-Mod-clause-is c =
    subst (λ n. IsDivisorTest c.unequal-in-Mod.new.arena c.args.nought c.args.images.now (plain_node n) c.in_ok-own-in-Mod.own) (sym c.in-Mod.is) (subst (λ (t : ℕ). IsNodeAt c.unequal-in-Mod.new.arena c.in_ok-own-in-Mod.own (compare CompareOp.NotEqual t c.args.nought)) c.total-in-Mod.ensures c.in_ok-own-in-Mod.ensures.is)

pub unreachable-requires : goal.unreachable-requires
unreachable-requires c = no_division_left c.args.node.now c.requires.kind c.in_default.not-Div c.in_default.not-Mod
