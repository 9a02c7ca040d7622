use Rattle.std.proofs.Common.{◌≡◌, ℤ, List, ◌==◌, length, map, subst, sym, rules, take}
use Rattle.std.specs.Prelude.{filter}
use Rattle.ep_defined.specs.Growing.{IsNodeAt}
use Rattle.ep_defined.specs.Images.{IsKeyTest, total_at}
use Rattle.ep_ground.specs.Nodes.{GroundNode, parts_of, table}
use Rattle.ep_ground.specs.NodeViews.{plain_node}
use Rattle.ep_defined.proofs.Listing.{parts_below, read_below, right_below}
use Rattle.ep_defined.proofs.SafeKinds.{no_pick_left}
use Rattle.ep_defined.proofs.steps.key_test.Goals as goal

pub table_of-requires-clause-indices : goal.table_of-requires-clause-indices
unfolding parts_of
table_of-requires-clause-indices c =
    read_below (length c.args.images.now) c.in-Pick.indices.items _ c.deref-in-Pick.ensures.value (right_below (length c.args.images.now) c.in-Pick.parts.items c.in-Pick.indices.items (parts_below (length c.args.images.now) c.args.node.now _ c.in-Pick.is c.requires.parts))

pub returns-clause-is : goal.returns-clause-is
unfolding IsKeyTest
returns-clause-is c =
    let count : c.len.result ≡ length c.in-Pick.parts.items = search rules in
    subst (λ n. IsKeyTest c.table_of.new.arena c.args.images.now (plain_node n) c.in_ok-own-in-Pick.own) (sym c.in-Pick.is) (subst (λ (n : GroundNode). IsNodeAt c.table_of.new.arena c.in_ok-own-in-Pick.own n) (λ i. table (map (total_at c.args.images.now) (c.deref-in-Pick.ensures.value i)) (filter (λ (key : List ℤ). length key == length (c.deref-in-Pick.ensures.value i)) (take (count i) (c.deref.ensures.value i)))) c.in_ok-own-in-Pick.ensures.is)

pub unreachable-requires : goal.unreachable-requires
unreachable-requires c = no_pick_left c.args.node.now c.requires.kind c.in_default.not-Pick
