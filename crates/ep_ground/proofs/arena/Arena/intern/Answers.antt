use Rattle.std.proofs.Common.{◌≡◌, ℕ, ◌<◌, ◌≤◌, List, length, Some, sym, ap, subst, ◌∙◌, arith, slice_get}
use Rattle.std.specs.List.{All, position_or_len}
use Rattle.indexmap.specs.IndexSet.{insert_key}
use Rattle.ep_ground.specs.ArenaSteps.{Interned}
use Rattle.ep_ground.specs.NodeViews.{plain_node, plain_nodes}
use Rattle.ep_ground.specs.Nodes.{GroundNode, parts_of}
use Rattle.ep_ground.specs.Terms.{IsArena}
use Rattle.ep_ground.specs.declared.nodes.Node.{Node}
use Rattle.ep_ground.proofs.SameNodes.{same_node}
use Rattle.ep_ground.proofs.Taking.{longer_by_one, taken}
use Rattle.ep_ground.proofs.arena.Arena.intern.Goals as goal

pub invariant_of-self-2 : goal.invariant_of-self-2
invariant_of-self-2 c =
    let nodes = c.self.inside.nodes.keys in
    let node = c.args.node in
    let keys : c.insert_full.new.self.keys ≡ insert_key same_node nodes node = c.in_ok-place.ensures.keys in
    let parts = subst (λ (ns : List GroundNode). All (λ part. part < length ns) (parts_of (plain_node node))) (sym c.self.view_is) c.requires in
    record {
      is_arena = subst (λ (ks : List Node). IsArena (plain_nodes ks)) (sym keys) (taken nodes node c.self.invariant.is_arena parts).arena;
      room = subst (λ (ks : List Node). length ks ≤ 4294967295) (sym keys) (omega (arith, longer_by_one nodes node, c.if-len-ge-MOST_TERMS.false, c.len.ensures.len));
    }

pub returns-clause-term : goal.returns-clause-term
returns-clause-term c =
    let nodes = c.self.inside.nodes.keys in
    let node = c.args.node in
    let keys : c.insert_full.new.self.keys ≡ insert_key same_node nodes node = c.in_ok-place.ensures.keys in
    let place : c.in_ok-place.place ≡ position_or_len (same_node node) nodes = c.in_ok-place.ensures.index in
    let parts = subst (λ (ns : List GroundNode). All (λ part. part < length ns) (parts_of (plain_node node))) (sym c.self.view_is) c.requires in
    subst (λ (ks : List Node). slice_get (plain_nodes ks) c.new.result ≡ Some (plain_node node)) (sym keys)
    (ap (λ (k : ℕ). slice_get (plain_nodes (insert_key same_node nodes node)) k) (c.new.ensures ∙ place) ∙ (taken nodes node c.self.invariant.is_arena parts).term)

pub returns-clause-arena : goal.returns-clause-arena
returns-clause-arena c =
    let nodes = c.self.inside.nodes.keys in
    let node = c.args.node in
    let keys : c.insert_full.new.self.keys ≡ insert_key same_node nodes node = c.in_ok-place.ensures.keys in
    let parts = subst (λ (ns : List GroundNode). All (λ part. part < length ns) (parts_of (plain_node node))) (sym c.self.view_is) c.requires in
    subst (λ (ks : List Node). Interned c.args.self.now (plain_node node) (plain_nodes ks)) (sym keys)
    (subst (λ (ns : List GroundNode). Interned ns (plain_node node) (plain_nodes (insert_key same_node nodes node))) c.self.view_is
    (taken nodes node c.self.invariant.is_arena parts).interned)
