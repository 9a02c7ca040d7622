use Rattle.std.proofs.Common.{◌≡◌, ℕ, List, true, false, Some, sym, ap, subst, ◌∙◌, slice_get}
use Rattle.std.specs.Prelude.{is_some, position}
use Rattle.std.specs.List.{Contains, list_any}
use Rattle.ep_ground.specs.NodeViews.{plain_node, plain_nodes}
use Rattle.ep_ground.specs.Nodes.{GroundNode}
use Rattle.ep_ground.proofs.SameNodes.{same_node}
use Rattle.ep_ground.proofs.Taking.{known_at, not_there}
use Rattle.ep_ground.proofs.arena.Arena.known.Goals as goal

pub returns-in-Some-clause-term : goal.returns-in-Some-clause-term
returns-in-Some-clause-term c =
    let nodes = c.self.inside.nodes.keys in
    let node = c.args.node.now in
    let index : position (same_node node) nodes ≡ Some c.in-Some.place = sym c.get_index_of.ensures.index ∙ c.in-Some.is in
    let there : list_any (same_node node) nodes ≡ true = sym c.get_index_of.ensures.found ∙ ap is_some c.in-Some.is in
    subst (λ (ns : List GroundNode). slice_get ns c.new.result ≡ Some (plain_node node)) c.self.view_is
    (ap (λ (k : ℕ). slice_get (plain_nodes nodes) k) c.new.ensures ∙ known_at nodes node c.in-Some.place there index)

pub returns-in-None-clause-full : goal.returns-in-None-clause-full
returns-in-None-clause-full c = λ found.
    let nodes = c.self.inside.nodes.keys in
    let node = c.args.node.now in
    let none : list_any (same_node node) nodes ≡ false = sym c.get_index_of.ensures.found ∙ ap is_some c.in-None.is in
    not_there nodes node none (subst (λ (ns : List GroundNode). Contains ns (plain_node node)) (sym c.self.view_is) found)
