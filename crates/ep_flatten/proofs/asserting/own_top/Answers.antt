use Rattle.std.proofs.Common.{subst, sym, ◌∙◌}
use Rattle.ep_flat.specs.Cons.{FlatCon}
use Rattle.ep_flat.specs.FlatViews.{plain_kind}
use Rattle.ep_ground.specs.NodeViews.{plain_node}
use Rattle.ep_flatten.specs.Tops.{Asserts}
use Rattle.ep_flatten.proofs.Adding.{if_ok_then}
use Rattle.ep_flatten.specs.Forms.{own}
use Rattle.ep_flatten.proofs.Truths.{test_truth, asserts_place, asserts_truth, needs_itself}
use Rattle.ep_flatten.proofs.asserting.own_top.Goals as goal

pub returns-then-is_test : goal.returns-then-is_test
returns-then-is_test c =
    asserts_truth c.args.places.now c.args.term (plain_node c.args.node.now) (plain_kind c.in_ok-kind.kind) c.in_ok-kind.ensures c.requires (sym c.is_test.ensures ∙ c.if-is_test.true)

pub returns : goal.returns
returns c =
    if_ok_then c.truth_of.result c.truth_of.ensures (λ con e.
    subst (λ (x : FlatCon). Asserts c.args.places.now c.args.term (plain_node c.args.node.now) own x) (sym e)
    (asserts_place c.args.places.now c.args.term (plain_node c.args.node.now) own (needs_itself c.args.term (plain_node c.args.node.now) c.requires (sym c.is_test.ensures ∙ c.if-is_test.false))))

pub truth_kind-requires : goal.truth_kind-requires
truth_kind-requires c = test_truth (plain_node c.args.node.now) (sym c.is_test.ensures ∙ c.if-is_test.true)
