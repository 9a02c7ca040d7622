use Rattle.ep_size.proofs.Words.{refl, farthest_end, absolute_of, is_too_far, truth_span}
use Rattle.ep_size.proofs.NodeSteps.{number_finished}
use Rattle.ep_size.proofs.nodes.truth_node.Goals as goal

pub returns : goal.returns
unfolding is_too_far farthest_end absolute_of
returns c mode env e w h node =
    number_finished mode env e w truth_span c.args.total.now c.weigh.new.total c.truth_span.result node c.truth_span.ensures refl (c.weigh.ensures w h)
