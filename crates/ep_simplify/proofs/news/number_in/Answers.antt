use Rattle.std.proofs.Common.{Option, ap, sym, ◌∙◌}
use Rattle.std.specs.Prelude.{option_and_then}
use Rattle.ep_ground.specs.Nodes.{GroundNode}
use Rattle.ep_simplify.specs.Decided.{constant_of, lone_number}
use Rattle.ep_simplify.proofs.news.number_in.Goals as goal

pub returns : goal.returns
unfolding lone_number
returns c = c.constant_in.ensures ∙ ap (λ (o : Option GroundNode). option_and_then constant_of o) (sym c.node.ensures.node)
