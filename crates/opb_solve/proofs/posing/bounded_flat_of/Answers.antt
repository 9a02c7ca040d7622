use Rattle.ep_flat.specs.FlatViews.{plain_flat}
use Rattle.opb_solve.proofs.Bounded.{still_stands}
use Rattle.opb_solve.proofs.posing.bounded_flat_of.Goals as goal
use Rattle.opb_text.specs.Views.{plain_opb}

pub bound-requires : goal.bound-requires
bound-requires c = c.in_ok-plain.ensures.sound

pub returns : goal.returns
returns c =
    still_stands (plain_opb c.args.opb.now) (plain_flat c.in_ok-plain.plain) (plain_flat c.bound.new.flat) c.in_ok-plain.goal c.in_ok-bound.ensures.same c.in_ok-bound.ensures.sound c.in_ok-plain.ensures
