use Rattle.ep_unroll.proofs.Words.{length}
use Rattle.ep_ground.specs.Nodes.{parts_of}
use Rattle.ep_unroll.proofs.FormSteps.{two_known}
use Rattle.ep_unroll.proofs.FormValues.{if_ok}
use Rattle.ep_unroll.proofs.forms.comparison.Goals as goal

pub judged-requires : goal.judged-requires
unfolding parts_of
judged-requires c = record {
  node = two_known c.args.one c.args.other (length c.args.arena.now) c.requires.one c.requires.other;
  others = c.in_ok-needed.ensures.known;
}

pub returns : goal.returns
returns c = if_ok c.judged.result _ _ (λ t j. record { others = c.in_ok-needed.needed.items; needed = c.in_ok-needed.ensures; judged = j }) c.judged.ensures
