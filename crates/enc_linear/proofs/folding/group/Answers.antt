use Rattle.enc_linear.proofs.Folds.{gives_then}
use Rattle.enc_linear.proofs.folding.group.Goals as goal

pub rounds-preserved : goal.rounds-preserved
rounds-preserved c = record {
  bounds = c.in_ok-group_round.ensures.bounds;
  gives_way = gives_then c.args.c c.args.layout.now c.args.f.now c.args.sum.now.terms.items c.rounds.layout c.rounds.f c.rounds.sum.terms.items c.group_round.new.layout c.group_round.new.f c.group_round.new.sum.terms.items
      c.rounds.invariant.gives_way c.in_ok-group_round.ensures.gives_way;
}
