use Rattle.enc_linear.specs.Bounds.{HasBounds}
use Rattle.enc_linear.specs.Folding.{GiveWay}
use Rattle.enc_linear.proofs.folding.group.Given as goal

abbrev pub invariant-rounds : goal.invariant-rounds
invariant-rounds l = record {
  bounds : HasBounds l.sum.bounds l.sum.terms.items;
  gives_way : GiveWay l.c l.initial.layout l.initial.f l.initial.sum.terms.items l.layout l.f l.sum.terms.items;
}

abbrev pub decreases-rounds : goal.decreases-rounds
decreases-rounds l = l.before
