use Rattle.std.proofs.Common.{length}
use Rattle.enc_linear.specs.Bounds.{HasBounds}
use Rattle.enc_linear.specs.Folding.{GiveWay}
use Rattle.enc_linear.proofs.folding.fold.Given as goal

abbrev pub invariant-ends : goal.invariant-ends
invariant-ends l = record {
  bounds : HasBounds l.sum.bounds l.sum.terms.items;
  gives_way : GiveWay l.c l.initial.layout l.initial.f l.initial.sum.terms.items l.layout l.f l.sum.terms.items;
}

abbrev pub decreases-ends : goal.decreases-ends
decreases-ends l = length l.sum.terms.items
