use Rattle.std.proofs.Common.{◌≤◌, length}
use Rattle.enc_linear.specs.Bounds.{HasBounds}
use Rattle.enc_linear.specs.Folding.{GiveWay}
use Rattle.enc_linear.proofs.folding.group_round.Given as goal

abbrev pub invariant-loop-turn : goal.invariant-loop-turn
invariant-loop-turn l = record {
  length : length l.sum.terms.items ≤ length l.initial.sum.terms.items;
  bounds : HasBounds l.sum.bounds l.sum.terms.items;
  gives_way : GiveWay l.c l.initial.layout l.initial.f l.initial.sum.terms.items l.layout l.f l.sum.terms.items;
}
