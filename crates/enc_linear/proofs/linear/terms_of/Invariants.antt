use Rattle.std.proofs.Common.{take}
use Rattle.std.specs.List.{All}
use Rattle.cnf_core.specs.Formula.{Cnf}
use Rattle.enc_linear.specs.Terms.{IsTermOf}
use Rattle.enc_linear.proofs.Totals.{Sums}
use Rattle.enc_linear.proofs.linear.terms_of.Given as goal

abbrev pub invariant-loop-part : goal.invariant-loop-part
invariant-loop-part l = record {
  of_layout : (f : Cnf) → All (IsTermOf l.layout f) l.terms.items;
  sum : Sums l.layout l.terms.items (take l.part-index l.parts);
}
