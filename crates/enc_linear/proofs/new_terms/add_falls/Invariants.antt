use Rattle.std.proofs.Common.{◌≤◌}
use Rattle.ep_flat.specs.Cons.{numbers_of_vars}
use Rattle.enc_atoms.specs.Atoms.{Adds}
use Rattle.enc_linear.proofs.NewTerms.{FallsFor}
use Rattle.enc_linear.proofs.new_terms.add_falls.Given as goal

abbrev pub invariant-loop-place : goal.invariant-loop-place
invariant-loop-place l = record {
  first : 1 ≤ l.place;
  falls : Adds l.layout l.initial.f l.layout l.f (λ values. FallsFor l.place (numbers_of_vars values l.rungs));
}
