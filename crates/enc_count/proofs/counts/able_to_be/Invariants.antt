use Rattle.std.proofs.Common.{◌≡◌, ℤ, List, take}
use Rattle.ep_base.specs.Numbers.{times_in}
use Rattle.ep_flat.specs.Cons.{numbers_of_vars}
use Rattle.enc_atoms.specs.Atoms.{AreOfDomains}
use Rattle.enc_atoms.specs.Steps.{AreOf}
use Rattle.enc_count.proofs.counts.able_to_be.Given as goal

abbrev pub invariant-loop-var : goal.invariant-loop-var
invariant-loop-var l = record {
  within : AreOf l.layout l.able.items;
  times : (values : List ℤ) → AreOfDomains l.layout values → times_in (numbers_of_vars values l.able.items) l.number ≡ times_in (numbers_of_vars values (take l.var-index l.vars)) l.number;
}
