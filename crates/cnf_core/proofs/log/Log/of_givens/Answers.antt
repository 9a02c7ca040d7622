use Rattle.std.proofs.Common.{refl}
use Rattle.cnf_core.proofs.Events.{IsLog-givens}
use Rattle.cnf_core.proofs.log.Log.of_givens.Goals as goal

pub invariant_of-result : goal.invariant_of-result
invariant_of-result c = IsLog-givens (record { events = c.in_ok-of_givens.field-0; notes = c.new.result; base = 0; steps = 0 }) c.args.clauses c.in_ok-of_givens.ensures refl refl c.requires
