use Rattle.std.proofs.Common.{ℕ, ◌<◌, Option, length, sym, subst}
use Rattle.std.specs.Prelude.{IfSome}
use Rattle.sat_search.proofs.Trails.{reason_in_there}
use Rattle.sat_search.proofs.minimal.reason_of.Goals as goal

pub returns : goal.returns
returns c =
    subst (λ (o : Option ℕ). IfSome o (λ (n : ℕ). n < length c.args.state.now.clauses)) (sym c.reason_in.ensures)
    (reason_in_there c.args.state.now.clauses c.args.state.now.trail c.args.var c.trail-trail.ensures.grounded)
