use Rattle.std.proofs.Common.{arith}
use Rattle.enc_atoms.proofs.Gathering.{consistent_from_neighbours}
use Rattle.enc_atoms.proofs.clauses.has_contraries.Goals as goal

pub returns-clause-none : goal.returns-clause-none
returns-clause-none c none = consistent_from_neighbours c.args.literals.now c.requires (λ j d within. c.loop-k.invariant.1 j d (omega (arith, within, c.loop-k-test.false)))
