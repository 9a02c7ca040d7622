use Rattle.std.proofs.Common.{◌∷◌, [], IsTrue}
use Rattle.enc_linear.proofs.Saying.{told_truth}
use Rattle.enc_linear.proofs.Turns.{relabelled}
use Rattle.enc_linear.specs.Guards.{IsTruthValue}
use Rattle.enc_atoms.specs.Atoms.{clause_holds}
use Rattle.enc_linear.proofs.guards.add_truth.Goals as goal

pub returns : goal.returns
returns c =
    relabelled c.add_clause.result c.args.layout.now c.args.f.now c.args.layout.now c.add_clause.new.f
    (λ values. IsTrue (clause_holds values (c.is.result ∷ c.is-2.result ∷ []))) (IsTruthValue c.args.truth) c.requires.is_layout
    (λ values among. told_truth values c.args.truth c.is.result c.is-2.result c.is.ensures c.is-2.ensures) c.add_clause.ensures
