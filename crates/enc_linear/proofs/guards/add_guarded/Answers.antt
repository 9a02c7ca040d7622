use Rattle.std.proofs.Common.{IsTrue, length, ◌∙◌}
use Rattle.enc_atoms.specs.Atoms.{atom_holds, clause_holds}
use Rattle.enc_linear.proofs.Saying.{names_more, with_these}
use Rattle.enc_linear.proofs.Turns.{relabelled}
use Rattle.enc_linear.specs.Guards.{Unless}
use Rattle.enc_linear.proofs.guards.add_guarded.Goals as goal

pub add_clause-requires-clause-names : goal.add_clause-requires-clause-names
add_clause-requires-clause-names c =
    names_more (length c.args.layout.now) c.args.guards.now c.deref.result.now c.args.atom c.requires.guards c.requires.atom (c.deref.ensures.value ∙ c.in_ok-atoms.ensures)

pub returns : goal.returns
returns c =
    relabelled c.add_clause.result c.args.layout.now c.args.f.now c.args.layout.now c.add_clause.new.f
    (λ values. IsTrue (clause_holds values c.deref.result.now)) (Unless c.args.guards.now (λ values. IsTrue (atom_holds values c.args.atom))) c.requires.is_layout
    (λ values among. with_these values c.args.guards.now c.deref.result.now c.args.atom (c.deref.ensures.value ∙ c.in_ok-atoms.ensures)) c.add_clause.ensures
