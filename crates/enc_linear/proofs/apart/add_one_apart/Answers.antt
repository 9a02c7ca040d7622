use Rattle.std.proofs.Common.{◌≡◌, ◌≢◌, ◌<◌, IsTrue, length, subst, sym, rules, to_z, of_z, w64, arith}
use Rattle.std.specs.List.{All}
use Rattle.std.proofs.lemmas.Int.{ints, to_z-of_z}
use Rattle.enc_atoms.specs.Atoms.{clause_holds}
use Rattle.enc_atoms.specs.declared.atoms.Atom.{Atom}
use Rattle.enc_linear.specs.Guards.{Unless}
use Rattle.enc_linear.specs.Sources.{AreGuardsOrOther}
use Rattle.enc_linear.specs.Terms.{worth_of}
use Rattle.enc_linear.proofs.Ladders.{none_there}
use Rattle.enc_linear.proofs.Parting.{never_there, other_there}
use Rattle.enc_linear.proofs.Turns.{relabelled}
use Rattle.enc_linear.proofs.apart.add_one_apart.Goals as goal

pub returns-in_default : goal.returns-in_default
returns-in_default c =
    never_there c.args.layout.now c.args.f.now c.args.guards.now c.args.term.now _ c.args.number c.requires.is_layout c.requires.from_new c.requires.term
    (none_there _ _ c.step_worth.result c.in_default.is c.step_worth.ensures) (omega (arith, ints))

pub add_clause-requires-clause-names : goal.add_clause-requires-clause-names
add_clause-requires-clause-names c =
    subst (All (λ (a : Atom). a.var < length c.args.layout.now)) (sym c.deref.ensures.value) (c.in_ok-atoms.ensures.names (length c.args.layout.now) c.requires.term.names c.requires.guards)

pub returns : goal.returns
returns c =
    let v : to_z w64 (of_z w64 c.in-Some.step.value) ≡ c.in-Some.step.value = to_z-of_z w64 c.in-Some.step.value (search rules) in
    relabelled c.add_clause.result c.args.layout.now c.args.f.now c.args.layout.now c.add_clause.new.f
    (λ values. IsTrue (clause_holds values c.deref.result.now)) (Unless c.args.guards.now (λ values. worth_of values c.args.term.now ≢ c.args.number)) c.requires.is_layout
    (λ values arise. other_there c.args.layout.now c.args.f.now c.args.guards.now c.deref.result.now c.args.term.now c.in-Some.step _ c.args.number values c.requires.term c.in-Some.ensures.0
    (subst (AreGuardsOrOther c.args.term.now.source _ c.args.guards.now) (sym c.deref.ensures.value) c.in_ok-atoms.ensures) v (omega (arith, ints, c.in-Some.ensures.1)) arise)
    c.add_clause.ensures
