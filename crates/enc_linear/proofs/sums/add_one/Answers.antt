use Rattle.std.proofs.Common.{IsTrue, length, ◌≤ℤ◌, arith}
use Rattle.std.proofs.lemmas.Int.{ints}
use Rattle.enc_atoms.specs.Atoms.{atom_holds, clause_holds}
use Rattle.enc_linear.specs.Guards.{Unless}
use Rattle.enc_linear.specs.Terms.{worth_of}
use Rattle.enc_linear.proofs.Ladders.{never, says_found}
use Rattle.enc_linear.proofs.Spreading.{guarded_term, only_guards}
use Rattle.enc_linear.proofs.Turns.{relabelled}
use Rattle.enc_linear.proofs.sums.add_one.Goals as goal

pub add_guarded-requires-clause-atom : goal.add_guarded-requires-clause-atom
add_guarded-requires-clause-atom c =
    let says = says_found c.args.term.now c.args.most _ c.in_ok-up_to.field-0 c.in-Some.atom c.in-Some.is c.in_ok-up_to.ensures (omega (arith, ints)) in
    says.names (length c.args.layout.now) c.requires.term.names

pub returns-in-None : goal.returns-in-None
returns-in-None c =
    relabelled c.add_clause.result c.args.layout.now c.args.f.now c.args.layout.now c.add_clause.new.f
    (λ values. IsTrue (clause_holds values c.args.guards.now)) (Unless c.args.guards.now (λ values. worth_of values c.args.term.now ≤ℤ c.args.most)) c.requires.is_layout
    (λ values among. only_guards c.args.layout.now c.args.f.now c.args.term.now c.args.guards.now c.args.most values c.requires.term (never c.args.term.now c.args.most _ c.in_ok-up_to.field-0 c.in-None.is c.in_ok-up_to.ensures (omega (arith, ints))) among)
    c.add_clause.ensures

pub returns-in-Some : goal.returns-in-Some
returns-in-Some c =
    relabelled c.add_guarded.result c.args.layout.now c.args.f.now c.args.layout.now c.add_guarded.new.f
    (Unless c.args.guards.now (λ values. IsTrue (atom_holds values c.in-Some.atom))) (Unless c.args.guards.now (λ values. worth_of values c.args.term.now ≤ℤ c.args.most)) c.requires.is_layout
    (λ values among. guarded_term c.args.layout.now c.args.f.now c.args.term.now c.args.guards.now c.in-Some.atom c.args.most values c.requires.term
    (says_found c.args.term.now c.args.most _ c.in_ok-up_to.field-0 c.in-Some.atom c.in-Some.is c.in_ok-up_to.ensures (omega (arith, ints))) among)
    c.add_guarded.ensures
