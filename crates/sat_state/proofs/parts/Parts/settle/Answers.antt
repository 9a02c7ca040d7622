use Rattle.std.proofs.Common.{◌≡◌, List, [], Some, Contains, refl, sym, ap, ◌∙◌, subst, inl, inr}
use Rattle.std.specs.Prelude.{All}
use Rattle.cnf_core.specs.Literal.{Literal, IsVariable}
use Rattle.cnf_core.specs.Steps.{HasTwoNotFalse}
use Rattle.sat_state.specs.Trail.{Entry, literals, next_level, Gives}
use Rattle.sat_state.specs.Stored.{Stored, clause_at}
use Rattle.sat_state.proofs.Literals.{Contains-from_among}
use Rattle.sat_state.proofs.Going.{stands_still, room_still, no_fewer, joined_same, goes_same, none_open, two_open, pushed_true, gives_by}
use Rattle.sat_state.proofs.parts.Parts.settle.Goals as goal

pub returns-in_default-clause-falsified : goal.returns-in_default-clause-falsified
returns-in_default-clause-falsified c = λ e. record {
  there = c.requires.there;
  falsified = none_open (literals c.args.self.now.assigned.trail) (clause_at c.args.self.now.clauses.lists c.args.number) c.lits-lits.result.now c.lits-lits.ensures (subst (λ (ls : List Literal). All (λ l. IsVariable l.var) ls) (sym c.lits-lits.ensures) (c.requires.joined.clauses c.args.number [] c.requires.there).variables) (c.in_default.ensures.none refl);
}

pub returns-then-is_true-clause-settled : goal.returns-then-is_true-clause-settled
returns-then-is_true-clause-settled c = λ e.
    let trues = literals c.args.self.now.assigned.trail in
    let in_clause = subst (λ (ls : List Literal). Contains ls c.in-Some.one) c.lits-lits.ensures c.in-Some.ensures.in_clause in
    inl (c.in-Some.one, in_clause, Contains-from_among trues c.in-Some.one (sym c.is_true.ensures ∙ c.if-is_true.true))

pub returns-then-is_some-clause-goes : goal.returns-then-is_some-clause-goes
returns-then-is_some-clause-goes c = goes_same c.args.self.now _ c.requires.joined c.other_open.ensures.clauses refl refl (no_fewer _ _ refl) (stands_still _ _ _ _ refl) (room_still _ _ refl) refl refl

pub returns-then-is_some-clause-settled : goal.returns-then-is_some-clause-settled
returns-then-is_some-clause-settled c = λ e.
    let trues = literals c.args.self.now.assigned.trail in
    let clause = clause_at c.args.self.now.clauses.lists c.args.number in
    let in_clause = subst (λ (ls : List Literal). Contains ls c.in-Some.one) c.lits-lits.ensures c.in-Some.ensures.in_clause in
    inr (subst (λ (cs : List (List Literal)). HasTwoNotFalse trues (clause_at cs c.args.number)) (sym c.other_open.ensures.clauses)
    (two_open c.other_open.result trues clause c.in-Some.one (sym c.is_some.ensures ∙ c.if-is_some.true) c.other_open.ensures.in_clause c.other_open.ensures.other c.other_open.ensures.open in_clause c.in-Some.ensures.open))

pub force-requires-clause-joined : goal.force-requires-clause-joined
force-requires-clause-joined c = joined_same c.args.self.now _ c.requires.joined c.other_open.ensures.clauses refl refl (no_fewer _ _ refl) (stands_still _ _ _ _ refl) (room_still _ _ refl) refl refl

pub force-requires-clause-gives : goal.force-requires-clause-gives
force-requires-clause-gives c =
    let trues = literals c.args.self.now.assigned.trail in
    let clause = clause_at c.args.self.now.clauses.lists c.args.number in
    let in_clause = subst (λ (ls : List Literal). Contains ls c.in-Some.one) c.lits-lits.ensures c.in-Some.ensures.in_clause in
    subst (λ (cs : List (List Literal)). Gives trues (clause_at cs c.args.number) c.in-Some.one) (sym c.other_open.ensures.clauses)
    (gives_by trues clause c.in-Some.one in_clause (c.other_open.ensures.none (sym c.is_some.ensures ∙ c.if-is_some.false)))

pub returns-clause-settled : goal.returns-clause-settled
returns-clause-settled c = λ e.
    let trail = c.args.self.now.assigned.trail in
    let one = c.in-Some.one in
    let x : Entry = record { literal = one; level = next_level trail (Some c.args.number); reason = Some c.args.number } in
    let in_clause = subst (λ (ls : List Literal). Contains ls one) c.lits-lits.ensures c.in-Some.ensures.in_clause in
    let same : c.force.new.self.clauses.lists ≡ c.args.self.now.clauses.lists = ap (λ (s : Stored). s.lists) c.force.ensures.clauses ∙ c.other_open.ensures.clauses in
    inl (
      one,
      subst (λ (cs : List (List Literal)). Contains (clause_at cs c.args.number) one) (sym same) in_clause,
      subst (λ (es : List Entry). Contains (literals es) one) (sym c.force.ensures.trail) (pushed_true trail x),
    )

pub returns-clause-goes : goal.returns-clause-goes
returns-clause-goes c =
    Rattle.sat_state.proofs.Going.goes_again c.args.self.now _ _ (goes_same c.args.self.now _ c.requires.joined c.other_open.ensures.clauses refl refl (no_fewer _ _ refl) (stands_still _ _ _ _ refl) (room_still _ _ refl) refl refl) c.force.ensures.goes
