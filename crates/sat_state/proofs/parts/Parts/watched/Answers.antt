use Rattle.std.proofs.Common.{Contains, length, is_some, sym, ap, subst, arith}
use Rattle.cnf_core.specs.Literal.{Literal}
use Rattle.sat_state.specs.Trail.{literals}
use Rattle.sat_state.specs.Stored.{clause_at}
use Rattle.sat_state.specs.Guards.{Guards}
use Rattle.sat_state.proofs.Going.{joined_consistent, pair_there, first_pair, second_pair, second_var, first_guard, second_guard, guarded_open}
use Rattle.sat_state.proofs.parts.Parts.watched.Goals as goal

pub is_linked-requires : goal.is_linked-requires
is_linked-requires c = omega (arith, c.requires.there, c.requires.joined.watched.entries)

pub pair_of-requires-clause-long : goal.pair_of-requires-clause-long
pair_of-requires-clause-long c = omega (arith, c.if-lits-lt2.false, ap length c.lits-lits.ensures)

pub of_clause-pair-requires-clause-there : goal.of_clause-pair-requires-clause-there
of_clause-pair-requires-clause-there c =
    let some = c.is_linked.ensures.some c.if-not-is_linked.false in
    pair_there c.args.self.now c.requires.joined c.args.number c.requires.there some

pub of_clause-pair-requires-clause-one : goal.of_clause-pair-requires-clause-one
of_clause-pair-requires-clause-one c =
    let some = c.is_linked.ensures.some c.if-not-is_linked.false in
    some

pub of_clause-pair-requires-clause-other : goal.of_clause-pair-requires-clause-other
of_clause-pair-requires-clause-other c =
    let some = c.is_linked.ensures.some c.if-not-is_linked.false in
    second_var c.args.self.now c.requires.joined c.args.number c.requires.there some

-- the first one is false

pub returns-in-Some-clause-two : goal.returns-in-Some-clause-two
returns-in-Some-clause-two c =
    let p = c.args.self.now in
    let some = c.is_linked.ensures.some c.if-not-is_linked.false in
    let a = first_pair p c.requires.joined c.args.number c.requires.there some in
    let one = c.of_clause-pair.result.0 in
    let one_in = subst (λ (l : Literal). Contains (clause_at p.clauses.lists c.args.number) l) (sym c.of_clause-pair.ensures.one) a.in_clause in
    record {
      one_in = one_in;
      other_in = c.in-Some.ensures.in_clause;
      two = λ same. joined_consistent p c.requires.joined one (subst (λ (l : Literal). Contains (literals p.assigned.trail) l) (sym same) c.in-Some.ensures.is_true) c.in-Some.ensures.falsified;
    }

pub returns-in-Some-clause-one : goal.returns-in-Some-clause-one
returns-in-Some-clause-one c = λ seen. c.in-Some.ensures.guards

pub returns-in-Some-clause-other : goal.returns-in-Some-clause-other
returns-in-Some-clause-other c = λ seen.
    let p = c.args.self.now in
    guarded_open p.assigned.trail c.in-Some.first c.of_clause-pair.result.0 (λ falsified. joined_consistent p c.requires.joined c.in-Some.first c.in-Some.ensures.is_true falsified)

-- the second one is false

pub returns-in-Some-guard-clause-two : goal.returns-in-Some-guard-clause-two
returns-in-Some-guard-clause-two c =
    let p = c.args.self.now in
    let some = c.is_linked.ensures.some c.if-not-is_linked.false in
    let b = second_pair p c.requires.joined c.args.number c.requires.there some in
    let other = c.of_clause-pair.result.1 in
    let other_in = subst (λ (l : Literal). Contains (clause_at p.clauses.lists c.args.number) l) (sym c.of_clause-pair.ensures.other) b.in_clause in
    record {
      one_in = c.in-Some-guard.ensures.in_clause;
      other_in = other_in;
      two = λ same. joined_consistent p c.requires.joined other (subst (λ (l : Literal). Contains (literals p.assigned.trail) l) same c.in-Some-guard.ensures.is_true) c.in-Some-guard.ensures.falsified;
    }

pub returns-in-Some-guard-clause-one : goal.returns-in-Some-guard-clause-one
returns-in-Some-guard-clause-one c = λ seen.
    let p = c.args.self.now in
    guarded_open p.assigned.trail c.in-Some-guard.second c.of_clause-pair.result.1 (λ falsified. joined_consistent p c.requires.joined c.in-Some-guard.second c.in-Some-guard.ensures.is_true falsified)

pub returns-in-Some-guard-clause-other : goal.returns-in-Some-guard-clause-other
returns-in-Some-guard-clause-other c = λ seen. c.in-Some-guard.ensures.guards

-- neither is false, where all was looked at

pub returns-clause-two : goal.returns-clause-two
returns-clause-two c =
    let some = c.is_linked.ensures.some c.if-not-is_linked.false in
    let a = first_pair c.args.self.now c.requires.joined c.args.number c.requires.there some in
    let b = second_pair c.args.self.now c.requires.joined c.args.number c.requires.there some in
    rw (c.of_clause-pair.ensures.one, c.of_clause-pair.ensures.other) (record { one_in = a.in_clause; other_in = b.in_clause; two = a.two })

pub returns-clause-one : goal.returns-clause-one
returns-clause-one c = λ seen.
    let p = c.args.self.now in
    let some = c.is_linked.ensures.some c.if-not-is_linked.false in
    let guards = subst (λ (l : Literal). Guards p.assigned.trail (length p.assigned.trail) l (clause_at p.clauses.lists c.args.number)) (sym c.of_clause-pair.ensures.one) (first_guard p c.requires.joined c.args.number c.requires.there some seen) in
    guarded_open p.assigned.trail c.of_clause-pair.result.0 c.of_clause-pair.result.1 (c.guard.ensures.none (ap is_some c.in_default.is) guards)

pub returns-clause-other : goal.returns-clause-other
returns-clause-other c = λ seen.
    let p = c.args.self.now in
    let some = c.is_linked.ensures.some c.if-not-is_linked.false in
    let guards = subst (λ (l : Literal). Guards p.assigned.trail (length p.assigned.trail) l (clause_at p.clauses.lists c.args.number)) (sym c.of_clause-pair.ensures.other) (second_guard p c.requires.joined c.args.number c.requires.there some seen) in
    guarded_open p.assigned.trail c.of_clause-pair.result.1 c.of_clause-pair.result.0 (c.guard-2.ensures.none (ap is_some c.in_default-guard.is) guards)
