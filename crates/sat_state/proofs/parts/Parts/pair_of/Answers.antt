use Rattle.std.proofs.Common.{List, Contains, All, is_some, sym, ap, ◌∙◌, subst, arith}
use Rattle.std.proofs.lemmas.List.{take_all}
use Rattle.std.proofs.lemmas.List.Elements.{All-more, All-contains}
use Rattle.cnf_core.specs.Literal.{Literal, negation}
use Rattle.sat_state.specs.Trail.{literals}
use Rattle.sat_state.specs.Stored.{clause_at}
use Rattle.sat_state.proofs.Ends.{not_among}
use Rattle.sat_state.proofs.Going.{joined_consistent, guarded_open}
use Rattle.sat_state.proofs.Retired.{IsNotGuarded, two_open_at}
use Rattle.sat_state.proofs.parts.Parts.pair_of.Goals as goal

pub loop-found-preserved : goal.loop-found-preserved
loop-found-preserved c =
    let p = c.args.self.now in
    let l = c.loop-found in
    All-more (IsNotGuarded p c.args.number) c.lits-lits.result.now l.found-index c.found-item.result c.loop-found-test.true l.invariant
    (subst (IsNotGuarded p c.args.number) (c.lit-lit.ensures ∙ c.found-item.is) (c.guard.ensures.none (ap is_some c.in_default.is)))

pub returns-in-Some-clause-two : goal.returns-in-Some-clause-two
returns-in-Some-clause-two c =
    let p = c.args.self.now in
    let clause = clause_at p.clauses.lists c.args.number in
    record {
      one_in = subst (λ (x : Literal). Contains clause x) (sym c.lit-lit.ensures)
          (subst (λ (ls : List Literal). Contains ls c.found-item.result) c.lits-lits.ensures (c.loop-found.found-index, c.loop-found-test.true, sym c.found-item.is));
      other_in = c.in-Some.ensures.in_clause;
      two = λ same. joined_consistent p c.requires.joined c.lit-lit.result (subst (λ (x : Literal). Contains (literals p.assigned.trail) x) (sym same) c.in-Some.ensures.is_true) c.in-Some.ensures.falsified;
    }

pub returns-in-Some-clause-other : goal.returns-in-Some-clause-other
returns-in-Some-clause-other c = λ seen.
    let p = c.args.self.now in
    guarded_open p.assigned.trail c.in-Some.guard c.lit-lit.result (λ falsified. joined_consistent p c.requires.joined c.in-Some.guard c.in-Some.ensures.is_true falsified)

pub returns-clause-one : goal.returns-clause-one
returns-clause-one c = λ seen.
    let p = c.args.self.now in
    let n = c.args.number in
    let lits = c.lits-lits.result.now in
    let all = take_all c.loop-found.found-index lits (omega (arith, c.loop-found-test.false)) ∙ c.lits-lits.ensures in
    let none = subst (All (IsNotGuarded p n)) all c.loop-found.invariant in
    let two = two_open_at p c.requires.joined seen n c.requires.there c.requires.long (λ l h guards falsified. All-contains (IsNotGuarded p n) (clause_at p.clauses.lists n) l none h guards falsified) in
    let found = c.open_pair.ensures.open two in
    guarded_open p.assigned.trail c.open_pair.result.0 c.open_pair.result.1 (not_among (literals p.assigned.trail) (negation c.open_pair.result.0) found.0)

pub returns-clause-other : goal.returns-clause-other
returns-clause-other c = λ seen.
    let p = c.args.self.now in
    let n = c.args.number in
    let lits = c.lits-lits.result.now in
    let all = take_all c.loop-found.found-index lits (omega (arith, c.loop-found-test.false)) ∙ c.lits-lits.ensures in
    let none = subst (All (IsNotGuarded p n)) all c.loop-found.invariant in
    let two = two_open_at p c.requires.joined seen n c.requires.there c.requires.long (λ l h guards falsified. All-contains (IsNotGuarded p n) (clause_at p.clauses.lists n) l none h guards falsified) in
    let found = c.open_pair.ensures.open two in
    guarded_open p.assigned.trail c.open_pair.result.1 c.open_pair.result.0 (not_among (literals p.assigned.trail) (negation c.open_pair.result.1) found.1)
