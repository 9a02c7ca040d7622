use Rattle.std.proofs.Common.{◌<◌, ◌≤◌, List, length, sym, ◌∙◌, subst, arith}
use Rattle.std.specs.Prelude.{All}
use Rattle.std.proofs.lemmas.List.{take_all}
use Rattle.cnf_core.specs.Events.{LogEvent, clauses_of}
use Rattle.sat_split.specs.Cubes.{IsFalseIn}
use Rattle.sat_join.proofs.Falsified.{refuted_here, none_more}
use Rattle.sat_join.proofs.places.find_false.Goals as goal

pub returns-then-is_false_in-clause-found : goal.returns-then-is_false_in-clause-found
returns-then-is_false_in-clause-found c =
    let below : c.loop-place.place < length c.args.events.now = omega (arith, c.loop-place-test.true, c.len-place-end.ensures.value) in
    refuted_here c.args.events.now c.args.literals.now c.clause.result.now c.loop-place.place below c.clause.ensures.value (sym c.is_false_in.ensures ∙ c.if-is_false_in.true)

pub loop-place-preserved : goal.loop-place-preserved
loop-place-preserved c =
    let below : c.loop-place.place < length c.args.events.now = omega (arith, c.loop-place-test.true, c.len-place-end.ensures.value) in
    none_more c.args.events.now c.args.literals.now c.clause.result.now c.loop-place.place below c.clause.ensures.value (sym c.is_false_in.ensures ∙ c.if-is_false_in.false) c.loop-place.invariant

pub returns-clause-none : goal.returns-clause-none
returns-clause-none c =
    let all : length c.args.events.now ≤ c.loop-place.place = omega (arith, c.loop-place-test.false, c.len-place-end.ensures.value) in
    subst (λ (es : List LogEvent). All (λ other. IsFalseIn c.args.literals.now other → ⊥) (clauses_of es)) (take_all c.loop-place.place c.args.events.now all) c.loop-place.invariant
