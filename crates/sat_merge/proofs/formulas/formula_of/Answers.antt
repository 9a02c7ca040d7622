use Rattle.std.proofs.Common.{◌<◌, ◌∙◌, ◌∷◌, ◌++◌, [], ℕ, List, ap, length, subst, sym, arith}
use Rattle.std.specs.Prelude.{All}
use Rattle.cnf_core.specs.Literal.{Literal, VariablesUpTo}
use Rattle.cnf_core.specs.Formula.{Cnf}
use Rattle.cnf_core.specs.Events.{LogEvent, clauses_of}
use Rattle.sat_search.proofs.Taken.{clauses_all, clauses_more}
use Rattle.sat_merge.proofs.Named.{event_named}
use Rattle.sat_merge.proofs.formulas.formula_of.Goals as goal

pub add_ordered-requires-clause-names : goal.add_ordered-requires-clause-names
add_ordered-requires-clause-names c =
    let events = c.events-events.result.now in
    let below : c.loop-place.place < length events = omega (arith, c.loop-place-test.true, c.len-place-end.ensures.value) in
    subst (λ (most : ℕ). VariablesUpTo most c.clause.result.now) (sym c.loop-place.invariant.vars)
    (event_named c.args.vars events c.loop-place.place c.clause.result.now (subst (λ (es : List LogEvent). All (VariablesUpTo c.args.vars) (clauses_of es)) (sym c.events-events.ensures.value) c.requires.named) below c.clause.ensures.value)

pub loop-place-preserved : goal.loop-place-preserved
loop-place-preserved c =
    let events = c.events-events.result.now in
    let place = c.loop-place.place in
    let clause = c.clause.result.now in
    let below : place < length events = omega (arith, c.loop-place-test.true, c.len-place-end.ensures.value) in
    let added = c.in_ok-add_ordered.ensures.ok in
    record {
      clauses = ap (λ (f : Cnf). f.clauses) added ∙ ap (λ (cs : List (List Literal)). cs ++ clause ∷ []) c.loop-place.invariant.clauses ∙ sym (clauses_more events place clause below c.clause.ensures.value);
      vars = ap (λ (f : Cnf). f.vars) added ∙ c.loop-place.invariant.vars;
    }

pub returns : goal.returns
returns c =
    let events = c.events-events.result.now in
    c.loop-place.invariant.clauses ∙ clauses_all events c.loop-place.place (omega (arith, c.loop-place-test.false, c.len-place-end.ensures.value)) ∙ ap (λ (es : List LogEvent). clauses_of es) c.events-events.ensures.value
