use Rattle.std.proofs.Common.{◌<◌, ◌∙◌, ◌∷◌, ◌++◌, [], List, ap, length, sym, arith}
use Rattle.cnf_core.specs.Literal.{Literal}
use Rattle.sat_state.specs.Trail.{level_of}
use Rattle.sat_search.proofs.Taken.{clauses_all, clauses_more}
use Rattle.sat_search.proofs.adding.add_events.Goals as goal

pub loop-place-preserved : goal.loop-place-preserved
loop-place-preserved c =
    let events = c.args.events.now in
    let place = c.loop-place.place in
    let clause = c.in_ok-clause.clause in
    let below : place < length events = omega (arith, c.loop-place-test.true, c.len-place-end.ensures.value) in
    record {
      known = c.in_ok-most.ensures.known;
      level = ap level_of c.in_ok-most.ensures.trail ∙ c.loop-place.invariant.level;
      clauses = c.in_ok-most.ensures.clauses ∙ ap (λ (cs : List (List Literal)). cs ++ clause ∷ []) c.loop-place.invariant.clauses
          ∙ sym (clauses_more events place clause below (c.in_ok-clause.ensures ∙ c.clause.ensures.value));
    }

pub returns-clause-clauses : goal.returns-clause-clauses
returns-clause-clauses c = c.loop-place.invariant.clauses ∙ clauses_all c.args.events.now c.loop-place.place (omega (arith, c.loop-place-test.false, c.len-place-end.ensures.value))
