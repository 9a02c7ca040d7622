use Rattle.std.proofs.Common.{◌≡◌, ◌<◌, ◌+◌, ◌∷◌, ◌++◌, ◌∙◌, [], List, length, refl, sym, subst, arith}
use Rattle.cnf_core.specs.Literal.{Literal}
use Rattle.cnf_core.specs.Events.{clause_of, event_at}
use Rattle.ep_outputs.proofs.Givens.{Taking, taking-ends, taking-given, taking-step}
use Rattle.ep_outputs.proofs.texts.given_clauses.Goals as goal

pub loop-place-preserved-in-Some : goal.loop-place-preserved-in-Some
loop-place-preserved-in-Some c =
    let events = c.args.events.now in
    let place = c.loop-place.place in
    let below : place < length events = omega (arith, c.loop-place-test.true, c.len-place-end.ensures.value) in
    taking-step c.loop-place.clauses.items place events (clause_of (event_at events place)) _ c.loop-place.invariant below c.in-Some.ensures.step

pub loop-place-preserved : goal.loop-place-preserved
loop-place-preserved c =
    let events = c.args.events.now in
    let place = c.loop-place.place in
    let made = c.loop-place.clauses.items in
    let clause = c.in_ok-from_ordered-in-None.field-0 in
    let below : place < length events = omega (arith, c.loop-place-test.true, c.len-place-end.ensures.value) in
    let same : clause ≡ clause_of (event_at events place) = c.in_ok-from_ordered-in-None.ensures ∙ c.clause.ensures.value in
    subst (λ (all : List (List Literal)). Taking all (place + 1) events) (sym c.in_ok-push-in-None.ensures.items)
    (subst (λ (x : List Literal). Taking (made ++ x ∷ []) (place + 1) events) (sym same)
    (taking-given made place events (clause_of (event_at events place)) c.loop-place.invariant below (c.in-None.ensures.given refl)))

pub returns : goal.returns
returns c = taking-ends c.loop-place.clauses.items c.loop-place.place c.args.events.now c.loop-place.invariant (omega (arith, c.loop-place-test.false, c.len-place-end.ensures.value))
