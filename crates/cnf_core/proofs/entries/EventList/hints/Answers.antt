use Rattle.std.proofs.Common.{◌≡◌, ℕ, ◌<◌, Bool, false, List, [], length, slice_index, sym, ap, subst, ◌∙◌, arith}
use Rattle.std.specs.Prelude.{slice_index_or}
use Rattle.std.proofs.lemmas.List.{get_or_default}
use Rattle.cnf_core.specs.Events.{LogEvent, clause_of, event_at, given, step}
use Rattle.cnf_core.specs.EventListInside.{AreEvents, events_in}
use Rattle.cnf_core.specs.Pieces.{lists_from, part_of, start_of}
use Rattle.cnf_core.specs.declared.entries.EventList.TheInside.{Inside}
use Rattle.cnf_core.proofs.EventLists.{count_is, given_there, step_there}
use Rattle.cnf_core.proofs.Pieces.{list_there}
use Rattle.cnf_core.proofs.entries.EventList.hints.Goals as goal

-- there is a clause of each event
within : (i : Inside) (events : List LogEvent) (place : ℕ) → AreEvents i → events_in i ≡ events → place < length events → place < length i.clauses
within i events place are is lt = omega (arith, lt, ap length is, count_is i are)

answer_is : (steps : List Bool) (k : ℕ) (x b : Bool) → k < length steps → x ≡ slice_index_or steps k x → x ≡ b → slice_index_or steps k false ≡ b
answer_is steps k x b lt at is = get_or_default steps k false x lt ∙ sym at ∙ is

-- the part that is read is the hints of the place
there : (i : Inside) (place : ℕ) (hints piece ends : List ℕ) → hints ≡ i.hints.items → ends ≡ i.ends.items → place < length i.ends.items
    → piece ≡ part_of hints (start_of 0 ends place) (slice_index ends place) → piece ≡ slice_index_or (lists_from i.hints.items 0 i.ends.items) place []
there i place hints piece ends h e lt is =
    is ∙ ap (λ (hs : List ℕ). part_of hs (start_of 0 ends place) (slice_index ends place)) h
    ∙ ap (λ (es : List ℕ). part_of i.hints.items (start_of 0 es place) (slice_index es place)) e
    ∙ sym (list_there i.hints.items 0 i.ends.items place lt)

pub index-requires : goal.index-requires
index-requires c =
    let lt : c.args.place < length c.self.inside.clauses = within c.self.inside c.args.self.now c.args.place c.self.invariant c.self.view_is c.requires in
    omega (arith, lt, c.self.invariant.answered, c.self.inside.steps.ok.0)

pub returns-then-not-index-clause-given : goal.returns-then-not-index-clause-given
returns-then-not-index-clause-given c = λ none.
    let i = c.self.inside in
    let lt : c.args.place < length i.clauses = within i c.args.self.now c.args.place c.self.invariant c.self.view_is c.requires in
    let in_steps : c.args.place < length i.steps.items = omega (arith, lt, c.self.invariant.answered) in
    subst (λ (es : List LogEvent). event_at es c.args.place ≡ given (clause_of (event_at es c.args.place))) c.self.view_is
    (given_there i c.args.place c.self.invariant lt (answer_is i.steps.items c.args.place c.index.result.now _ in_steps c.index.ensures c.if-not-index.true))

pub piece-requires : goal.piece-requires
piece-requires c =
    let i = c.self.inside in
    let lt : c.args.place < length i.clauses = within i c.args.self.now c.args.place c.self.invariant c.self.view_is c.requires in
    let in_ends : c.args.place < length i.ends.items = omega (arith, lt, c.self.invariant.ended) in
    subst (λ (es : List ℕ). c.args.place < length es) (sym c.as_slice-2.ensures.value) in_ends

pub returns-clause-step : goal.returns-clause-step
returns-clause-step c =
    let i = c.self.inside in
    let lt : c.args.place < length i.clauses = within i c.args.self.now c.args.place c.self.invariant c.self.view_is c.requires in
    let in_steps : c.args.place < length i.steps.items = omega (arith, lt, c.self.invariant.answered) in
    let in_ends : c.args.place < length i.ends.items = omega (arith, lt, c.self.invariant.ended) in
    subst (λ (es : List LogEvent). event_at es c.args.place ≡ step (clause_of (event_at es c.args.place)) c.piece.result.now) c.self.view_is
    (step_there i c.args.place c.piece.result.now c.self.invariant lt (answer_is i.steps.items c.args.place c.index.result.now _ in_steps c.index.ensures c.if-not-index.false)
    (there i c.args.place _ c.piece.result.now _ c.as_slice.ensures.value c.as_slice-2.ensures.value in_ends c.piece.ensures))
