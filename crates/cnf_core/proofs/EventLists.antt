-- Events that lie in lists: how many there are, one of them, and one more.
use Rattle.std.proofs.Common.{◌≡◌, ℕ, zero, suc, ◌+◌, ◌-◌, ◌<◌, ◌≤◌, Bool, true, false, List, [], ◌∷◌, ◌++◌, length, map, take, replicate, refl, sym, ap, subst, ◌∙◌, length-append, arith}
use Rattle.std.specs.Prelude.{All, slice_index_or}
use Rattle.std.specs.List.{AllByRecursion}
use Rattle.std.proofs.lemmas.List.{length-replicate, take_all}
use Rattle.std.proofs.lemmas.List.Elements.{All-from_recursion, All-push, recursion_from_All}
use Rattle.cnf_core.specs.Literal.{Literal}
use Rattle.cnf_core.specs.Events.{LogEvent, clause_of, event_at, given, step}
use Rattle.cnf_core.specs.EventListInside.{AreEvents, event_of, events_in, events_of}
use Rattle.cnf_core.specs.Pieces.{last_end, lists_from}
use Rattle.cnf_core.specs.declared.entries.EventList.TheInside.{Inside}
use Rattle.cnf_core.proofs.Pieces.{last_push, list_added, lists_length, within_more}

pub events_length : (clauses : List (List Literal)) (lists : List (List ℕ)) (steps : List Bool) → length lists ≡ length clauses → length steps ≡ length clauses → length (events_of clauses lists steps) ≡ length clauses
events_length [] lists steps ended answered = refl
events_length (clause ∷ clauses) [] steps ended answered = absurd (omega (arith, ended))
events_length (clause ∷ clauses) (hints ∷ lists) [] ended answered = absurd (omega (arith, answered))
events_length (clause ∷ clauses) (hints ∷ lists) (s ∷ steps) ended answered = ap suc (events_length clauses lists steps (omega (arith, ended)) (omega (arith, answered)))

-- the event of a number
pub event_there : (clauses : List (List Literal)) (lists : List (List ℕ)) (steps : List Bool) (k : ℕ) → length lists ≡ length clauses → length steps ≡ length clauses → k < length clauses
    → event_at (events_of clauses lists steps) k ≡ event_of (slice_index_or steps k false) (slice_index_or clauses k []) (slice_index_or lists k [])
event_there [] lists steps k ended answered lt = absurd (omega (arith, lt))
event_there (clause ∷ clauses) [] steps k ended answered lt = absurd (omega (arith, ended))
event_there (clause ∷ clauses) (hints ∷ lists) [] k ended answered lt = absurd (omega (arith, answered))
event_there (clause ∷ clauses) (hints ∷ lists) (s ∷ steps) zero ended answered lt = refl
event_there (clause ∷ clauses) (hints ∷ lists) (s ∷ steps) (suc k) ended answered lt = event_there clauses lists steps k (omega (arith, ended)) (omega (arith, answered)) (omega (arith, lt))

pub events_push : (clauses : List (List Literal)) (lists : List (List ℕ)) (steps : List Bool) (clause : List Literal) (hints : List ℕ) (is_step : Bool) → length lists ≡ length clauses → length steps ≡ length clauses
    → events_of (clauses ++ clause ∷ []) (lists ++ hints ∷ []) (steps ++ is_step ∷ []) ≡ events_of clauses lists steps ++ event_of is_step clause hints ∷ []
events_push [] [] [] clause hints is_step ended answered = refl
events_push [] [] (s ∷ steps) clause hints is_step ended answered = absurd (omega (arith, answered))
events_push [] (first ∷ lists) steps clause hints is_step ended answered = absurd (omega (arith, ended))
events_push (first ∷ clauses) [] steps clause hints is_step ended answered = absurd (omega (arith, ended))
events_push (first ∷ clauses) (others ∷ lists) [] clause hints is_step ended answered = absurd (omega (arith, answered))
events_push (first ∷ clauses) (others ∷ lists) (s ∷ steps) clause hints is_step ended answered =
    ap (λ (es : List LogEvent). event_of s first others ∷ es) (events_push clauses lists steps clause hints is_step (omega (arith, ended)) (omega (arith, answered)))

-- the clause of an event is that of its number
pub clause_of_event : (is_step : Bool) (clause : List Literal) (hints : List ℕ) → clause_of (event_of is_step clause hints) ≡ clause
clause_of_event true clause hints = refl
clause_of_event false clause hints = refl

pub clause_there : (e : Inside) (k : ℕ) → AreEvents e → k < length e.clauses → clause_of (event_at (events_in e) k) ≡ slice_index_or e.clauses k []
clause_there e k are lt =
    let lists = lists_from e.hints.items 0 e.ends.items in
    ap clause_of (event_there e.clauses lists e.steps.items k (lists_length e.hints.items 0 e.ends.items ∙ are.ended) are.answered lt)
    ∙ clause_of_event (slice_index_or e.steps.items k false) (slice_index_or e.clauses k []) (slice_index_or lists k [])

pub count_is : (e : Inside) → AreEvents e → length (events_in e) ≡ length e.clauses
count_is e are = events_length e.clauses (lists_from e.hints.items 0 e.ends.items) e.steps.items (lists_length e.hints.items 0 e.ends.items ∙ are.ended) are.answered

-- an event whose answer is known
pub step_there : (e : Inside) (k : ℕ) (hints : List ℕ) → AreEvents e → k < length e.clauses → slice_index_or e.steps.items k false ≡ true → hints ≡ slice_index_or (lists_from e.hints.items 0 e.ends.items) k []
    → event_at (events_in e) k ≡ step (clause_of (event_at (events_in e) k)) hints
step_there e k hints are lt answer is =
    let lists = lists_from e.hints.items 0 e.ends.items in
    let there = event_there e.clauses lists e.steps.items k (lists_length e.hints.items 0 e.ends.items ∙ are.ended) are.answered lt in
    there ∙ ap (λ (s : Bool). event_of s (slice_index_or e.clauses k []) (slice_index_or lists k [])) answer
    ∙ ap (λ (hs : List ℕ). step (slice_index_or e.clauses k []) hs) (sym is)
    ∙ ap (λ (cs : List Literal). step cs hints) (sym (clause_there e k are lt))

pub given_there : (e : Inside) (k : ℕ) → AreEvents e → k < length e.clauses → slice_index_or e.steps.items k false ≡ false
    → event_at (events_in e) k ≡ given (clause_of (event_at (events_in e) k))
given_there e k are lt answer =
    let lists = lists_from e.hints.items 0 e.ends.items in
    let there = event_there e.clauses lists e.steps.items k (lists_length e.hints.items 0 e.ends.items ∙ are.ended) are.answered lt in
    there ∙ ap (λ (s : Bool). event_of s (slice_index_or e.clauses k []) (slice_index_or lists k [])) answer
    ∙ ap given (sym (clause_there e k are lt))

-- an event more
pub event_added : (old new : Inside) (clause : List Literal) (hints : List ℕ) (is_step : Bool) (end : ℕ) → new.clauses ≡ old.clauses ++ clause ∷ [] → new.hints.items ≡ old.hints.items ++ hints
    → new.ends.items ≡ old.ends.items ++ end ∷ [] → new.steps.items ≡ old.steps.items ++ is_step ∷ [] → end ≡ length new.hints.items
    → AreEvents old → AreEvents new × (events_in new ≡ events_in old ++ event_of is_step clause hints ∷ [])
event_added old new clause hints is_step end clauses grown ends steps at are =
    let size : length new.hints.items ≡ length old.hints.items + length hints = ap length grown ∙ length-append old.hints.items hints in
    let count : length new.clauses ≡ length old.clauses + 1 = ap length clauses ∙ length-append old.clauses (clause ∷ []) in
    let ended : length new.ends.items ≡ length old.ends.items + 1 = ap length ends ∙ length-append old.ends.items (end ∷ []) in
    let answered : length new.steps.items ≡ length old.steps.items + 1 = ap length steps ∙ length-append old.steps.items (is_step ∷ []) in
    let was = lists_from old.hints.items 0 old.ends.items in
    let within : All (λ e. e ≤ length new.hints.items) old.ends.items
    = All-from_recursion (λ e. e ≤ length new.hints.items) old.ends.items
    (within_more old.hints.items new.hints.items hints old.ends.items grown (recursion_from_All (λ e. e ≤ length old.hints.items) old.ends.items are.within)) in
    let lists : lists_from new.hints.items 0 new.ends.items ≡ was ++ hints ∷ []
    = ap (lists_from new.hints.items 0) ends
    ∙ list_added old.hints.items new.hints.items hints old.ends.items end grown at are.within are.whole in (
      record {
        ended = omega (arith, ended, count, are.ended);
        answered = omega (arith, answered, count, are.answered);
        within = subst (All (λ e. e ≤ length new.hints.items)) (sym ends) (All-push (λ e. e ≤ length new.hints.items) old.ends.items end within (omega (arith, at)));
        whole = ap (last_end 0) ends ∙ last_push 0 old.ends.items end ∙ at;
      },
      ap (λ (cs : List (List Literal)). events_of cs (lists_from new.hints.items 0 new.ends.items) new.steps.items) clauses
          ∙ ap (λ (hs : List (List ℕ)). events_of (old.clauses ++ clause ∷ []) hs new.steps.items) lists
          ∙ ap (events_of (old.clauses ++ clause ∷ []) (was ++ hints ∷ [])) steps
          ∙ events_push old.clauses was old.steps.items clause hints is_step (lists_length old.hints.items 0 old.ends.items ∙ are.ended) are.answered,
    )

-- the same events
pub none_added : (old new : Inside) → new.clauses ≡ old.clauses → new.hints.items ≡ old.hints.items → new.ends.items ≡ old.ends.items → new.steps.items ≡ old.steps.items
    → AreEvents old → AreEvents new × (events_in new ≡ events_in old)
none_added old new clauses hints ends steps are = (
  record {
    ended = ap length ends ∙ are.ended ∙ ap length (sym clauses);
    answered = ap length steps ∙ are.answered ∙ ap length (sym clauses);
    within = subst (λ (xs : List ℕ). All (λ e. e ≤ length xs) new.ends.items) (sym hints) (subst (All (λ e. e ≤ length old.hints.items)) (sym ends) are.within);
    whole = ap (last_end 0) ends ∙ are.whole ∙ ap length (sym hints);
  },
  ap (λ (cs : List (List Literal)). events_of cs (lists_from new.hints.items 0 new.ends.items) new.steps.items) clauses
      ∙ ap (λ (xs : List ℕ). events_of old.clauses (lists_from xs 0 new.ends.items) new.steps.items) hints
      ∙ ap (λ (es : List ℕ). events_of old.clauses (lists_from old.hints.items 0 es) new.steps.items) ends
      ∙ ap (events_of old.clauses (lists_from old.hints.items 0 old.ends.items)) steps,
)

-- clauses without hints, none of them a step
pub all_given : (clauses : List (List Literal)) → events_of clauses (lists_from {X = ℕ} [] 0 (replicate (length clauses) 0)) (replicate (length clauses) false) ≡ map given clauses
all_given [] = refl
all_given (clause ∷ clauses) = ap (λ (es : List LogEvent). given clause ∷ es) (all_given clauses)

-- an empty list that is filled up
pub filled : {X : Type 0} (n m size : ℕ) (old new : List X) (x : X) → new ≡ take n old ++ replicate (n - size) x → old ≡ [] → size ≡ 0 → n ≡ m → new ≡ replicate m x
filled {X} n m size old new x is empty nought same =
    let count : n - size ≡ m = omega (arith, nought, same) in
    is ∙ ap (λ (xs : List X). take n xs ++ replicate (n - size) x) empty
    ∙ ap (λ (xs : List X). xs ++ replicate (n - size) x) (take_all n [] (omega arith))
    ∙ ap (λ (k : ℕ). replicate k x) count

zeros_within : (n most : ℕ) → AllByRecursion (λ e. e ≤ most) (replicate n 0)
zeros_within zero most = tt
zeros_within (suc n) most = (omega arith, zeros_within n most)

last_zero : (n : ℕ) → last_end 0 (replicate n 0) ≡ 0
last_zero zero = refl
last_zero (suc n) = last_zero n

-- clauses with as many zeros for ends, none of them a step
pub givens_there : (e : Inside) → e.hints.items ≡ [] → e.ends.items ≡ replicate (length e.clauses) 0 → e.steps.items ≡ replicate (length e.clauses) false → AreEvents e × (events_in e ≡ map given e.clauses)
givens_there e hints ends steps = (
  record {
    ended = ap length ends ∙ length-replicate (length e.clauses) 0;
    answered = ap length steps ∙ length-replicate (length e.clauses) false;
    within = subst (All (λ n. n ≤ length e.hints.items)) (sym ends) (All-from_recursion (λ n. n ≤ length e.hints.items) (replicate (length e.clauses) 0) (zeros_within (length e.clauses) (length e.hints.items)));
    whole = ap (last_end 0) ends ∙ last_zero (length e.clauses) ∙ sym (ap length hints);
  },
  ap (λ (xs : List ℕ). events_of e.clauses (lists_from xs 0 e.ends.items) e.steps.items) hints
      ∙ ap (λ (es : List ℕ). events_of e.clauses (lists_from {X = ℕ} [] 0 es) e.steps.items) ends
      ∙ ap (events_of e.clauses (lists_from {X = ℕ} [] 0 (replicate (length e.clauses) 0))) steps
      ∙ all_given e.clauses,
)
