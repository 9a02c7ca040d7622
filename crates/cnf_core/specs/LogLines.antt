-- The lines of a log: one for each step, with ids as a proof has them over the clauses that were given.
use Rattle.std.specs.Prelude.{ℕ, ◌+◌, pos, List, [], ◌∷◌, length, map, slice_index}
use Rattle.cnf_core.specs.Events.{LogEvent, given, step, givens}
use Rattle.cnf_core.specs.Lines.{ProofLine, add}

-- the ids of events, where the next given and the next step have these
abbrev pub ids_from : ℕ → ℕ → List LogEvent → List ℕ
ids_from given_id step_id [] = []
ids_from given_id step_id (given clause ∷ events) =
    given_id ∷ ids_from (given_id + 1) step_id events
ids_from given_id step_id (step clause hints ∷ events) =
    step_id ∷ ids_from given_id (step_id + 1) events

-- the givens have the first ids, from 1 on, and the steps those behind them
abbrev pub event_ids : List LogEvent → List ℕ
event_ids events = ids_from 1 (length (givens events) + 1) events

-- the lines for the steps of some events: ids has the ids of all events, and own those of these
abbrev pub step_lines : List ℕ → List ℕ → List LogEvent → List ProofLine
step_lines ids own [] = []
step_lines ids [] (event ∷ events) = []
step_lines ids (id ∷ own) (given clause ∷ events) = step_lines ids own events
step_lines ids (id ∷ own) (step clause hints ∷ events) =
    add id clause (map (λ hint. pos (slice_index ids hint)) hints)
    ∷ step_lines ids own events

-- the lines of a log: one for each step
abbrev pub log_lines : List LogEvent → List ProofLine
log_lines events = step_lines (event_ids events) (event_ids events) events
