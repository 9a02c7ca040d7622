-- The clauses of the first events of a log.
use Rattle.std.proofs.Common.{◌≡◌, ◌∙◌, ℕ, ◌+◌, ◌<◌, ◌≤◌, List, [], ◌∷◌, ◌++◌, ap, length, sym, take}
use Rattle.std.proofs.lemmas.List.{map_push, take_all, take_more}
use Rattle.cnf_core.specs.Literal.{Literal}
use Rattle.cnf_core.specs.Events.{LogEvent, clause_of, clauses_of, event_at, given}

-- with one event more
pub clauses_more : (events : List LogEvent) (place : ℕ) (clause : List Literal) → place < length events → clause ≡ clause_of (event_at events place) → clauses_of (take (place + 1) events) ≡ clauses_of (take place events) ++ clause ∷ []
clauses_more events place clause below is =
    ap clauses_of (take_more events place (given []) below)
    ∙ map_push clause_of (take place events) (event_at events place)
    ∙ ap (λ (c : List Literal). clauses_of (take place events) ++ c ∷ []) (sym is)

-- all of them
pub clauses_all : (events : List LogEvent) (place : ℕ) → length events ≤ place → clauses_of (take place events) ≡ clauses_of events
clauses_all events place all = ap clauses_of (take_all place events all)
