-- What events come to that lie in lists, as the checker computes it.
use Rattle.std.proofs.Common.{◌≡◌, ℕ, true, false, List, [], ◌∷◌, refl}
use Rattle.cnf_core.specs.Literal.{Literal}
use Rattle.cnf_core.specs.Events.{LogEvent, given, step, clauses_of, event_at}
use Rattle.cnf_core.specs.EventListInside.{events_of}
use Rattle.cnf_core.specs.Pieces.{last_end, lists_from}

abbrev yes : ℕ → Literal
yes v = record { var = v; positive = true }

abbrev no : ℕ → Literal
no v = record { var = v; positive = false }

-- two clauses, one that they show together, and one that the third shows
abbrev clauses : List (List Literal)
clauses = (yes 1 ∷ yes 2 ∷ []) ∷ (no 1 ∷ yes 2 ∷ []) ∷ (yes 2 ∷ []) ∷ (yes 2 ∷ yes 3 ∷ []) ∷ []

abbrev events : List LogEvent
events = given (yes 1 ∷ yes 2 ∷ []) ∷ given (no 1 ∷ yes 2 ∷ []) ∷ step (yes 2 ∷ []) (0 ∷ 1 ∷ []) ∷ step (yes 2 ∷ yes 3 ∷ []) (2 ∷ []) ∷ []

two_givens_and_two_steps : events_of clauses (lists_from (0 ∷ 1 ∷ 2 ∷ []) 0 (0 ∷ 0 ∷ 2 ∷ 3 ∷ [])) (false ∷ false ∷ true ∷ true ∷ []) ≡ events
two_givens_and_two_steps = refl

their_clauses : clauses_of events ≡ clauses
their_clauses = refl

-- a given may stand behind a step, and a step may have no hint: the answers alone tell which is which
order_is_free : events_of clauses (lists_from (5 ∷ []) 0 (0 ∷ 1 ∷ 1 ∷ 1 ∷ [])) (false ∷ true ∷ false ∷ true ∷ [])
    ≡ given (yes 1 ∷ yes 2 ∷ []) ∷ step (no 1 ∷ yes 2 ∷ []) (5 ∷ []) ∷ given (yes 2 ∷ []) ∷ step (yes 2 ∷ yes 3 ∷ []) [] ∷ []
order_is_free = refl

-- of a given no hint is read
hints_of_a_given : events_of ((yes 1 ∷ []) ∷ (yes 2 ∷ []) ∷ []) ((7 ∷ 8 ∷ []) ∷ (9 ∷ []) ∷ []) (false ∷ true ∷ []) ≡ given (yes 1 ∷ []) ∷ step (yes 2 ∷ []) (9 ∷ []) ∷ []
hints_of_a_given = refl

-- what has a clause, hints or an answer alone is no event
without_hints : events_of clauses [] (true ∷ true ∷ []) ≡ []
without_hints = refl

without_an_answer : events_of clauses ((0 ∷ []) ∷ (1 ∷ []) ∷ []) (true ∷ []) ≡ step (yes 1 ∷ yes 2 ∷ []) (0 ∷ []) ∷ []
without_an_answer = refl

without_a_clause : events_of [] ((0 ∷ []) ∷ []) (true ∷ []) ≡ []
without_a_clause = refl

-- hints lie one behind the other: each list begins where the one before ends, and one that would end outside is empty
lists_in_order : lists_from {X = ℕ} (4 ∷ 5 ∷ 6 ∷ []) 0 (1 ∷ 1 ∷ 3 ∷ []) ≡ (4 ∷ []) ∷ [] ∷ (5 ∷ 6 ∷ []) ∷ []
lists_in_order = refl

lists_from_a_place : lists_from {X = ℕ} (4 ∷ 5 ∷ 6 ∷ []) 2 (3 ∷ []) ≡ (6 ∷ []) ∷ []
lists_from_a_place = refl

outside : lists_from {X = ℕ} (4 ∷ 5 ∷ []) 0 (3 ∷ []) ≡ [] ∷ []
outside = refl

backwards : lists_from {X = ℕ} (4 ∷ 5 ∷ []) 0 (2 ∷ 1 ∷ []) ≡ (4 ∷ 5 ∷ []) ∷ [] ∷ []
backwards = refl

ends_where : last_end 0 (0 ∷ 0 ∷ 2 ∷ 3 ∷ []) ≡ 3
ends_where = refl

ends_at_once : last_end 0 [] ≡ 0
ends_at_once = refl

-- the event of a number, and behind the last a given of no literal
third : event_at events 2 ≡ step (yes 2 ∷ []) (0 ∷ 1 ∷ [])
third = refl

fourth_is_another : event_at events 3 ≡ step (yes 2 ∷ yes 3 ∷ []) (2 ∷ [])
fourth_is_another = refl

behind_the_last : event_at events 4 ≡ given []
behind_the_last = refl
