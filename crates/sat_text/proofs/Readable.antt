-- The lines of a log can be read again.
use Rattle.std.proofs.Common.{ℕ, pos, ◌+◌, ◌<◌, ◌≤◌, ◌^◌, List, [], ◌∷◌, ◌++◌, length, map, All, slice_index, arith, length-append}
use Rattle.std.specs.List.{AllByRecursion}
use Rattle.std.proofs.lemmas.Bool.Decides.{nat_tests}
use Rattle.std.proofs.lemmas.List.Elements.{All-from_recursion, recursion_from_All}
use Rattle.cnf_core.specs.Literal.{IsClause}
use Rattle.cnf_core.specs.Events.{LogEvent, given, step, clauses_of, givens, EachStep, HintsAreThere, HintsAreEarlier}
use Rattle.cnf_core.specs.LogLines.{ids_from, event_ids, step_lines, log_lines}
use Rattle.sat_text.specs.Writing.{IsShort, IsReadable}
use Rattle.sat_text.proofs.EventIds.{length-event_ids, given_count_small}

-- a positive number of at most eighteen digits
abbrev IsSmall : ℕ → Type 0
IsSmall id = (0 < id) × (id < 10 ^ 18)

small_ids : (given_id step_id : ℕ) (events : List LogEvent) → 0 < given_id → 0 < step_id → given_id + length events ≤ 10 ^ 18 → step_id + length events ≤ 10 ^ 18
    → AllByRecursion IsSmall (ids_from given_id step_id events)
small_ids given_id step_id [] a b c d = tt
small_ids given_id step_id (given clause ∷ events) a b c d = ((a, omega arith), small_ids (given_id + 1) step_id events (omega arith) b (omega arith) (omega arith))
small_ids given_id step_id (step clause hints ∷ events) a b c d = ((b, omega arith), small_ids given_id (step_id + 1) events a (omega arith) (omega arith) (omega arith))

short : (n : ℕ) → IsSmall n → IsShort (pos n)
short n s = (omega (arith, s.1), grind (arith, nat_tests, s.0))

short_hints : (ids hints : List ℕ) (most : ℕ) → most ≤ length ids → All IsSmall ids → AllByRecursion (λ h. h < most) hints → AllByRecursion IsShort (map (λ h. pos (slice_index ids h)) hints)
short_hints ids [] most le small all = tt
short_hints ids (h ∷ hints) most le small all = (short (slice_index ids h) (small h 0 (omega (arith, all.0))), short_hints ids hints most le small all.1)

readable_lines : (ids own : List ℕ) (earlier events : List LogEvent) → All IsSmall ids → AllByRecursion IsSmall own → EachStep (λ before clause hints. HintsAreThere before hints) earlier events
    → length earlier + length events ≤ length ids → AllByRecursion IsClause (clauses_of events) → AllByRecursion IsReadable (step_lines ids own events)
readable_lines ids own earlier [] small mine hints room clauses = tt
readable_lines ids [] earlier (event ∷ events) small mine hints room clauses = tt
readable_lines ids (id ∷ own) earlier (given clause ∷ events) small mine hints room clauses =
    readable_lines ids own (earlier ++ given clause ∷ []) events small mine.1 hints (omega (arith, length-append earlier (given clause ∷ []))) clauses.1
readable_lines ids (id ∷ own) earlier (step clause hs ∷ events) small mine hints room clauses = (
  (mine.0.0, mine.0.1, clauses.0, All-from_recursion IsShort _ (short_hints ids hs (length earlier) (omega arith) small (recursion_from_All (λ h. h < length earlier) hs hints.0))),
  readable_lines ids own (earlier ++ step clause hs ∷ []) events small mine.1 hints.1 (omega (arith, length-append earlier (step clause hs ∷ []))) clauses.1,
)

-- the lines of a log
pub log_readable : (events : List LogEvent) → length events < 2 ^ 58 → HintsAreEarlier events → All IsClause (clauses_of events) → All IsReadable (log_lines events)
log_readable events few hints clauses =
    let ids : AllByRecursion IsSmall (event_ids events)
    = small_ids 1 (length (givens events) + 1) events (omega arith) (omega arith) (omega (arith, few)) (omega (arith, few, given_count_small events)) in
    All-from_recursion IsReadable (log_lines events)
    (readable_lines (event_ids events) (event_ids events) [] events (All-from_recursion IsSmall (event_ids events) ids) ids hints
    (omega (arith, length-event_ids events)) (recursion_from_All IsClause (clauses_of events) clauses))
