-- The ids of events, and the lines of steps.
use Rattle.std.proofs.Common.{◌≡◌, ℕ, zero, suc, ◌+◌, ◌<◌, ◌≤◌, cond, List, [], ◌∷◌, ◌++◌, length, map, take, drop, get_or, All, refl, sym, ap, subst, ◌∙◌, append_assoc, arith, pos, slice_index}
use Rattle.std.specs.Prelude.{count_by}
use Rattle.std.specs.List.{flat_map}
use Rattle.std.proofs.lemmas.List.Sums.{sum_by-cons}
use Rattle.std.proofs.lemmas.List.Concat.{flat_map-cons}
use Rattle.std.proofs.Math.Seq.{drop-cons}
use Rattle.std.proofs.lemmas.List.{append-nil, drop_all, get_or_default, length-take}
use Rattle.cnf_core.specs.Literal.{Literal}
use Rattle.cnf_core.specs.Events.{LogEvent, given, step, clause_of, event_at, is_given, givens, EachStep, HintsAreThere, HintsAreEarlier}
use Rattle.cnf_core.specs.Lines.{ProofLine, add}
use Rattle.cnf_core.specs.LogLines.{ids_from, event_ids, step_lines}
use Rattle.sat_text.specs.Writing.{line_text}

-- what the loop that numbers events keeps: the ids so far, and those of the events that are left
pub record Numbering (made : List ℕ) (given_id step_id k : ℕ) (events : List LogEvent) : Type 0 where
  pub ids : made ++ ids_from given_id step_id (drop k events) ≡ event_ids events
  pub given_small : given_id ≤ k + 1
  pub step_small : step_id ≤ length events + k + 1

next_event : (events : List LogEvent) (k : ℕ) (x : LogEvent) → k < length events → x ≡ get_or events k x → drop k events ≡ x ∷ drop (k + 1) events
next_event events k x lt is = grind (arith, drop-cons)

given_count : (events : List LogEvent) → count_by is_given events ≡ length (givens events)
given_count [] = refl
given_count (given clause ∷ events) = sum_by-cons (λ event. cond (is_given event) 1 0) (given clause) events ∙ omega (arith, given_count events)
given_count (step clause hints ∷ events) = sum_by-cons (λ event. cond (is_given event) 1 0) (step clause hints) events ∙ omega (arith, given_count events)

pub given_count_small : (events : List LogEvent) → length (givens events) ≤ length events
given_count_small [] = omega arith
given_count_small (given clause ∷ events) = omega (arith, given_count_small events)
given_count_small (step clause hints ∷ events) = omega (arith, given_count_small events)

pub count_small : (events : List LogEvent) → count_by is_given events ≤ length events
count_small events = omega (arith, given_count events, given_count_small events)

pub numbering_starts : (events : List LogEvent) (count : ℕ) → count ≡ count_by is_given events → Numbering [] 1 (count + 1) 0 events
numbering_starts events count e =
    let is : count ≡ length (givens events) = e ∙ given_count events in
    record {
      ids = ap (λ (n : ℕ). ids_from 1 (n + 1) events) is;
      given_small = omega arith;
      step_small = omega (arith, is, given_count_small events);
    }

pub numbering_given : (made : List ℕ) (given_id step_id k : ℕ) (events : List LogEvent) (clause : List Literal) → Numbering made given_id step_id k events → k < length events → given clause ≡ get_or events k (given clause)
    → Numbering (made ++ given_id ∷ []) (given_id + 1) step_id (k + 1) events
numbering_given made given_id step_id k events clause n lt is = record {
  ids = append_assoc made (given_id ∷ []) (ids_from (given_id + 1) step_id (drop (k + 1) events))
      ∙ sym (ap (λ (es : List LogEvent). made ++ ids_from given_id step_id es) (next_event events k (given clause) lt is)) ∙ n.ids;
  given_small = omega (arith, n.given_small);
  step_small = omega (arith, n.step_small);
}

pub numbering_step : (made : List ℕ) (given_id step_id k : ℕ) (events : List LogEvent) (clause : List Literal) (hints : List ℕ) → Numbering made given_id step_id k events → k < length events
    → step clause hints ≡ get_or events k (step clause hints) → Numbering (made ++ step_id ∷ []) given_id (step_id + 1) (k + 1) events
numbering_step made given_id step_id k events clause hints n lt is = record {
  ids = append_assoc made (step_id ∷ []) (ids_from given_id (step_id + 1) (drop (k + 1) events))
      ∙ sym (ap (λ (es : List LogEvent). made ++ ids_from given_id step_id es) (next_event events k (step clause hints) lt is)) ∙ n.ids;
  given_small = omega (arith, n.given_small);
  step_small = omega (arith, n.step_small);
}

pub numbering_ends : (made : List ℕ) (given_id step_id k : ℕ) (events : List LogEvent) → Numbering made given_id step_id k events → length events ≤ k → made ≡ event_ids events
numbering_ends made given_id step_id k events n le =
    sym (append-nil made) ∙ sym (ap (λ (es : List LogEvent). made ++ ids_from given_id step_id es) (drop_all k events le)) ∙ n.ids

-- ---- the lines of steps

length-ids : (given_id step_id : ℕ) (events : List LogEvent) → length (ids_from given_id step_id events) ≡ length events
length-ids given_id step_id [] = refl
length-ids given_id step_id (given clause ∷ events) = ap suc (length-ids (given_id + 1) step_id events)
length-ids given_id step_id (step clause hints ∷ events) = ap suc (length-ids given_id (step_id + 1) events)

pub length-event_ids : (events : List LogEvent) → length (event_ids events) ≡ length events
length-event_ids events = length-ids 1 (length (givens events) + 1) events

-- what the loop that writes keeps: the text so far, and that of the events that are left
pub record Written (start out ids : List ℕ) (k : ℕ) (events : List LogEvent) : Type 0 where
  pub text : out ++ flat_map line_text (step_lines ids (drop k ids) (drop k events)) ≡ start ++ flat_map line_text (step_lines ids ids events)

pub written_starts : (start ids : List ℕ) (events : List LogEvent) → Written start start ids 0 events
written_starts start ids events = record { text = refl }

next_id : (ids : List ℕ) (k : ℕ) → k < length ids → drop k ids ≡ slice_index ids k ∷ drop (k + 1) ids
next_id ids k lt = grind (arith, drop-cons)

lines_left : (ids : List ℕ) (k : ℕ) (events : List LogEvent) (x : LogEvent) → k < length ids → k < length events → x ≡ get_or events k x
    → step_lines ids (drop k ids) (drop k events) ≡ step_lines ids (slice_index ids k ∷ drop (k + 1) ids) (x ∷ drop (k + 1) events)
lines_left ids k events x lti lt is =
    ap (λ (own : List ℕ). step_lines ids own (drop k events)) (next_id ids k lti)
    ∙ ap (λ (es : List LogEvent). step_lines ids (slice_index ids k ∷ drop (k + 1) ids) es) (next_event events k x lt is)

pub written_given : (start out ids : List ℕ) (k : ℕ) (events : List LogEvent) (clause : List Literal) → Written start out ids k events → k < length ids → k < length events → given clause ≡ get_or events k (given clause) → Written start out ids (k + 1) events
written_given start out ids k events clause w lti lt is = record {
  text = sym (ap (λ (ls : List ProofLine). out ++ flat_map line_text ls) (lines_left ids k events (given clause) lti lt is)) ∙ w.text;
}

pub written_step : (start out ids : List ℕ) (k : ℕ) (events : List LogEvent) (clause : List Literal) (hints : List ℕ) → Written start out ids k events → k < length ids → k < length events
    → step clause hints ≡ get_or events k (step clause hints)
    → Written start (out ++ line_text (add (slice_index ids k) clause (map (λ hint. pos (slice_index ids hint)) hints))) ids (k + 1) events
written_step start out ids k events clause hints w lti lt is =
    let line : ProofLine = add (slice_index ids k) clause (map (λ hint. pos (slice_index ids hint)) hints) in
    let others = step_lines ids (drop (k + 1) ids) (drop (k + 1) events) in
    record {
      text = append_assoc out (line_text line) (flat_map line_text others) ∙ ap (λ (t : List ℕ). out ++ t) (sym (flat_map-cons line_text line others))
          ∙ sym (ap (λ (ls : List ProofLine). out ++ flat_map line_text ls) (lines_left ids k events (step clause hints) lti lt is)) ∙ w.text;
    }

pub written_ends : (start out ids : List ℕ) (k : ℕ) (events : List LogEvent) → Written start out ids k events → length events ≤ k → length ids ≡ length events → out ≡ start ++ flat_map line_text (step_lines ids ids events)
written_ends start out ids k events w le len =
    let none : step_lines ids (drop k ids) (drop k events) ≡ [] = ap (λ (es : List LogEvent). step_lines ids (drop k ids) es) (drop_all k events le) in
    sym (append-nil out) ∙ sym (ap (λ (ls : List ProofLine). out ++ flat_map line_text ls) none) ∙ w.text

-- ---- the hints of a step are positions of earlier events

each_at : (P : List LogEvent → List Literal → List ℕ → Type 0) (earlier events : List LogEvent) (k : ℕ) (clause : List Literal) (hints : List ℕ) → EachStep P earlier events → k < length events
    → step clause hints ≡ get_or events k (step clause hints) → P (earlier ++ take k events) clause hints
each_at P earlier [] k clause hints h lt is = absurd (omega arith)
each_at P earlier (given c ∷ events) zero clause hints h lt is = absurd cc
each_at P earlier (step c hs ∷ events) zero clause hints h lt is =
    let first : clause ≡ c = cc in
    let second : hints ≡ hs = cc in
    subst (λ (es : List LogEvent). P es clause hints) (sym (append-nil earlier)) (rw (first, second) h.0)
each_at P earlier (given c ∷ events) (suc k) clause hints h lt is = subst (λ (es : List LogEvent). P es clause hints) (append_assoc earlier (given c ∷ []) (take k events)) (each_at P (earlier ++ given c ∷ []) events k clause hints h (omega arith) is)
each_at P earlier (step c hs ∷ events) (suc k) clause hints h lt is = subst (λ (es : List LogEvent). P es clause hints) (append_assoc earlier (step c hs ∷ []) (take k events)) (each_at P (earlier ++ step c hs ∷ []) events k clause hints h.1 (omega arith) is)

pub hints_there : (events : List LogEvent) (k size : ℕ) (clause : List Literal) (hints : List ℕ) → HintsAreEarlier events → k < length events → step clause hints ≡ get_or events k (step clause hints) → size ≡ length events
    → All (λ hint. hint < size) hints
hints_there events k size clause hints h lt is e =
    let there = each_at (λ earlier c hs. HintsAreThere earlier hs) [] events k clause hints h lt is in
    λ i d il. omega (arith, there i d il, length-take k events)

-- the event of a number, whatever stands for one that isn't there
pub item_is : (events : List LogEvent) (k : ℕ) (x : LogEvent) → k < length events → event_at events k ≡ x → x ≡ get_or events k x
item_is events k x lt is = sym is ∙ get_or_default events k (given []) x lt

-- the event of a number is this step, or this given
pub step_is : (events : List LogEvent) (k : ℕ) (clause : List Literal) (hints : List ℕ) → k < length events → event_at events k ≡ step (clause_of (event_at events k)) hints → clause ≡ clause_of (event_at events k)
    → step clause hints ≡ get_or events k (step clause hints)
step_is events k clause hints lt is same = item_is events k (step clause hints) lt (is ∙ ap (λ (cs : List Literal). step cs hints) (sym same))

pub given_is : (events : List LogEvent) (k : ℕ) → k < length events → event_at events k ≡ given (clause_of (event_at events k)) → given (clause_of (event_at events k)) ≡ get_or events k (given (clause_of (event_at events k)))
given_is events k lt is = item_is events k (given (clause_of (event_at events k))) lt is
