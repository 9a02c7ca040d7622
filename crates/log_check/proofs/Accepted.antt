-- The lines of a valid log are accepted.
use Rattle.std.proofs.Common.{◌≡◌, ℕ, suc, ◌+◌, ◌<◌, ◌≤◌, ◌⊎◌, inl, inr, ℤ, pos, Bool, true, false, ltb, eqb, ◌&&◌, List, [], ◌∷◌, ◌++◌, length, map, get_or, slice_index, Option, Some, None, refl, sym, ap, subst, ◌∙◌, append_assoc, length-append, arith}
use Rattle.std.specs.List.{list_all, list_any, AllByRecursion}
use Rattle.std.proofs.lemmas.Bool.{ltb-true, or_right}
use Rattle.std.proofs.lemmas.Bool.Decides.{nat_tests}
use Rattle.std.proofs.lemmas.List.{map-append, length-map, get_or_append_left}
use Rattle.std.proofs.lemmas.List.Elements.{recursion_from_All}
use Rattle.std.proofs.Math.Seq.{get_or-append_seam}
use Rattle.cnf_core.specs.Literal.{Literal}
use Rattle.cnf_core.specs.Events.{LogEvent, given, step, clause_of, clauses_of, givens, EachStep}
use Rattle.cnf_core.specs.Reading.{is_shown_by}
use Rattle.cnf_core.specs.Steps.{clauses_at, IsValidStep, IsValidLog}
use Rattle.cnf_core.specs.Lines.{ProofLine, add}
use Rattle.cnf_core.specs.LogLines.{ids_from, event_ids, step_lines, log_lines}
use Rattle.log_check.specs.Verdict.{Live, numbered_from, live_behind, live_clause, before_later, hinted_clauses, added_ids, is_valid_line, first_bad, is_empty_clause, adds_empty_clause, has_empty_clause, verdict_from, verdict_of}
use Rattle.log_check.specs.declared.Verdict.TheVariants.{Verified}
use Rattle.log_check.proofs.Ids.{all_push, added_push, live_push}

-- ---- lists

-- the clause behind some others in a formula
numbered_at : (n : ℕ) (before : List (List Literal)) (clause : List Literal) (after : List (List Literal)) → live_clause (numbered_from n (before ++ clause ∷ after)) (n + length before) ≡ Some clause
numbered_at n [] clause after = grind (arith, nat_tests)
numbered_at n (c ∷ before) clause after =
    let other : eqb (n + suc (length before)) n ≡ false = grind (arith, nat_tests) in
    let moved : n + suc (length before) ≡ (n + 1) + length before = omega arith in
    rw other (subst (λ (id : ℕ). live_clause (numbered_from (n + 1) (before ++ clause ∷ after)) id ≡ Some clause) (sym moved) (numbered_at (n + 1) before clause after))

all_below : (a b : ℕ) (xs : List ℕ) → a ≤ b → list_all (λ n. ltb n a) xs ≡ true → list_all (λ n. ltb n b) xs ≡ true
all_below a b [] le all = refl
all_below a b (x ∷ xs) le all =
    let parts = both (ltb x a) (list_all (λ n. ltb n a) xs) all in
    let lt : x < a = ltb-true x a parts.0 in
    let here : ltb x b ≡ true = grind (arith, nat_tests) in
    rw here (all_below a b xs le parts.1)
  where
    both : (p q : Bool) → (p && q) ≡ true → (p ≡ true) × (q ≡ true)
    both true q e = (refl, e)
    both false q e = absurd (let no : ⊥ = cc e in no)

givens_push : (earlier : List LogEvent) (clause : List Literal) (later : List (List Literal)) → givens (earlier ++ given clause ∷ []) ++ later ≡ givens earlier ++ clause ∷ later
givens_push [] clause later = refl
givens_push (given c ∷ earlier) clause later = ap (λ (cs : List (List Literal)). c ∷ cs) (givens_push earlier clause later)
givens_push (step c hs ∷ earlier) clause later = givens_push earlier clause later

givens_step : (earlier : List LogEvent) (clause : List Literal) (hints : List ℕ) → givens (earlier ++ step clause hints ∷ []) ≡ givens earlier
givens_step [] clause hints = refl
givens_step (given c ∷ earlier) clause hints = ap (λ (cs : List (List Literal)). c ∷ cs) (givens_step earlier clause hints)
givens_step (step c hs ∷ earlier) clause hints = givens_step earlier clause hints

length_givens : (earlier : List LogEvent) (clause : List Literal) → length (givens (earlier ++ given clause ∷ [])) ≡ length (givens earlier) + 1
length_givens [] clause = refl
length_givens (given c ∷ earlier) clause = omega (arith, length_givens earlier clause)
length_givens (step c hs ∷ earlier) clause = length_givens earlier clause

clauses_push : (earlier : List LogEvent) (e : LogEvent) → clauses_of (earlier ++ e ∷ []) ≡ clauses_of earlier ++ clause_of e ∷ []
clauses_push earlier e = map-append clause_of earlier (e ∷ [])

clause_before : (earlier : List LogEvent) (e : LogEvent) (h : ℕ) → h < length earlier → get_or (clauses_of (earlier ++ e ∷ [])) h [] ≡ get_or (clauses_of earlier) h []
clause_before earlier e h lt =
    ap (λ (cs : List (List Literal)). get_or cs h []) (clauses_push earlier e)
    ∙ get_or_append_left (clauses_of earlier) (clause_of e ∷ []) [] h (omega (arith, length-map earlier clause_of))

clause_last : (earlier : List LogEvent) (e : LogEvent) → get_or (clauses_of (earlier ++ e ∷ [])) (length earlier) [] ≡ clause_of e
clause_last earlier e =
    ap (λ (cs : List (List Literal)). get_or cs (length earlier) []) (clauses_push earlier e)
    ∙ ap (λ (n : ℕ). get_or (clauses_of earlier ++ clause_of e ∷ []) n []) (sym (length-map earlier clause_of))
    ∙ get_or-append_seam (clauses_of earlier) (clause_of e) [] []

-- ---- what stands behind the lines of earlier events

-- The clause of each earlier event is live under its id, and the next ids are larger than those that were used.
record Stands (formula : List (List Literal)) (ids : List ℕ) (given_id step_id : ℕ) (earlier later : List LogEvent) (lines : List ProofLine) : Type 0 where
  seen : List ℕ
  ids_are : ids ≡ seen ++ ids_from given_id step_id later
  seen_all : length seen ≡ length earlier
  formula_is : formula ≡ givens earlier ++ givens later
  next_given : given_id ≡ length (givens earlier) + 1
  over : length formula < step_id
  added : list_all (λ n. ltb n step_id) (added_ids lines) ≡ true
  below : (h : ℕ) → h < length earlier → get_or ids h 0 < step_id
  live : (h : ℕ) → h < length earlier → live_clause (live_behind formula lines) (get_or ids h 0) ≡ Some (get_or (clauses_of earlier) h [])
  kept : (id : ℕ) → id ≤ length formula → live_clause (live_behind formula lines) id ≡ live_clause (numbered_from 1 formula) id

-- what holds of the positions of earlier events, and of the last one
each_with_last : (P : ℕ → Type 0) (earlier : List LogEvent) (e : LogEvent) → ((h : ℕ) → h < length earlier → P h) → P (length earlier) → (h : ℕ) → h < length (earlier ++ e ∷ []) → P h
each_with_last P earlier e before last h lt =
    elim (below_or_last h (length earlier) (omega (arith, length-append earlier (e ∷ [])))) [
      | inl less ↦ before h less
      | inr same ↦ subst P (sym same) last
    ]
  where
    below_or_last : (h n : ℕ) → h < n + 1 → (h < n) ⊎ (h ≡ n)
    below_or_last h n lt = grind arith

next_id : (ids seen rest : List ℕ) (id n : ℕ) → ids ≡ seen ++ id ∷ rest → length seen ≡ n → get_or ids n 0 ≡ id
next_id ids seen rest id n is len =
    ap (λ (xs : List ℕ). get_or xs n 0) is ∙ ap (λ (k : ℕ). get_or (seen ++ id ∷ rest) k 0) (sym len) ∙ get_or-append_seam seen id rest 0

next_seen : (ids seen rest : List ℕ) (id : ℕ) → ids ≡ seen ++ id ∷ rest → ids ≡ (seen ++ id ∷ []) ++ rest
next_seen ids seen rest id is = is ∙ sym (append_assoc seen (id ∷ []) rest)

stands_given : (formula : List (List Literal)) (ids : List ℕ) (given_id step_id : ℕ) (earlier later : List LogEvent) (clause : List Literal) (lines : List ProofLine)
    → Stands formula ids given_id step_id earlier (given clause ∷ later) lines → Stands formula ids (given_id + 1) step_id (earlier ++ given clause ∷ []) later lines
stands_given formula ids given_id step_id earlier later clause lines s =
    let here : get_or ids (length earlier) 0 ≡ given_id = next_id ids s.seen (ids_from (given_id + 1) step_id later) given_id (length earlier) s.ids_are s.seen_all in
    let size : length formula ≡ length (givens earlier) + length (clause ∷ givens later) = ap length s.formula_is ∙ length-append (givens earlier) (clause ∷ givens later) in
    let within : given_id ≤ length formula = omega (arith, size, s.next_given) in
    let at : given_id ≡ 1 + length (givens earlier) = omega (arith, s.next_given) in
    let found : live_clause (numbered_from 1 formula) given_id ≡ Some clause
    = ap (λ (cs : List (List Literal)). live_clause (numbered_from 1 cs) given_id) s.formula_is
    ∙ ap (λ (id : ℕ). live_clause (numbered_from 1 (givens earlier ++ clause ∷ givens later)) id) at
    ∙ numbered_at 1 (givens earlier) clause (givens later) in
    record {
      seen = s.seen ++ given_id ∷ [];
      ids_are = next_seen ids s.seen (ids_from (given_id + 1) step_id later) given_id s.ids_are;
      seen_all = omega (arith, length-append s.seen (given_id ∷ []), length-append earlier (given clause ∷ []), s.seen_all);
      formula_is = s.formula_is ∙ sym (givens_push earlier clause (givens later));
      next_given = omega (arith, length_givens earlier clause, s.next_given);
      over = s.over;
      added = s.added;
      below = each_with_last (λ h. get_or ids h 0 < step_id) earlier (given clause) s.below (omega (arith, here, within, s.over));
      live = each_with_last (λ h. live_clause (live_behind formula lines) (get_or ids h 0) ≡ Some (get_or (clauses_of (earlier ++ given clause ∷ [])) h [])) earlier (given clause)
          (λ h lt. s.live h lt ∙ ap (λ (c : List Literal). Some c) (sym (clause_before earlier (given clause) h lt)))
          (ap (live_clause (live_behind formula lines)) here ∙ s.kept given_id within ∙ found ∙ ap (λ (c : List Literal). Some c) (sym (clause_last earlier (given clause))));
      kept = s.kept;
    }

-- a smaller id isn't that of the newest clause
under_newest : (id newest : ℕ) (clause : List Literal) (live : List Live) → id < newest → live_clause (record { id = newest; clause = clause } ∷ live) id ≡ live_clause live id
under_newest id newest clause live lt =
    let other : eqb id newest ≡ false = grind (arith, nat_tests) in
    rw other refl

newest : (id : ℕ) (clause : List Literal) (live : List Live) → live_clause (record { id = id; clause = clause } ∷ live) id ≡ Some clause
newest id clause live =
    let same : eqb id id ≡ true = grind (arith, nat_tests) in
    rw same refl

behind_push : (formula : List (List Literal)) (lines : List ProofLine) (id : ℕ) (clause : List Literal) (hints : List ℤ) → live_behind formula (lines ++ add id clause hints ∷ []) ≡ record { id = id; clause = clause } ∷ live_behind formula lines
behind_push formula lines id clause hints = live_push (numbered_from 1 formula) lines (add id clause hints)

stands_step : (formula : List (List Literal)) (ids : List ℕ) (given_id step_id : ℕ) (earlier later : List LogEvent) (clause : List Literal) (hints : List ℕ) (named : List ℤ) (lines : List ProofLine)
    → Stands formula ids given_id step_id earlier (step clause hints ∷ later) lines → Stands formula ids given_id (step_id + 1) (earlier ++ step clause hints ∷ []) later (lines ++ add step_id clause named ∷ [])
stands_step formula ids given_id step_id earlier later clause hints named lines s =
    let here : get_or ids (length earlier) 0 ≡ step_id = next_id ids s.seen (ids_from given_id (step_id + 1) later) step_id (length earlier) s.ids_are s.seen_all in
    let live = live_behind formula lines in
    let behind : (id : ℕ) → live_clause (live_behind formula (lines ++ add step_id clause named ∷ [])) id ≡ live_clause (record { id = step_id; clause = clause } ∷ live) id
    = λ id. ap (λ (ls : List Live). live_clause ls id) (behind_push formula lines step_id clause named) in
    let last : ltb step_id (step_id + 1) ≡ true = grind (arith, nat_tests) in
    record {
      seen = s.seen ++ step_id ∷ [];
      ids_are = next_seen ids s.seen (ids_from given_id (step_id + 1) later) step_id s.ids_are;
      seen_all = omega (arith, length-append s.seen (step_id ∷ []), length-append earlier (step clause hints ∷ []), s.seen_all);
      formula_is = s.formula_is ∙ ap (λ (cs : List (List Literal)). cs ++ givens later) (sym (givens_step earlier clause hints));
      next_given = s.next_given ∙ ap (λ (cs : List (List Literal)). length cs + 1) (sym (givens_step earlier clause hints));
      over = omega (arith, s.over);
      added = ap (list_all (λ n. ltb n (step_id + 1))) (added_push lines step_id clause named) ∙ all_push (λ n. ltb n (step_id + 1)) (added_ids lines) step_id
          ∙ rw (all_below step_id (step_id + 1) (added_ids lines) (omega arith) s.added, last) refl;
      below = each_with_last (λ h. get_or ids h 0 < step_id + 1) earlier (step clause hints) (λ h lt. omega (arith, s.below h lt)) (omega (arith, here));
      live = each_with_last (λ h. live_clause (live_behind formula (lines ++ add step_id clause named ∷ [])) (get_or ids h 0) ≡ Some (get_or (clauses_of (earlier ++ step clause hints ∷ [])) h [])) earlier (step clause hints)
          (λ h lt. behind (get_or ids h 0) ∙ under_newest (get_or ids h 0) step_id clause live (s.below h lt) ∙ s.live h lt ∙ ap (λ (c : List Literal). Some c) (sym (clause_before earlier (step clause hints) h lt)))
          (behind (get_or ids (length earlier) 0) ∙ ap (live_clause (record { id = step_id; clause = clause } ∷ live)) here ∙ newest step_id clause live
          ∙ ap (λ (c : List Literal). Some c) (sym (clause_last earlier (step clause hints))));
      kept = λ id le. behind id ∙ under_newest id step_id clause live (omega (arith, le, s.over)) ∙ s.kept id le;
    }

-- ---- the hints of a step

named_clauses : (live : List Live) (ids hints : List ℕ) (earlier : List LogEvent) → ((h : ℕ) → h < length earlier → live_clause live (get_or ids h 0) ≡ Some (get_or (clauses_of earlier) h []))
    → AllByRecursion (λ h. h < length earlier) hints → hinted_clauses live (map (λ hint. pos (slice_index ids hint)) hints) ≡ clauses_at earlier hints
named_clauses live ids [] earlier each there = refl
named_clauses live ids (h ∷ hints) earlier each there =
    ap (λ (o : Option (List Literal)). before_later o (hinted_clauses live (map (λ hint. pos (slice_index ids hint)) hints))) (each h there.0)
    ∙ ap (λ (cs : List (List Literal)). get_or (clauses_of earlier) h [] ∷ cs) (named_clauses live ids hints earlier each there.1)

valid_line : (formula : List (List Literal)) (ids : List ℕ) (given_id step_id : ℕ) (earlier later : List LogEvent) (clause : List Literal) (hints : List ℕ) (lines : List ProofLine)
    → Stands formula ids given_id step_id earlier later lines → IsValidStep earlier clause hints → is_valid_line formula lines (add step_id clause (map (λ hint. pos (slice_index ids hint)) hints)) ≡ true
valid_line formula ids given_id step_id earlier later clause hints lines s valid =
    let over : ltb (length formula) step_id ≡ true = let lt = s.over in grind (arith, nat_tests) in
    let named = named_clauses (live_behind formula lines) ids hints earlier s.live (recursion_from_All (λ h. h < length earlier) hints valid.hints_are_there) in
    let shown : is_shown_by clause (hinted_clauses (live_behind formula lines) (map (λ hint. pos (slice_index ids hint)) hints)) ≡ true
    = ap (is_shown_by clause) named ∙ valid.shown in
    rw (over, s.added, shown) refl

-- ---- whole logs

accepted : (formula : List (List Literal)) (ids : List ℕ) (given_id step_id : ℕ) (earlier later : List LogEvent) (lines : List ProofLine)
    → Stands formula ids given_id step_id earlier later lines → EachStep IsValidStep earlier later → first_bad formula lines (step_lines ids (ids_from given_id step_id later) later) ≡ None
accepted formula ids given_id step_id earlier [] lines s valid = refl
accepted formula ids given_id step_id earlier (given clause ∷ later) lines s valid =
    accepted formula ids (given_id + 1) step_id (earlier ++ given clause ∷ []) later lines (stands_given formula ids given_id step_id earlier later clause lines s) valid
accepted formula ids given_id step_id earlier (step clause hints ∷ later) lines s valid =
    let named = map (λ hint. pos (slice_index ids hint)) hints in
    rw (valid_line formula ids given_id step_id earlier (step clause hints ∷ later) clause hints lines s valid.0)
    (accepted formula ids given_id (step_id + 1) (earlier ++ step clause hints ∷ []) later (lines ++ add step_id clause named ∷ [])
    (stands_step formula ids given_id step_id earlier later clause hints named lines s) valid.1)

none_below : (P : ℕ → Type 0) (h : ℕ) → h < 0 → P h
none_below P h lt = absurd (omega arith)

-- no line of a valid log is bad
pub no_line_is_bad : (events : List LogEvent) → IsValidLog events → first_bad (givens events) [] (log_lines events) ≡ None
no_line_is_bad events valid =
    accepted (givens events) (event_ids events) 1 (length (givens events) + 1) [] events []
    (record {
      seen = [];
      ids_are = refl;
      seen_all = refl;
      formula_is = refl;
      next_given = omega arith;
      over = omega arith;
      added = refl;
      below = none_below (λ h. get_or (event_ids events) h 0 < length (givens events) + 1);
      live = none_below (λ h. live_clause (live_behind (givens events) []) (get_or (event_ids events) h 0) ≡ Some (get_or (clauses_of []) h []));
      kept = λ id le. refl;
    })
    valid

ends_empty : (ids : List ℕ) (given_id step_id : ℕ) (before : List LogEvent) (hints : List ℕ) → list_any adds_empty_clause (step_lines ids (ids_from given_id step_id (before ++ step [] hints ∷ [])) (before ++ step [] hints ∷ [])) ≡ true
ends_empty ids given_id step_id [] hints = refl
ends_empty ids given_id step_id (given clause ∷ before) hints = ends_empty ids (given_id + 1) step_id before hints
ends_empty ids given_id step_id (step clause hs ∷ before) hints =
    or_right (is_empty_clause clause) _ (ends_empty ids given_id (step_id + 1) before hints)

-- a valid log that ends with the empty clause is verified
pub closed_is_verified : (before : List LogEvent) (hints : List ℕ) → IsValidLog (before ++ step [] hints ∷ []) → verdict_of (givens (before ++ step [] hints ∷ [])) (log_lines (before ++ step [] hints ∷ [])) ≡ Verified
closed_is_verified before hints valid =
    let events = before ++ step [] hints ∷ [] in
    let empty : has_empty_clause (givens events) (log_lines events) ≡ true
    = or_right (list_any is_empty_clause (givens events)) (list_any adds_empty_clause (log_lines events)) (ends_empty (event_ids events) 1 (length (givens events) + 1) before hints) in
    ap (λ (o : Option ℕ). verdict_from o (has_empty_clause (givens events) (log_lines events))) (no_line_is_bad events valid) ∙ ap (verdict_from None) empty
