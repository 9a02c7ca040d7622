-- A verified proof is read as a log, line by line.
use Rattle.std.proofs.Common.{◌≡◌, ℕ, suc, ◌+◌, ◌-◌, ◌<◌, inl, inr, ℤ, pos, negsuc, Bool, true, false, cond, ◌||◌, ltb, List, [], ◌∷◌, ◌++◌, length, get_or, Option, Some, None, refl, sym, ap, subst, ◌∙◌, arith, append_assoc}
use Rattle.std.specs.Prelude.{All, Contains, map, nat_eq, nat_lt}
use Rattle.std.specs.List.{list_all, list_any}
use Rattle.std.proofs.lemmas.Bool.{cases_lt, eqb-true, false≢true}
use Rattle.std.proofs.lemmas.List.{append-nil, length-append, length-map, length_push, get_or_append_left, get_or-append_right, get_or_push, map-append}
use Rattle.std.proofs.lemmas.List.Elements.{All-cons, All-contains, All-get_or, All-head, All-nil, All-push}
use Rattle.cnf_core.specs.Literal.{Literal, negation, IsClause, HaveSameLiterals}
use Rattle.cnf_core.proofs.Members.{All-from_contains, none_in_nil}
use Rattle.cnf_core.specs.Events.{LogEvent, LogState, given, step, clause_of, clauses_of, is_given, HintsAreThere}
use Rattle.cnf_core.specs.Lines.{ProofLine, add, delete}
use Rattle.cnf_core.specs.Reading.{is_false, not_false, trues_after, reading_succeeds, has_contradiction, is_shown_by}
use Rattle.cnf_core.specs.Steps.{clauses_at, IsValidStep, IsValidLog}
use Rattle.cnf_core.proofs.Events.{EachStep-step}
use Rattle.cnf_core.proofs.Following.{clauses_of-push}
use Rattle.log_check.specs.Verdict.{Live, numbered_from, live_after, live_behind, live_clause, hinted_clause, hinted_clauses, before_later, added_ids, is_valid_line, first_bad, is_empty_clause, adds_empty_clause, has_empty_clause, verdict_from, verdict_of}
use Rattle.log_check.specs.declared.Verdict.TheVariants.{Verified}
use Rattle.log_check.proofs.Ids.{added_push, added_push_delete, live_push}
use Rattle.sat_search.proofs.Continued.{sound_givens}
use Rattle.sat_split.specs.Cubes.{all_given}
use Rattle.sat_join.specs.Joins.{clause_at}
use Rattle.sat_join.proofs.Wider.{Mirrors, wide_shown}
use Rattle.sat_merge.specs.Proofs.{Ascend, AreIdPlaces, IsPlaceOf, IsProved, first_ids}
use Rattle.sat_merge.proofs.Named.{clauses-given, given_all}
use Rattle.sat_merge.proofs.Numbered.{all_below, and_left, and_right, choice, id_at, length_ids, live_before, none_empty, numbered_stands}

-- ---- events

clause_at-left : (events : List LogEvent) (e : LogEvent) (place : ℕ) → place < length events → clause_at (events ++ e ∷ []) place ≡ clause_at events place
clause_at-left events e place there =
    ap (λ (cs : List (List Literal)). get_or cs place []) (clauses_of-push events e)
    ∙ get_or_append_left (clauses_of events) (clause_of e ∷ []) [] place (omega (arith, there, length-map events clause_of))

clause_at-push : (events : List LogEvent) (e : LogEvent) (place : ℕ) → place ≡ length events → clause_at (events ++ e ∷ []) place ≡ clause_of e
clause_at-push events e place is =
    ap (λ (cs : List (List Literal)). get_or cs place []) (clauses_of-push events e)
    ∙ get_or_push (clauses_of events) (clause_of e) [] place (length-map events clause_of ∙ sym is)

-- ---- a reading of more clauses

or_more : (a b c : Bool) → (b ≡ true → c ≡ true) → (a || b) ≡ true → (a || c) ≡ true
or_more true b c more e = refl
or_more false b c more e = more e

-- what is read with success is so with more clauses behind it
reading_longer : (trues : List Literal) (clauses rest : List (List Literal)) → reading_succeeds trues clauses ≡ true → reading_succeeds trues (clauses ++ rest) ≡ true
reading_longer trues [] rest e = absurd (false≢true e)
reading_longer trues (clause ∷ clauses) rest e =
    or_more (list_all (is_false trues) clause) (reading_succeeds (trues_after trues (not_false trues clause)) clauses) (reading_succeeds (trues_after trues (not_false trues clause)) (clauses ++ rest))
    (reading_longer (trues_after trues (not_false trues clause)) clauses rest) e

shown_longer : (clause : List Literal) (clauses rest : List (List Literal)) → is_shown_by clause clauses ≡ true → is_shown_by clause (clauses ++ rest) ≡ true
shown_longer clause clauses rest =
    or_more (has_contradiction (map negation clause)) (reading_succeeds (map negation clause) clauses) (reading_succeeds (map negation clause) (clauses ++ rest))
    (reading_longer (map negation clause) clauses rest)

-- ---- lines that are read

-- So many lines of a proof are read: the events are a formula's clauses and valid steps, each with its id, whatever clause is live has an event
-- with none but its literals, and none of the lines adds the empty clause.
pub record IsRead (clauses : List (List Literal)) (read : List ProofLine) (ids : List ℕ) (events : List LogEvent) : Type 0 where
  pub steps : List LogEvent
  pub events_are : events ≡ all_given clauses ++ steps
  pub are_steps : All (λ e. is_given e ≡ false) steps
  pub valid : IsValidLog events
  pub are_clauses : All IsClause (clauses_of events)
  pub as_many : length ids ≡ length events
  pub ids_are : ids ≡ first_ids (length clauses) ++ added_ids read
  pub ascend : Ascend ids
  pub live : (id : ℕ) (clause : List Literal) → live_clause (live_behind clauses read) id ≡ Some clause → (place : ℕ) × IsPlaceOf ids (pos id) place × All (Contains clause) (clause_at events place)
  pub none_empty : list_any adds_empty_clause read ≡ false

pub read_none : (clauses : List (List Literal)) (ids : List ℕ) (log : LogState) → All IsClause clauses → ids ≡ first_ids (length clauses) → log ≡ record { events = all_given clauses; notes = []; base = 0 } → IsRead clauses [] ids log.events
read_none clauses ids log clauses_are are is =
    subst (λ (xs : List ℕ). IsRead clauses [] xs log.events) (sym are)
    (subst (λ (l : LogState). IsRead clauses [] (first_ids (length clauses)) l.events) (sym is) (record {
      steps = [];
      events_are = sym (append-nil (all_given clauses));
      are_steps = All-nil (λ e. is_given e ≡ false);
      valid = (sound_givens (all_given clauses) (given_all clauses)).valid;
      are_clauses = subst (All IsClause) (sym (clauses-given clauses)) clauses_are;
      as_many = omega (arith, length_ids 1 (length clauses), length-map clauses given);
      ids_are = sym (append-nil (first_ids (length clauses)));
      ascend = λ i j before below.
          let n = length clauses in
          let within : j < n = omega (arith, below, length_ids 1 n) in
          let low = id_at 1 n i (omega (arith, before, within)) in
          let high = id_at 1 n j within in
          omega (arith, before, low, high);
      live = λ id clause e.
          let found = numbered_stands 1 clauses id clause e in (
            found.0,
            record {
              there = omega (arith, found.1, length_ids 1 (length clauses));
              named = ap pos (id_at 1 (length clauses) found.0 found.1 ∙ sym found.2);
            },
            subst (All (Contains clause)) (sym (ap (λ (cs : List (List Literal)). get_or cs found.0 []) (clauses-given clauses) ∙ found.3)) (All-from_contains (Contains clause) clause (λ l there. there)),
          );
      none_empty = refl;
    }))

behind : (clauses : List (List Literal)) (read : List ProofLine) (line : ProofLine) → live_behind clauses (read ++ line ∷ []) ≡ live_after (live_behind clauses read) line
behind clauses read line = live_push (numbered_from 1 clauses) read line

-- a line that deletes changes nothing
pub read_delete : (clauses : List (List Literal)) (read : List ProofLine) (ids : List ℕ) (events : List LogEvent) (gone : List ℕ) → IsRead clauses read ids events → IsRead clauses (read ++ delete gone ∷ []) ids events
read_delete clauses read ids events gone h = record {
  steps = h.steps;
  events_are = h.events_are;
  are_steps = h.are_steps;
  valid = h.valid;
  are_clauses = h.are_clauses;
  as_many = h.as_many;
  ids_are = h.ids_are ∙ ap (λ (xs : List ℕ). first_ids (length clauses) ++ xs) (sym (added_push_delete read gone));
  ascend = h.ascend;
  live = λ id clause e.
      h.live id clause (live_before gone (live_behind clauses read) id clause (subst (λ (live : List Live). live_clause live id ≡ Some clause) (behind clauses read (delete gone)) e));
  none_empty = none_empty read (delete gone) h.none_empty refl;
}

-- a clause without another's literals
pub nil_is : (clause : List Literal) → HaveSameLiterals clause [] → clause ≡ []
nil_is [] same = refl
nil_is (l ∷ clause) same = absurd (none_in_nil l (All-head (Contains []) l clause same.from_first))

-- ---- hints

one_place : (ids : List ℕ) (hint : ℤ) (one other : ℕ) → Ascend ids → IsPlaceOf ids hint one → IsPlaceOf ids hint other → one ≡ other
one_place ids hint one other ascend first second =
    let same : get_or ids one 0 ≡ get_or ids other 0 = of_pos (get_or ids one 0) (get_or ids other 0) (first.named ∙ sym second.named) in
    elim (cases_lt one other) [
      | inl below ↦ absurd (let lt = ascend one other below second.there in omega (arith, lt, same))
      | inr from ↦ elim (cases_lt other one) [
        | inl below ↦ absurd (let lt = ascend other one below first.there in omega (arith, lt, same))
        | inr back ↦ omega (arith, from, back)
      ]
    ]
  where
    of_pos : (m n : ℕ) → pos m ≡ pos n → m ≡ n
    of_pos m n e = cc e

module _ (clauses : List (List Literal)) (read : List ProofLine) (ids : List ℕ) (events : List LogEvent) (h : IsRead clauses read ids events) where
  -- the clause that a hint names has its event
  hinted : (hint : ℤ) (clause : List Literal) → hinted_clause (live_behind clauses read) hint ≡ Some clause → (place : ℕ) × IsPlaceOf ids hint place × All (Contains clause) (clause_at events place)
  hinted (pos id) clause e = h.live id clause e
  hinted (negsuc n) clause e = absurd (let no : ⊥ = cc e in no)

  -- the places are there, and the clauses at them begin with such that have none but the literals of those that the hints name
  record Begins (hints : List ℤ) (places : List ℕ) : Type 0 where
    there : HintsAreThere events places
    front : List (List Literal)
    rest : List (List Literal)
    are : clauses_at events places ≡ front ++ rest
    mirrors : Mirrors [] (hinted_clauses (live_behind clauses read) hints) front

  begins : (hints : List ℤ) (places : List ℕ) → AreIdPlaces ids hints places → Begins hints places
  begins [] places is = subst (Begins []) (sym is) (record { there = All-nil (λ (p : ℕ). p < length events); front = []; rest = []; are = refl; mirrors = refl })
  begins (hint ∷ hints) places (inl none) =
      subst (Begins (hint ∷ hints)) (sym none.1) (record {
        there = All-nil (λ (p : ℕ). p < length events);
        front = [];
        rest = [];
        are = refl;
        mirrors = nothing (hinted_clause (live_behind clauses read) hint) refl;
      })
    where
      nothing : (found : Option (List Literal)) → hinted_clause (live_behind clauses read) hint ≡ found → Mirrors [] (before_later found (hinted_clauses (live_behind clauses read) hints)) []
      nothing None e = refl
      nothing (Some clause) e = let it = hinted hint clause e in absurd (none.0 it.0 it.1)
  begins (hint ∷ hints) places (inr here) =
      subst (Begins (hint ∷ hints)) (sym here.2) (chosen (hinted_clause (live_behind clauses read) hint) refl (begins hints here.1 here.4))
    where
      below : here.0 < length events
      below = omega (arith, here.3.there, h.as_many)

      stands : HintsAreThere events here.1 → HintsAreThere events (here.0 ∷ here.1)
      stands all = All-cons (λ (p : ℕ). p < length events) here.0 here.1 below all

      chosen : (found : Option (List Literal)) → hinted_clause (live_behind clauses read) hint ≡ found → Begins hints here.1 → Begins (hint ∷ hints) (here.0 ∷ here.1)
      chosen None e later = record {
        there = stands later.there;
        front = [];
        rest = clauses_at events (here.0 ∷ here.1);
        are = refl;
        mirrors = subst (λ (o : Option (List Literal)). Mirrors [] (before_later o (hinted_clauses (live_behind clauses read) hints)) []) (sym e) refl;
      }
      chosen (Some clause) e later =
          let it = hinted hint clause e in
          let same : it.0 ≡ here.0 = one_place ids hint it.0 here.0 h.ascend it.1 here.3 in
          let is_clause : IsClause (clause_at events here.0) = All-get_or IsClause (clauses_of events) here.0 [] (omega (arith, below, length-map events clause_of)) h.are_clauses in
          record {
            there = stands later.there;
            front = clause_at events here.0 ∷ later.front;
            rest = later.rest;
            are = ap (λ (cs : List (List Literal)). clause_at events here.0 ∷ cs) later.are;
            mirrors = subst (λ (o : Option (List Literal)). Mirrors [] (before_later o (hinted_clauses (live_behind clauses read) hints)) (clause_at events here.0 ∷ later.front)) (sym e)
                (inr (
                  clause_at events here.0,
                  later.front,
                  refl,
                  is_clause.ordered,
                  λ l found. inl (All-contains (Contains clause) (clause_at events here.0) l (subst (λ (place : ℕ). All (Contains clause) (clause_at events place)) same it.2) found),
                  later.mirrors,
                ));
          }

  pub hints_there : (hints : List ℤ) (places : List ℕ) → AreIdPlaces ids hints places → HintsAreThere events places
  hints_there hints places are = (begins hints places are).there

  -- a valid line's step is valid, by whatever clause has the same literals
  pub step_valid : (id : ℕ) (clause wide : List Literal) (hints : List ℤ) (places : List ℕ) → is_valid_line clauses read (add id clause hints) ≡ true → HaveSameLiterals wide clause → AreIdPlaces ids hints places → IsValidStep events wide places
  step_valid id clause wide hints places line same are =
      let it = begins hints places are in
      record {
        hints_are_there = it.there;
        shown = subst (λ (cs : List (List Literal)). is_shown_by wide cs ≡ true) (sym it.are)
            (shown_longer wide it.front it.rest
            (wide_shown [] clause wide (hinted_clauses (live_behind clauses read) hints) it.front it.mirrors same
            (and_right (list_all (λ n. nat_lt n id) (length clauses ∷ added_ids read)) (is_shown_by clause (hinted_clauses (live_behind clauses read) hints)) line)));
      }

  greater : (id : ℕ) (clause : List Literal) (hints : List ℤ) → is_valid_line clauses read (add id clause hints) ≡ true → (k : ℕ) → k < length ids → get_or ids k 0 < id
  greater id clause hints line k below =
      let all : list_all (λ n. ltb n id) (length clauses ∷ added_ids read) ≡ true =
      and_left (list_all (λ n. nat_lt n id) (length clauses ∷ added_ids read)) (is_shown_by clause (hinted_clauses (live_behind clauses read) hints)) line in
      let n = length clauses in
      let most : n < id = all_below id (n ∷ added_ids read) all 0 (omega arith) in
      let count = length_ids 1 n in
      let all_ids = length-append (first_ids n) (added_ids read) in
      let long : length ids ≡ length (first_ids n ++ added_ids read) = ap (λ (xs : List ℕ). length xs) h.ids_are in
      subst (λ (x : ℕ). x < id) (sym (ap (λ (xs : List ℕ). get_or xs k 0) h.ids_are)) (elim (cases_lt k (length (first_ids n))) [
        | inl first ↦
            let low : k < n = omega (arith, first, count) in
            let at = get_or_append_left (first_ids n) (added_ids read) 0 k first in
            let value = id_at 1 n k low in
            omega (arith, at, value, low, most)
        | inr later ↦
            let at = get_or-append_right (first_ids n) (added_ids read) (length (first_ids n)) k 0 refl later in
            let under : get_or (n ∷ added_ids read) (k - length (first_ids n) + 1) 0 < id = all_below id (n ∷ added_ids read) all (k - length (first_ids n) + 1) (omega (arith, below, long, all_ids, later)) in
            subst (λ (x : ℕ). x < id) (sym at) (subst (λ (m : ℕ). get_or (n ∷ added_ids read) m 0 < id) (let next : k - length (first_ids n) + 1 ≡ suc (k - length (first_ids n)) = omega arith in next) under)
      ])

  -- one more line adds its clause
  pub read_add : (id : ℕ) (clause wide : List Literal) (hints : List ℤ) (places : List ℕ) → is_valid_line clauses read (add id clause hints) ≡ true → IsClause wide → HaveSameLiterals wide clause → AreIdPlaces ids hints places → is_empty_clause clause ≡ false
      → IsRead clauses (read ++ add id clause hints ∷ []) (ids ++ id ∷ []) (events ++ step wide places ∷ [])
  read_add id clause wide hints places line is_clause same are some = record {
    steps = h.steps ++ step wide places ∷ [];
    events_are = ap (λ (es : List LogEvent). es ++ step wide places ∷ []) h.events_are ∙ append_assoc (all_given clauses) h.steps (step wide places ∷ []);
    are_steps = All-push (λ e. is_given e ≡ false) h.steps (step wide places) h.are_steps refl;
    valid = EachStep-step IsValidStep [] events wide places h.valid (step_valid id clause wide hints places line same are);
    are_clauses = subst (All IsClause) (sym (clauses_of-push events (step wide places))) (All-push IsClause (clauses_of events) wide h.are_clauses is_clause);
    as_many = omega (arith, h.as_many, length_push ids id, length_push events (step wide places));
    ids_are = ap (λ (xs : List ℕ). xs ++ id ∷ []) h.ids_are ∙ append_assoc (first_ids (length clauses)) (added_ids read) (id ∷ []) ∙ ap (λ (xs : List ℕ). first_ids (length clauses) ++ xs) (sym (added_push read id clause hints));
    ascend = λ i j before below. elim (cases_lt j (length ids)) [
      | inl old ↦
          let low = get_or_append_left ids (id ∷ []) 0 i (omega (arith, before, old)) in
          let high = get_or_append_left ids (id ∷ []) 0 j old in
          let lt = h.ascend i j before old in
          omega (arith, low, high, lt)
      | inr new ↦
          let here : length ids ≡ j = omega (arith, new, below, length_push ids id) in
          let inside : i < length ids = omega (arith, before, here) in
          let low = get_or_append_left ids (id ∷ []) 0 i inside in
          let high = get_or_push ids id 0 j here in
          let lt = greater id clause hints line i inside in
          omega (arith, low, high, lt)
    ];
    live = λ other c e.
        let now = subst (λ (live : List Live). live_clause live other ≡ Some c) (behind clauses read (add id clause hints)) e in
        elim (choice (nat_eq other id) clause c (live_clause (live_behind clauses read) other) now) [
          | inl here ↦ (
            length ids,
            record {
              there = omega (arith, length_push ids id);
              named = ap pos (get_or_push ids id 0 (length ids) refl ∙ sym (eqb-true other id here.0));
            },
            subst (All (Contains c)) (sym (clause_at-push events (step wide places) (length ids) h.as_many)) (subst (λ (x : List Literal). All (Contains x) wide) here.1 same.from_first),
          )
          | inr before ↦
              let it = h.live other c before.1 in (
                it.0,
                record {
                  there = omega (arith, it.1.there, length_push ids id);
                  named = ap pos (get_or_append_left ids (id ∷ []) 0 it.0 it.1.there) ∙ it.1.named;
                },
                subst (All (Contains c)) (sym (clause_at-left events (step wide places) it.0 (omega (arith, it.1.there, h.as_many)))) it.2,
              )
        ];
    none_empty = none_empty read (add id clause hints) h.none_empty some;
  }

  -- the empty step ends the log
  pub ended : (places : List ℕ) → IsValidStep events [] places → IsProved clauses (events ++ step [] places ∷ [])
  ended places valid = record {
    steps = h.steps ++ step [] places ∷ [];
    events_are = ap (λ (es : List LogEvent). es ++ step [] places ∷ []) h.events_are ∙ append_assoc (all_given clauses) h.steps (step [] places ∷ []);
    are_steps = All-push (λ e. is_given e ≡ false) h.steps (step [] places) h.are_steps refl;
    valid = EachStep-step IsValidStep [] events [] places h.valid valid;
    ends = record { before = events; hints = places; events_are = refl };
  }

  -- a line that adds the empty clause gives it
  pub read_empty : (id : ℕ) (wide : List Literal) (hints : List ℤ) (places : List ℕ) → is_valid_line clauses read (add id [] hints) ≡ true → HaveSameLiterals wide [] → AreIdPlaces ids hints places → IsProved clauses (events ++ step wide places ∷ [])
  read_empty id wide hints places line same are =
      subst (λ (c : List Literal). IsProved clauses (events ++ step c places ∷ [])) (sym (nil_is wide same))
      (ended places (subst (λ (c : List Literal). IsValidStep events c places) (nil_is wide same) (step_valid id [] wide hints places line same are)))

  -- an empty clause of the formula does, too
  pub given_empty : (place : ℕ) → place < length clauses → get_or clauses place [] ≡ [] → IsProved clauses (events ++ step [] (place ∷ []) ∷ [])
  given_empty place below is = ended (place ∷ []) (record {
    hints_are_there = All-cons (λ (p : ℕ). p < length events) place [] (omega (arith, below, ap (λ (es : List LogEvent). length es) h.events_are, length-append (all_given clauses) h.steps, length-map clauses given)) (All-nil (λ (p : ℕ). p < length events));
    shown = subst (λ (c : List Literal). is_shown_by [] (c ∷ []) ≡ true) (sym (here ∙ is)) refl;
  })
    where
      here : clause_at events place ≡ get_or clauses place []
      here =
          ap (λ (es : List LogEvent). clause_at es place) h.events_are
          ∙ ap (λ (cs : List (List Literal)). get_or cs place []) (map-append clause_of (all_given clauses) h.steps ∙ ap (λ (cs : List (List Literal)). cs ++ clauses_of h.steps) (clauses-given clauses))
          ∙ get_or_append_left clauses (clauses_of h.steps) [] place below

-- ---- a verified proof

verified_cases : (found : Option ℕ) (empty : Bool) → verdict_from found empty ≡ Verified → (found ≡ None) × (empty ≡ true)
verified_cases (Some line) empty e = absurd (let no : ⊥ = cc e in no)
verified_cases None true e = (refl, refl)
verified_cases None false e = absurd (let no : ⊥ = cc e in no)

valid_first : (b : Bool) (rest : Option ℕ) (n : ℕ) → cond b rest (Some n) ≡ None → (b ≡ true) × (rest ≡ None)
valid_first true rest n e = (refl, e)
valid_first false rest n e = absurd (let no : ⊥ = cc e in no)

line_valid : (clauses : List (List Literal)) (earlier before : List ProofLine) (line : ProofLine) (after : List ProofLine) → first_bad clauses earlier (before ++ line ∷ after) ≡ None → is_valid_line clauses (earlier ++ before) line ≡ true
line_valid clauses earlier [] line after e =
    subst (λ (es : List ProofLine). is_valid_line clauses es line ≡ true) (sym (append-nil earlier))
    (valid_first (is_valid_line clauses earlier line) (first_bad clauses (earlier ++ line ∷ []) after) (length earlier + 1) e).0
line_valid clauses earlier (b ∷ before) line after e =
    subst (λ (es : List ProofLine). is_valid_line clauses es line ≡ true) (append_assoc earlier (b ∷ []) before)
    (line_valid clauses (earlier ++ b ∷ []) before line after (valid_first (is_valid_line clauses earlier b) (first_bad clauses (earlier ++ b ∷ []) (before ++ line ∷ after)) (length earlier + 1) e).1)

-- each line of a verified proof is valid behind those before it
pub verified_line : (clauses : List (List Literal)) (lines before : List ProofLine) (line : ProofLine) (after : List ProofLine) → verdict_of clauses lines ≡ Verified → lines ≡ before ++ line ∷ after → is_valid_line clauses before line ≡ true
verified_line clauses lines before line after e is =
    line_valid clauses [] before line after (subst (λ (ls : List ProofLine). first_bad clauses [] ls ≡ None) is (verified_cases (first_bad clauses [] lines) (has_empty_clause clauses lines) e).0)

-- where no line adds the empty clause, the formula has it
pub formula_empty : (clauses : List (List Literal)) (lines : List ProofLine) → verdict_of clauses lines ≡ Verified → list_any adds_empty_clause lines ≡ false → list_any is_empty_clause clauses ≡ true
formula_empty clauses lines e none =
    left (list_any is_empty_clause clauses) (list_any adds_empty_clause lines) (verified_cases (first_bad clauses [] lines) (has_empty_clause clauses lines) e).1 none
  where
    left : (a b : Bool) → (a || b) ≡ true → b ≡ false → a ≡ true
    left true b both off = refl
    left false b both off = absurd (false≢true (sym off ∙ both))
