-- The first bad line of a part, and of parts that stand in order.
use Rattle.std.proofs.Common.{◌≡◌, ◌⊎◌, inl, inr, ℕ, ℤ, suc, zero, ◌+◌, ◌*◌, ◌/◌, ◌%◌, ◌<◌, ◌≤◌, min, Bool, true, false, cond, ◌||◌, eqb, ltb, List, [], ◌∷◌, ◌++◌, length, take, drop, get_or, Option, Some, None, Result, Ok, Err, IfOk, is_some, refl, sym, ap, subst, ◌∙◌, append_assoc, length-append, arith}
use Rattle.std.specs.List.{list_any}
use Rattle.std.specs.Borrow.{Bor}
use Rattle.std.specs.Fork.{IsChunk}
use Rattle.std.proofs.lemmas.Bool.{ltb-true}
use Rattle.std.proofs.lemmas.Bool.Decides.{nat_tests}
use Rattle.std.proofs.lemmas.List.{append-nil, take_all, take_at, take_more, drop_all, drop-drop, take-append-drop, length-take-le, length-drop, length-map, get_or_at, take-map}
use Rattle.std.proofs.Math.Seq.{drop-cons}
use Rattle.std.proofs.lemmas.Nat.{div-add-mod', mod_below}
use native.Mathlib.Nat.{add-mul, one-mul, zero-mul}
use Rattle.ep_base.specs.declared.errors.Memory.{Memory}
use Rattle.cnf_core.specs.Literal.{Literal}
use Rattle.cnf_core.specs.Reading.{is_shown_by}
use Rattle.cnf_core.specs.Lines.{ProofLine, add, delete}
use Rattle.sat_proof.specs.Lines.{FlatProof, row_line, row_lines}
use Rattle.sat_proof.specs.declared.proof.Row.{Row}
use Rattle.log_check.specs.Kept.{KeepsLive, is_accepted}
use Rattle.log_check.specs.Lives.{life_of, EndsThose}
use Rattle.log_check.specs.Parts.{TellsFirst, TellsLives, FindsBad, first_found, has_new_id}
use Rattle.log_check.specs.Verdict.{Live, live_behind, hinted_clauses, is_valid_line, first_bad, is_empty_clause, adds_empty_clause, verdict_from, verdict_of}
use Rattle.log_check.specs.declared.calendar.Calendar.{Calendar}
use Rattle.log_check.specs.declared.calendar.Lives.{Lives}
use Rattle.log_check.proofs.Calendars.{tells_added, tells_deleted, tells_all}
use Rattle.log_check.proofs.Ids.{and_left}
use Rattle.log_check.proofs.Lives.{list_any_map}
use Rattle.log_check.proofs.Trues.{bool_cases}

module _ (proof : FlatProof) where
  -- ---- lines as they lie in memory

  rows_append : (xs ys : List Row) → row_lines proof (xs ++ ys) ≡ row_lines proof xs ++ row_lines proof ys
  rows_append [] ys = refl
  rows_append (x ∷ xs) ys = ap (λ (ls : List ProofLine). row_line proof x ∷ ls) (rows_append xs ys)

  pub rows_taken : (lines : List Row) (k : ℕ) (x : Row) → k < length lines → x ≡ get_or lines k x → row_lines proof (take (k + 1) lines) ≡ row_lines proof (take k lines) ++ row_line proof x ∷ []
  rows_taken lines k x lt is =
      let more : take (k + 1) lines ≡ take k lines ++ x ∷ [] = grind (arith, take_more) in
      ap (row_lines proof) more ∙ rows_append (take k lines) (x ∷ [])

  rows_left : (lines : List Row) (k : ℕ) (x : Row) → k < length lines → x ≡ get_or lines k x → row_lines proof (drop k lines) ≡ row_line proof x ∷ row_lines proof (drop (k + 1) lines)
  rows_left lines k x lt is =
      let next : drop k lines ≡ x ∷ drop (k + 1) lines = grind (arith, drop-cons) in
      ap (row_lines proof) next

  rows_split : (lines : List Row) (k : ℕ) → row_lines proof (take k lines) ++ row_lines proof (drop k lines) ≡ row_lines proof lines
  rows_split lines k = sym (rows_append (take k lines) (drop k lines)) ∙ ap (row_lines proof) (take-append-drop k lines)

  length_taken : (lines : List Row) (k : ℕ) → k ≤ length lines → length (row_lines proof (take k lines)) ≡ k
  length_taken lines k le = omega (arith, length-map (take k lines) (row_line proof), length-take-le k lines le)

  get_plain : (lines : List Row) (k : ℕ) (x : Row) (d : ProofLine) → k < length lines → x ≡ get_or lines k x → get_or (row_lines proof lines) k d ≡ row_line proof x
  get_plain [] k x d lt is = absurd (omega arith)
  get_plain (y ∷ lines) zero x d lt is = sym (ap (row_line proof) is)
  get_plain (y ∷ lines) (suc k) x d lt is = get_plain lines k x d (omega arith) is

  -- ---- what is noted of a line

  pub line_added : (old new : Lives) (newest last id : ℕ) (clause : Bor (List Literal)) (formula : List (List Literal)) (lines : List Row) (k : ℕ) (x : Row) (hints : List ℤ) → k < length lines → x ≡ get_or lines k x
      → row_line proof x ≡ add id clause.now hints → TellsFirst old newest last formula (row_lines proof (take k lines)) → newest < id
      → ((q : ℕ) → life_of new q ≡ cond (eqb id q) (Some (record { clause = clause; from = k + 1; until = last })) (life_of old q))
      → TellsFirst new id last formula (row_lines proof (take (k + 1) lines))
  line_added old new newest last id clause formula lines k x hints lt is adds h above step =
      let earlier = row_lines proof (take k lines) in
      let len : k ≡ length earlier = sym (length_taken lines k (omega arith)) in
      let step' = subst (λ (n : ℕ). (q : ℕ) → life_of new q ≡ cond (eqb id q) (Some (record { clause = clause; from = n + 1; until = last })) (life_of old q)) len step in
      subst (TellsFirst new id last formula) (ap (λ (l : ProofLine). earlier ++ l ∷ []) (sym adds) ∙ sym (rows_taken lines k x lt is))
      (tells_added old new newest last id clause formula earlier hints h above step')

  pub line_deleted : (old new : Lives) (newest last : ℕ) (formula : List (List Literal)) (lines : List Row) (k : ℕ) (x : Row) (ids : List ℕ) → k < length lines → x ≡ get_or lines k x
      → row_line proof x ≡ delete ids → TellsFirst old newest last formula (row_lines proof (take k lines)) → EndsThose ids k old new
      → TellsFirst new newest last formula (row_lines proof (take (k + 1) lines))
  line_deleted old new newest last formula lines k x ids lt is deletes h step =
      let earlier = row_lines proof (take k lines) in
      let len : k ≡ length earlier = sym (length_taken lines k (omega arith)) in
      subst (TellsFirst new newest last formula) (ap (λ (l : ProofLine). earlier ++ l ∷ []) (sym deletes) ∙ sym (rows_taken lines k x lt is))
      (tells_deleted old new newest last formula earlier ids h (subst (λ (n : ℕ). EndsThose ids n old new) len step))

  -- an id that isn't new
  pub line_stops : (lives : Lives) (newest id : ℕ) (clause : List Literal) (formula : List (List Literal)) (lines : List Row) (k : ℕ) (x : Row) (hints : List ℤ) → k < length lines → x ≡ get_or lines k x
      → row_line proof x ≡ add id clause hints → TellsFirst lives newest (length lines) formula (row_lines proof (take k lines)) → id ≤ newest
      → TellsLives (record { lives = lives; ordered = k }) formula (row_lines proof lines)
  line_stops lives newest id clause formula lines k x hints lt is adds h low =
      let long : length (row_lines proof lines) ≡ length lines = length-map lines (row_line proof) in
      let cut : row_lines proof (take k lines) ≡ take k (row_lines proof lines) = sym (take-map (row_line proof) k lines) in
      let here : TellsFirst lives newest (length lines) formula (take k (row_lines proof lines)) = subst (TellsFirst lives newest (length lines) formula) cut h in
      tells_all lives newest (length lines) formula (row_lines proof lines) k here (omega arith) (sym long)
      (λ line below same.
      let it : line ≡ add id clause hints = same ∙ get_plain lines k x line lt is ∙ adds in
      let old : ltb newest id ≡ false = grind (arith, nat_tests) in
      ap (has_new_id formula (take k (row_lines proof lines))) it ∙ here.newest_id id ∙ old)

  -- all ids are new
  pub line_ends : (lives : Lives) (newest : ℕ) (formula : List (List Literal)) (lines : List Row) (k : ℕ) → length lines ≤ k
      → TellsFirst lives newest (length lines) formula (row_lines proof (take k lines)) → TellsLives (record { lives = lives; ordered = length lines }) formula (row_lines proof lines)
  line_ends lives newest formula lines k le h =
      let long : length (row_lines proof lines) ≡ length lines = length-map lines (row_line proof) in
      let all : row_lines proof (take k lines) ≡ take (length lines) (row_lines proof lines) = ap (row_lines proof) (take_all k lines le) ∙ sym (take_all (length lines) (row_lines proof lines) (omega arith)) in
      tells_all lives newest (length lines) formula (row_lines proof lines) (length lines) (subst (TellsFirst lives newest (length lines) formula) all h) (omega arith) (sym long) (λ line below same. absurd (omega arith))

  -- ---- one line

  -- what is accepted where earlier lines left these clauses live is what is valid
  accepted_is : (formula : List (List Literal)) (earlier : List ProofLine) (line : ProofLine) → is_accepted (has_new_id formula earlier line) (live_behind formula earlier) line ≡ is_valid_line formula earlier line
  accepted_is formula earlier (add id clause hints) = refl
  accepted_is formula earlier (delete ids) = refl

  new_where_valid : (formula : List (List Literal)) (earlier : List ProofLine) (line : ProofLine) → is_valid_line formula earlier line ≡ true → has_new_id formula earlier line ≡ true
  new_where_valid formula earlier (add id clause hints) e = and_left (has_new_id formula earlier (add id clause hints)) (is_shown_by clause (hinted_clauses (live_behind formula earlier) hints)) e
  new_where_valid formula earlier (delete ids) e = refl

  -- what a calendar tells where lines are cut
  at_cut : (calendar : Calendar) (formula : List (List Literal)) (lines earlier : List ProofLine) (line : ProofLine) (later : List ProofLine) (k : ℕ)
      → TellsLives calendar formula lines → lines ≡ earlier ++ line ∷ later → length earlier ≡ k → k ≤ calendar.ordered
      → KeepsLive calendar.lives k (live_behind formula earlier) × (has_new_id formula earlier line ≡ ltb k calendar.ordered)
  at_cut calendar formula lines earlier line later k tells cut len le =
      let here : TellsLives calendar formula (earlier ++ line ∷ later) = subst (TellsLives calendar formula) cut tells in
      let before : take k (earlier ++ line ∷ later) ≡ earlier = take_at earlier (line ∷ later) k len in
      let inside : k < length (earlier ++ line ∷ later) = omega (arith, length-append earlier (line ∷ later)) in (
        subst (λ (ls : List ProofLine). KeepsLive calendar.lives k (live_behind formula ls)) before (here.live k le inside),
        sym (ap (λ (ls : List ProofLine). has_new_id formula ls line) before) ∙ here.new k line le inside (sym (get_or_at earlier line later line k len)),
      )

  -- ---- a part

  -- The first lines of a part are valid: the first bad one is one of those that are left.
  pub record GoesOn (calendar : Calendar) (formula : List (List Literal)) (before : List ProofLine) (start : ℕ) (part : List Row) (k : ℕ) : Type 0 where
    pub same : first_bad formula before (row_lines proof part) ≡ first_bad formula (before ++ row_lines proof (take k part)) (row_lines proof (drop k part))
    pub within : start + k ≤ calendar.ordered

  -- for each formula, and whatever stands around the part
  abbrev pub PartGoesOn : Calendar → ℕ → List Row → ℕ → Type 0
  PartGoesOn calendar start part k =
      (formula : List (List Literal)) (before after : List ProofLine)
      → TellsLives calendar formula ((before ++ row_lines proof part) ++ after) → length before ≡ start → start ≤ calendar.ordered
      → GoesOn calendar formula before start part k

  pub part_begins : (calendar : Calendar) (start : ℕ) (part : List Row) → PartGoesOn calendar start part 0
  part_begins calendar start part formula before after tells len le = record {
    same = ap (λ (ls : List ProofLine). first_bad formula ls (row_lines proof part)) (sym (append-nil before));
    within = omega arith;
  }

  -- the place of a line in the whole
  cut_there : (before after : List ProofLine) (part : List Row) (k : ℕ) (x : Row) → k < length part → x ≡ get_or part k x
      → (before ++ row_lines proof part) ++ after ≡ (before ++ row_lines proof (take k part)) ++ row_line proof x ∷ (row_lines proof (drop (k + 1) part) ++ after)
  cut_there before after part k x lt is =
      let parts : row_lines proof part ≡ row_lines proof (take k part) ++ row_line proof x ∷ row_lines proof (drop (k + 1) part)
      = sym (rows_split part k) ∙ ap (λ (ls : List ProofLine). row_lines proof (take k part) ++ ls) (rows_left part k x lt is) in
      append_assoc before (row_lines proof part) after
      ∙ ap (λ (ls : List ProofLine). before ++ (ls ++ after)) parts
      ∙ ap (λ (ls : List ProofLine). before ++ ls) (append_assoc (row_lines proof (take k part)) (row_line proof x ∷ row_lines proof (drop (k + 1) part)) after)
      ∙ sym (append_assoc before (row_lines proof (take k part)) (row_line proof x ∷ (row_lines proof (drop (k + 1) part) ++ after)))

  length_there : (before : List ProofLine) (part : List Row) (k start : ℕ) → k < length part → length before ≡ start → length (before ++ row_lines proof (take k part)) ≡ start + k
  length_there before part k start lt len =
      omega (arith, length-append before (row_lines proof (take k part)), length-map (take k part) (row_line proof), length-take-le k part (omega arith))

  -- whether the next line of a part is valid, as the calendar tells it
  valid_is : (calendar : Calendar) (formula : List (List Literal)) (before after : List ProofLine) (start : ℕ) (part : List Row) (k : ℕ) (x : Row) (valid : Bool)
      → k < length part → x ≡ get_or part k x
      → TellsLives calendar formula ((before ++ row_lines proof part) ++ after) → length before ≡ start → start + k ≤ calendar.ordered
      → ((live : List Live) → KeepsLive calendar.lives (start + k) live → valid ≡ is_accepted (ltb (start + k) calendar.ordered) live (row_line proof x))
      → (valid ≡ is_valid_line formula (before ++ row_lines proof (take k part)) (row_line proof x)) × (has_new_id formula (before ++ row_lines proof (take k part)) (row_line proof x) ≡ ltb (start + k) calendar.ordered)
  valid_is calendar formula before after start part k x valid lt is tells len le step =
      let earlier = before ++ row_lines proof (take k part) in
      let at = at_cut calendar formula ((before ++ row_lines proof part) ++ after) earlier (row_line proof x) (row_lines proof (drop (k + 1) part) ++ after) (start + k) tells
      (cut_there before after part k x lt is) (length_there before part k start lt len) le in (
        step (live_behind formula earlier) at.0 ∙ sym (ap (λ b. is_accepted b (live_behind formula earlier) (row_line proof x)) at.1) ∙ accepted_is formula earlier (row_line proof x),
        at.1,
      )

  pub part_goes_on : (calendar : Calendar) (start : ℕ) (part : List Row) (k : ℕ) (x : Row) (valid : Bool) → k < length part → x ≡ get_or part k x
      → PartGoesOn calendar start part k
      → ((live : List Live) → KeepsLive calendar.lives (start + k) live → valid ≡ is_accepted (ltb (start + k) calendar.ordered) live (row_line proof x)) → valid ≡ true
      → PartGoesOn calendar start part (k + 1)
  part_goes_on calendar start part k x valid lt is h step good formula before after tells len le =
      let g = h formula before after tells len le in
      let v = valid_is calendar formula before after start part k x valid lt is tells len g.within step in
      let earlier = before ++ row_lines proof (take k part) in
      let ok : is_valid_line formula earlier (row_line proof x) ≡ true = sym v.0 ∙ good in
      let small : ltb (start + k) calendar.ordered ≡ true = sym v.1 ∙ new_where_valid formula earlier (row_line proof x) ok in
      let below : start + k < calendar.ordered = ltb-true _ _ small in
      let longer : earlier ++ row_line proof x ∷ [] ≡ before ++ row_lines proof (take (k + 1) part)
      = append_assoc before (row_lines proof (take k part)) (row_line proof x ∷ []) ∙ ap (λ (ls : List ProofLine). before ++ ls) (sym (rows_taken part k x lt is)) in
      record {
        same = g.same ∙ ap (first_bad formula earlier) (rows_left part k x lt is) ∙ rw ok refl ∙ ap (λ (ls : List ProofLine). first_bad formula ls (row_lines proof (drop (k + 1) part))) longer;
        within = omega arith;
      }

  pub part_stops : (calendar : Calendar) (start : ℕ) (part : List Row) (k : ℕ) (x : Row) (valid : Bool) → k < length part → x ≡ get_or part k x
      → PartGoesOn calendar start part k
      → ((live : List Live) → KeepsLive calendar.lives (start + k) live → valid ≡ is_accepted (ltb (start + k) calendar.ordered) live (row_line proof x)) → valid ≡ false
      → FindsBad calendar start (row_lines proof part) (Some (start + k + 1))
  part_stops calendar start part k x valid lt is h step bad formula before after tells len le =
      let g = h formula before after tells len le in
      let v = valid_is calendar formula before after start part k x valid lt is tells len g.within step in
      let earlier = before ++ row_lines proof (take k part) in
      let no : is_valid_line formula earlier (row_line proof x) ≡ false = sym v.0 ∙ bad in
      let place : length earlier ≡ start + k = length_there before part k start lt len in
      let found : first_bad formula before (row_lines proof part) ≡ Some (length earlier + 1) = g.same ∙ ap (first_bad formula earlier) (rows_left part k x lt is) ∙ rw no refl in
      (sym (found ∙ ap (λ (n : ℕ). Some (n + 1)) place), λ none. absurd cc)

  pub part_ends : (calendar : Calendar) (start : ℕ) (part : List Row) (k : ℕ) → length part ≤ k → PartGoesOn calendar start part k → FindsBad calendar start (row_lines proof part) None
  part_ends calendar start part k le h formula before after tells len from =
      let g = h formula before after tells len from in (
        sym (g.same ∙ ap (λ (ls : List Row). first_bad formula (before ++ row_lines proof (take k part)) (row_lines proof ls)) (drop_all k part le)),
        λ none. let within = g.within in omega (arith, length-map part (row_line proof)),
      )

-- ---- parts in order

-- what the first of two says
abbrev first_of : Option ℕ → Option ℕ → Option ℕ
first_of None later = later
first_of (Some line) later = Some line

bad_append : (formula : List (List Literal)) (earlier xs ys : List ProofLine) → first_bad formula earlier (xs ++ ys) ≡ first_of (first_bad formula earlier xs) (first_bad formula (earlier ++ xs) ys)
bad_append formula earlier [] ys = ap (λ (ls : List ProofLine). first_bad formula ls ys) (sym (append-nil earlier))
bad_append formula earlier (x ∷ xs) ys =
    elim (bool_cases (is_valid_line formula earlier x)) [
      | inl e ↦ rw e (bad_append formula (earlier ++ x ∷ []) xs ys ∙ ap (λ (ls : List ProofLine). first_of (first_bad formula (earlier ++ x ∷ []) xs) (first_bad formula ls ys)) (append_assoc earlier (x ∷ []) xs))
      | inr e ↦ rw e refl
    ]

-- what the check of the part at a place found
abbrev pub IsFoundAt : Calendar → ℕ → List ProofLine → ℕ → Option ℕ → Type 0
IsFoundAt calendar size lines n bad = FindsBad calendar (n * size) (take size (drop (n * size) lines)) bad

in_middle : (lines : List ProofLine) (k size : ℕ) → (take k lines ++ take size (drop k lines)) ++ drop (k + size) lines ≡ lines
in_middle lines k size =
    append_assoc (take k lines) (take size (drop k lines)) (drop (k + size) lines)
    ∙ ap (λ (ls : List ProofLine). take k lines ++ (take size (drop k lines) ++ ls)) (sym (drop-drop size k lines))
    ∙ ap (λ (ls : List ProofLine). take k lines ++ ls) (take-append-drop size (drop k lines))
    ∙ take-append-drop k lines

taken_more : (lines : List ProofLine) (k size : ℕ) → take k lines ++ take size (drop k lines) ≡ take (k + size) lines
taken_more lines zero size = ap (λ (n : ℕ). take n lines) (plus size)
  where
    plus : (n : ℕ) → n ≡ 0 + n
    plus n = omega arith
taken_more [] (suc k) size = nil size (suc k + size)
  where
    nil : (n m : ℕ) → take {A = ProofLine} n [] ≡ take {A = ProofLine} m []
    nil zero zero = refl
    nil zero (suc m) = refl
    nil (suc n) zero = refl
    nil (suc n) (suc m) = refl
taken_more (x ∷ lines) (suc k) size =
    let moved : suc (k + size) ≡ suc k + size = omega arith in
    ap (λ (ls : List ProofLine). x ∷ ls) (taken_more lines k size) ∙ ap (λ (n : ℕ). take n (x ∷ lines)) moved

next_start : (n size : ℕ) → n * size + size ≡ (n + 1) * size
next_start n size = let a = add-mul n 1 size in let b = one-mul size in omega (arith, a, b)

-- the parts have all lines
covers_all : (count len size : ℕ) → 0 < size → count ≡ len / size + min 1 (len % size) → len ≤ count * size
covers_all count len size positive is =
    let q = len / size in
    let r = len % size in
    let whole : q * size + r ≡ len = div-add-mod' len size in
    let small : r < size = mod_below len size positive in
    elim (zero_or_more r) [
      | inl none ↦
          let e : count ≡ q = omega arith in
          let w = ap (λ n. n * size) e in
          omega (arith, w)
      | inr some ↦
          let e : count ≡ q + 1 = omega arith in
          let w = ap (λ n. n * size) e ∙ sym (next_start q size) in
          omega (arith, w)
    ]
  where
    zero_or_more : (n : ℕ) → (n ≡ 0) ⊎ (1 ≤ n)
    zero_or_more zero = inl refl
    zero_or_more (suc n) = inr (omega arith)

length_part : (lines : List ProofLine) (k size : ℕ) → k + size ≤ length lines → length (take size (drop k lines)) ≡ size
length_part lines k size le = length-take-le size (drop k lines) (omega (arith, length-drop k lines))

-- what is found from a place on, in the order of the parts
found_from : (calendar : Calendar) (formula : List (List Literal)) (lines : List ProofLine) (size n : ℕ) (found : List (Result (Option ℕ) Memory)) (bad : Option ℕ)
    → TellsLives calendar formula lines
    → ((i : ℕ) (d : Result (Option ℕ) Memory) → i < length found → ((n + i) * size < length lines) × IfOk (get_or found i d) (IsFoundAt calendar size lines (n + i)))
    → ((n * size ≤ calendar.ordered) ⊎ (length lines ≤ n * size)) → length lines ≤ (n + length found) * size → Ok bad ≡ first_found found
    → bad ≡ first_bad formula (take (n * size) lines) (drop (n * size) lines)
found_from calendar formula lines size n [] bad tells each from covers e =
    let none : bad ≡ None = cc in
    let none_left : n + 0 ≡ n = omega arith in
    let past : length lines ≤ n * size = subst (λ (m : ℕ). length lines ≤ m * size) none_left covers in
    none ∙ sym (ap (first_bad formula (take (n * size) lines)) (drop_all (n * size) lines past))
found_from calendar formula lines size n (Err refused ∷ found) bad tells each from covers e = absurd cc
found_from calendar formula lines size n (Ok (Some line) ∷ found) bad tells each from covers e =
    let k = n * size in
    let first : n + 0 ≡ n = omega arith in
    let here : (k < length lines) × IsFoundAt calendar size lines n (Some line) = subst (λ (m : ℕ). (m * size < length lines) × IsFoundAt calendar size lines m (Some line)) first (each 0 (Ok None) (omega arith)) in
    let lt : k < length lines = here.0 in
    let le : k ≤ calendar.ordered = elim from [ inl a ↦ a | inr b ↦ absurd (omega arith) ] in
    let f : IsFoundAt calendar size lines n (Some line) = here.1 in
    let whole : TellsLives calendar formula ((take k lines ++ take size (drop k lines)) ++ drop (k + size) lines) = subst (TellsLives calendar formula) (sym (in_middle lines k size)) tells in
    let p = f formula (take k lines) (drop (k + size) lines) whole (length-take-le k lines (omega arith)) le in
    let same : bad ≡ Some line = cc in
    let split : first_bad formula (take k lines) (drop k lines) ≡ first_of (first_bad formula (take k lines) (take size (drop k lines))) (first_bad formula (take k lines ++ take size (drop k lines)) (drop size (drop k lines)))
    = ap (first_bad formula (take k lines)) (sym (take-append-drop size (drop k lines))) ∙ bad_append formula (take k lines) (take size (drop k lines)) (drop size (drop k lines)) in
    same ∙ sym (split ∙ ap (λ (o : Option ℕ). first_of o (first_bad formula (take k lines ++ take size (drop k lines)) (drop size (drop k lines)))) (sym p.0))
found_from calendar formula lines size n (Ok None ∷ found) bad tells each from covers e =
    let k = n * size in
    let first : n + 0 ≡ n = omega arith in
    let here : (k < length lines) × IsFoundAt calendar size lines n None = subst (λ (m : ℕ). (m * size < length lines) × IsFoundAt calendar size lines m None) first (each 0 (Ok None) (omega arith)) in
    let lt : k < length lines = here.0 in
    let le : k ≤ calendar.ordered = elim from [ inl a ↦ a | inr b ↦ absurd (omega arith) ] in
    let f : IsFoundAt calendar size lines n None = here.1 in
    let whole : TellsLives calendar formula ((take k lines ++ take size (drop k lines)) ++ drop (k + size) lines) = subst (TellsLives calendar formula) (sym (in_middle lines k size)) tells in
    let p = f formula (take k lines) (drop (k + size) lines) whole (length-take-le k lines (omega arith)) le in
    let ended : k + length (take size (drop k lines)) ≤ calendar.ordered = p.1 refl in
    let next : k + size ≡ (n + 1) * size = next_start n size in
    let on : ((n + 1) * size ≤ calendar.ordered) ⊎ (length lines ≤ (n + 1) * size) = elim (either_way (k + size) (length lines)) [
      | inl within ↦ inl (omega (arith, length_part lines k size within))
      | inr past ↦ inr (omega arith)
    ] in
    let rest : bad ≡ first_bad formula (take ((n + 1) * size) lines) (drop ((n + 1) * size) lines)
    = found_from calendar formula lines size (n + 1) found bad tells
    (λ i d l.
    let moved : n + suc i ≡ n + 1 + i = omega arith in
    subst (λ (m : ℕ). (m * size < length lines) × IfOk (get_or found i d) (IsFoundAt calendar size lines m)) moved (each (suc i) d (omega arith)))
    on (let moved : n + suc (length found) ≡ n + 1 + length found = omega arith in subst (λ (m : ℕ). length lines ≤ m * size) moved covers) e in
    let split : first_bad formula (take k lines) (drop k lines) ≡ first_of (first_bad formula (take k lines) (take size (drop k lines))) (first_bad formula (take k lines ++ take size (drop k lines)) (drop size (drop k lines)))
    = ap (first_bad formula (take k lines)) (sym (take-append-drop size (drop k lines))) ∙ bad_append formula (take k lines) (take size (drop k lines)) (drop size (drop k lines)) in
    let behind : first_bad formula (take k lines ++ take size (drop k lines)) (drop size (drop k lines)) ≡ first_bad formula (take ((n + 1) * size) lines) (drop ((n + 1) * size) lines)
    = ap (λ (ls : List ProofLine). first_bad formula ls (drop size (drop k lines))) (taken_more lines k size ∙ ap (λ (m : ℕ). take m lines) next)
    ∙ ap (first_bad formula (take ((n + 1) * size) lines)) (drop-drop size k lines ∙ ap (λ (m : ℕ). drop m lines) next) in
    rest ∙ sym (split ∙ ap (λ (o : Option ℕ). first_of o (first_bad formula (take k lines ++ take size (drop k lines)) (drop size (drop k lines)))) (sym p.0) ∙ behind)
  where
    either_way : (a b : ℕ) → (a ≤ b) ⊎ (b ≤ a)
    either_way zero b = inl (omega arith)
    either_way (suc a) zero = inr (omega arith)
    either_way (suc a) (suc b) =
        elim (either_way a b) [
          | inl x ↦ inl (omega arith)
          | inr x ↦ inr (omega arith)
        ]

-- what was found in a chunk as `chunks` cuts it
pub in_chunk : (proof : FlatProof) (calendar : Calendar) (lines chunk : List Row) (size start : ℕ) (r : Result (Option ℕ) Memory) → IsChunk lines size start chunk → IfOk r (λ b. FindsBad calendar start (row_lines proof chunk) b)
    → (start < length lines) × IfOk r (λ b. FindsBad calendar start (row_lines proof (take size (drop start lines))) b)
in_chunk proof calendar lines chunk size start r is h =
    let some = is.nonempty in
    let inside = is.in_bounds in
    (omega (arith, some, inside), subst (λ (ls : List Row). IfOk r (λ b. FindsBad calendar start (row_lines proof ls) b)) is.value h)

-- the first bad line of all
pub found_in_all : (proof : FlatProof) (calendar : Calendar) (formula : List (List Literal)) (lines : List Row) (size : ℕ) (found : List (Result (Option ℕ) Memory)) (bad : Option ℕ)
    → TellsLives calendar formula (row_lines proof lines) → 0 < size → length found ≡ length lines / size + min 1 (length lines % size)
    → ((i : ℕ) (d : Result (Option ℕ) Memory) → i < length found → (i * size < length lines) × IfOk (get_or found i d) (λ b. FindsBad calendar (i * size) (row_lines proof (take size (drop (i * size) lines))) b))
    → Ok bad ≡ first_found found → bad ≡ first_bad formula [] (row_lines proof lines)
found_in_all proof calendar formula lines size found bad tells positive count each e =
    let long : length (row_lines proof lines) ≡ length lines = length-map lines (row_line proof) in
    let start : 0 * size ≡ 0 = zero-mul size in
    let all = covers_all (length found) (length lines) size positive count in
    subst (λ (n : ℕ). bad ≡ first_bad formula (take n (row_lines proof lines)) (drop n (row_lines proof lines))) start
    (found_from calendar formula (row_lines proof lines) size 0 found bad tells
    (λ i d l.
    let h = each i d l in
    let part : row_lines proof (take size (drop (i * size) lines)) ≡ take size (drop (i * size) (row_lines proof lines))
    = sym (take-map (row_line proof) size (drop (i * size) lines)) ∙ ap (take size) (sym (drop_map lines (i * size))) in
    let there : IfOk (get_or found i d) (λ b. FindsBad calendar (i * size) (take size (drop (i * size) (row_lines proof lines))) b)
    = subst (λ (ls : List ProofLine). IfOk (get_or found i d) (λ b. FindsBad calendar (i * size) ls b)) part h.1 in
    subst (λ (m : ℕ). (m * size < length (row_lines proof lines)) × IfOk (get_or found i d) (IsFoundAt calendar size (row_lines proof lines) m)) (zero_plus i) (omega arith, there))
    (inl (omega arith)) (subst (λ (m : ℕ). length (row_lines proof lines) ≤ m * size) (zero_plus (length found)) (omega arith)) e)
  where
    zero_plus : (n : ℕ) → n ≡ 0 + n
    zero_plus n = omega arith

    drop_map : (xs : List Row) (n : ℕ) → drop n (row_lines proof xs) ≡ row_lines proof (drop n xs)
    drop_map xs zero = refl
    drop_map [] (suc n) = refl
    drop_map (x ∷ xs) (suc n) = drop_map xs n

-- ---- the results of parts

pub found_none : (found : List (Result (Option ℕ) Memory)) (k : ℕ) (part : Result (Option ℕ) Memory) (bad : Option ℕ) → k < length found → part ≡ get_or found k part → part ≡ Ok bad → is_some bad ≡ false
    → first_found (drop k found) ≡ first_found found → first_found (drop (k + 1) found) ≡ first_found found
found_none found k part bad lt is ok none so_far =
    let next : drop k found ≡ part ∷ drop (k + 1) found = grind (arith, drop-cons) in
    sym (passed bad (drop (k + 1) found) none) ∙ ap (λ (r : Result (Option ℕ) Memory). first_found (r ∷ drop (k + 1) found)) (sym ok) ∙ sym (ap first_found next) ∙ so_far
  where
    passed : (bad : Option ℕ) (rest : List (Result (Option ℕ) Memory)) → is_some bad ≡ false → first_found (Ok bad ∷ rest) ≡ first_found rest
    passed None rest e = refl
    passed (Some n) rest e = absurd cc

pub found_some : (found : List (Result (Option ℕ) Memory)) (k : ℕ) (part : Result (Option ℕ) Memory) (bad : Option ℕ) → k < length found → part ≡ get_or found k part → part ≡ Ok bad → is_some bad ≡ true
    → first_found (drop k found) ≡ first_found found → Ok bad ≡ first_found found
found_some found k part bad lt is ok some so_far =
    let next : drop k found ≡ part ∷ drop (k + 1) found = grind (arith, drop-cons) in
    sym (taken bad (drop (k + 1) found) some) ∙ ap (λ (r : Result (Option ℕ) Memory). first_found (r ∷ drop (k + 1) found)) (sym ok) ∙ sym (ap first_found next) ∙ so_far
  where
    taken : (bad : Option ℕ) (rest : List (Result (Option ℕ) Memory)) → is_some bad ≡ true → first_found (Ok bad ∷ rest) ≡ Ok bad
    taken None rest e = absurd cc
    taken (Some n) rest e = refl

pub found_end : (found : List (Result (Option ℕ) Memory)) (k : ℕ) → length found ≤ k → first_found (drop k found) ≡ first_found found → Ok None ≡ first_found found
found_end found k le so_far = sym (ap first_found (drop_all k found le)) ∙ so_far

-- ---- the verdict

pub verdict_is : (proof : FlatProof) (formula : List (List Literal)) (lines : List Row) (bad : Option ℕ) → bad ≡ first_bad formula [] (row_lines proof lines)
    → verdict_from bad (list_any is_empty_clause formula || list_any (λ line. adds_empty_clause (row_line proof line)) lines) ≡ verdict_of formula (row_lines proof lines)
verdict_is proof formula lines bad e =
    ap (λ (o : Option ℕ). verdict_from o (list_any is_empty_clause formula || list_any (λ line. adds_empty_clause (row_line proof line)) lines)) e
    ∙ ap (λ b. verdict_from (first_bad formula [] (row_lines proof lines)) (list_any is_empty_clause formula || b)) (sym (list_any_map adds_empty_clause (row_line proof) lines))

-- the whole as one part
pub found_in_whole : (calendar : Calendar) (formula : List (List Literal)) (lines : List ProofLine) (bad : Option ℕ) → TellsLives calendar formula lines → FindsBad calendar 0 lines bad → bad ≡ first_bad formula [] lines
found_in_whole calendar formula lines bad tells found =
    (found formula [] [] (subst (TellsLives calendar formula) (sym (append-nil lines)) tells) refl (omega arith)).0
