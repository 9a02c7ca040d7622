-- What lives tell of the first lines of a proof, as they are noted.
use Rattle.std.proofs.Common.{◌≡◌, ◌⊎◌, inl, inr, ℕ, ℤ, zero, suc, ◌+◌, ◌<◌, ◌≤◌, min, Bool, true, false, cond, ◌&&◌, ◌||◌, eqb, ltb, leb, List, [], ◌∷◌, ◌++◌, length, take, get_or, Option, Some, None, Result, Ok, Err, OnOk, refl, sym, ap, subst, ◌∙◌, length-append, arith}
use Rattle.std.specs.List.{list_all}
use Rattle.std.specs.Borrow.{Bor}
use Rattle.std.proofs.lemmas.Bool.{eqb-true, ltb-true}
use Rattle.std.proofs.lemmas.Bool.Decides.{nat_tests}
use Rattle.std.proofs.Math.Bool.{and-true}
use Rattle.std.proofs.lemmas.List.{take_all, take_at, take-take, take-append-le, take_more, length-take-le, get_or_append_left, get_or_at, get_or-take}
use Rattle.ep_base.specs.declared.errors.Memory.{Memory}
use Rattle.cnf_core.specs.Literal.{Literal}
use Rattle.cnf_core.specs.Lines.{ProofLine, add, delete}
use Rattle.log_check.specs.Kept.{KeepsLive}
use Rattle.log_check.specs.Lives.{life_of, clause_at, ended, EndsThose}
use Rattle.log_check.specs.Parts.{TellsFirst, TellsLives, has_new_id}
use Rattle.log_check.specs.Verdict.{Live, numbered_from, is_number_among, live_after, live_behind, live_clause, added_ids}
use Rattle.log_check.specs.declared.calendar.Life.{Life}
use Rattle.log_check.specs.declared.calendar.Lives.{Lives}
use Rattle.log_check.proofs.Ids.{all_push, added_push, added_push_delete, both_below, live_push}
use Rattle.log_check.proofs.Lives.{live_clause_push, live_clause_left}
use Rattle.log_check.proofs.Trues.{bool_cases}

when_true : {X : Type 0} (b : Bool) (x y : X) → b ≡ true → cond b x y ≡ x
when_true true x y e = refl
when_true false x y e = absurd cc

when_false : {X : Type 0} (b : Bool) (x y : X) → b ≡ false → cond b x y ≡ y
when_false true x y e = absurd cc
when_false false x y e = refl

nothing_taken : (formula : List (List Literal)) (j q : ℕ) → live_clause (live_behind formula (take j [])) q ≡ live_clause (numbered_from 1 formula) q
nothing_taken formula zero q = refl
nothing_taken formula (suc j) q = refl

-- ---- lives that are over

min_twice : (u n : ℕ) → min (min u n) n ≡ min u n
min_twice u n = omega arith

ended_twice : (line : ℕ) (o : Option Life) → ended line (ended line o) ≡ ended line o
ended_twice line None = refl
ended_twice line (Some life) = ap (λ (u : ℕ). Some (record { clause = life.clause; from = life.from; until = u })) (min_twice life.until (line + 1))

among_push : (ids : List ℕ) (x q : ℕ) → is_number_among (ids ++ x ∷ []) q ≡ (is_number_among ids q || eqb q x)
among_push [] x q = or_false (eqb q x)
  where
    or_false : (b : Bool) → (b || false) ≡ b
    or_false true = refl
    or_false false = refl
among_push (i ∷ ids) x q = ap (λ b. eqb q i || b) (among_push ids x q) ∙ or_assoc (eqb q i) (is_number_among ids q) (eqb q x)
  where
    or_assoc : (a b c : Bool) → (a || (b || c)) ≡ ((a || b) || c)
    or_assoc true b c = refl
    or_assoc false b c = refl

ended_among : (line : ℕ) (o : Option Life) (b : Bool) → ended line (cond b (ended line o) o) ≡ ended line o
ended_among line o true = ended_twice line o
ended_among line o false = refl

or_true : (a : Bool) → (a || true) ≡ true
or_true true = refl
or_true false = refl

or_false : (a : Bool) → (a || false) ≡ a
or_false true = refl
or_false false = refl

-- one more id
pub ended_more : (first old new : ℕ → Option Life) (ids : List ℕ) (k x line : ℕ) → k < length ids → x ≡ get_or ids k x
    → ((q : ℕ) → old q ≡ cond (is_number_among (take k ids) q) (ended line (first q)) (first q))
    → ((q : ℕ) → new q ≡ cond (eqb x q) (ended line (old x)) (old q))
    → (q : ℕ) → new q ≡ cond (is_number_among (take (k + 1) ids) q) (ended line (first q)) (first q)
ended_more first old new ids k x line lt is so_far step q =
    let more : take (k + 1) ids ≡ take k ids ++ x ∷ [] = grind (arith, take_more) in
    let among : is_number_among (take (k + 1) ids) q ≡ (is_number_among (take k ids) q || eqb q x) = ap (λ (xs : List ℕ). is_number_among xs q) more ∙ among_push (take k ids) x q in
    let turned : eqb q x ≡ eqb x q = grind (arith, nat_tests) in
    let wanted : is_number_among (take (k + 1) ids) q ≡ (is_number_among (take k ids) q || eqb x q) = among ∙ ap (λ b. is_number_among (take k ids) q || b) turned in
    elim (bool_cases (eqb x q)) [
      | inl e ↦
          let same : x ≡ q = eqb-true _ _ e in
          let left : new q ≡ ended line (first q) =
          step q ∙ rw e (ap (λ (i : ℕ). ended line (old i)) same ∙ ap (ended line) (so_far q) ∙ ended_among line (first q) (is_number_among (take k ids) q)) in
          let all : is_number_among (take (k + 1) ids) q ≡ true = wanted ∙ ap (λ b. is_number_among (take k ids) q || b) e ∙ or_true (is_number_among (take k ids) q) in
          left ∙ sym (ap (λ b. cond b (ended line (first q)) (first q)) all)
      | inr e ↦
          let left : new q ≡ old q = step q ∙ when_false _ _ _ e in
          let all : is_number_among (take (k + 1) ids) q ≡ is_number_among (take k ids) q = wanted ∙ ap (λ b. is_number_among (take k ids) q || b) e ∙ or_false (is_number_among (take k ids) q) in
          left ∙ so_far q ∙ sym (ap (λ b. cond b (ended line (first q)) (first q)) all)
    ]

-- an id without a life changes nothing
pub ended_none : (old : ℕ → Option Life) (x line : ℕ) → old x ≡ None → (q : ℕ) → old q ≡ cond (eqb x q) (ended line (old x)) (old q)
ended_none old x line none q =
    elim (bool_cases (eqb x q)) [
      | inl e ↦
          let same : x ≡ q = eqb-true _ _ e in
          let here : old q ≡ None = ap old (sym same) ∙ none in
          here ∙ sym (ap (λ b. cond b (ended line (old x)) (old q)) e ∙ ap (ended line) none)
      | inr e ↦ sym (ap (λ b. cond b (ended line (old x)) (old q)) e)
    ]

-- the life under one id is over
pub ended_one : (old new : ℕ → Option Life) (x line until : ℕ) (life : Life) → old x ≡ Some life → until ≡ min life.until (line + 1)
    → ((q : ℕ) → new q ≡ cond (eqb x q) (Some (record { clause = life.clause; from = life.from; until = until })) (old q))
    → (q : ℕ) → new q ≡ cond (eqb x q) (ended line (old x)) (old q)
ended_one old new x line until life is least step q =
    let here : ended line (old x) ≡ Some (record { clause = life.clause; from = life.from; until = until })
    = ap (ended line) is ∙ ap (λ (u : ℕ). Some (record { clause = life.clause; from = life.from; until = u })) (sym least) in
    step q ∙ ap (λ (o : Option Life). cond (eqb x q) o (old q)) (sym here)

pub ended_put : (old new : ℕ → Option Life) (x line until : ℕ) (life : Life) (r : Result (Unit {0}) Memory) → old x ≡ Some life → until ≡ min life.until (line + 1)
    → OnOk r ((q : ℕ) → new q ≡ cond (eqb x q) (Some (record { clause = life.clause; from = life.from; until = until })) (old q))
    → OnOk r ((q : ℕ) → new q ≡ cond (eqb x q) (ended line (old x)) (old q))
ended_put old new x line until life (Ok u) is least step = ended_one old new x line until life is least step
ended_put old new x line until life (Err refused) is least step = step

-- all ids
pub ended_all : (first new : ℕ → Option Life) (ids : List ℕ) (k line : ℕ) → length ids ≤ k
    → ((q : ℕ) → new q ≡ cond (is_number_among (take k ids) q) (ended line (first q)) (first q))
    → (q : ℕ) → new q ≡ cond (is_number_among ids q) (ended line (first q)) (first q)
ended_all first new ids k line le h q = h q ∙ ap (λ (xs : List ℕ). cond (is_number_among xs q) (ended line (first q)) (first q)) (take_all k ids le)

-- ---- a clause at a line

-- a life whose bounds are behind is at the next line what it was
later_same : (o : Option Life) (n last : ℕ)
    → ((life : Life) → o ≡ Some life → (life.from ≤ n) × ((life.until ≤ n) ⊎ (life.until ≡ last))) → n + 1 < last
    → clause_at o (n + 1) ≡ clause_at o n
later_same None n last h lt = refl
later_same (Some life) n last h lt =
    let b = h life refl in
    let from : leb life.from (n + 1) ≡ leb life.from n = let le = b.0 in grind (arith, nat_tests) in
    let until : ltb (n + 1) life.until ≡ ltb n life.until =
    elim b.1 [
      | inl le ↦ grind (arith, nat_tests)
      | inr is ↦ grind (arith, nat_tests)
    ] in
    ap (λ b. cond b (Some life.clause.now) None) (ap (λ c. c && ltb (n + 1) life.until) from ∙ ap (λ c. leb life.from n && c) until)

-- a life that is over behind a later line is at a line what it was
ended_before : (o : Option Life) (line k : ℕ) → k ≤ line → clause_at (ended line o) k ≡ clause_at o k
ended_before None line k le = refl
ended_before (Some life) line k le =
    let until : ltb k (min life.until (line + 1)) ≡ ltb k life.until = grind (arith, nat_tests) in
    ap (λ c. cond (leb life.from k && c) (Some life.clause.now) None) until

and_false : (a : Bool) → (a && false) ≡ false
and_false true = refl
and_false false = refl

-- and at the next there is no clause
ended_behind : (o : Option Life) (line : ℕ) → clause_at (ended line o) (line + 1) ≡ None
ended_behind None line = refl
ended_behind (Some life) line =
    let until : ltb (line + 1) (min life.until (line + 1)) ≡ false = grind (arith, nat_tests) in
    ap (λ c. cond (leb life.from (line + 1) && c) (Some life.clause.now) None) until
    ∙ ap (λ c. cond c (Some life.clause.now) None) (and_false (leb life.from (line + 1)))

-- ---- one line more

push_length : (earlier : List ProofLine) (line : ProofLine) → length (earlier ++ line ∷ []) ≡ length earlier + 1
push_length earlier line = length-append earlier (line ∷ [])

-- whether a place is one of the earlier lines, or the next
place_cases : (k n : ℕ) → k ≤ n + 1 → (k ≤ n) ⊎ (k ≡ n + 1)
place_cases zero n le = inl (omega arith)
place_cases (suc k) zero le = inr (omega arith)
place_cases (suc k) (suc n) le =
    elim (place_cases k n (omega arith)) [
      | inl a ↦ inl (omega arith)
      | inr e ↦ inr (omega arith)
    ]

take_before : (earlier : List ProofLine) (line : ProofLine) (k : ℕ) → k ≤ length earlier → take k (earlier ++ line ∷ []) ≡ take k earlier
take_before earlier line k le = take-append-le k earlier (line ∷ []) le

-- What is live at each line up to the next, where it was so up to this one, and what the new lives are at these and at the next.
live_more : (old new : Lives) (last : ℕ) (formula : List (List Literal)) (earlier : List ProofLine) (line : ProofLine)
    → ((k : ℕ) → k ≤ length earlier → k < last → KeepsLive old k (live_behind formula (take k earlier)))
    → ((q k : ℕ) → k ≤ length earlier → k < last → clause_at (life_of new q) k ≡ clause_at (life_of old q) k)
    → (length earlier + 1 < last → KeepsLive new (length earlier + 1) (live_after (live_behind formula earlier) line))
    → (k : ℕ) → k ≤ length (earlier ++ line ∷ []) → k < last → KeepsLive new k (live_behind formula (take k (earlier ++ line ∷ [])))
live_more old new last formula earlier line live same next k le below =
    elim (place_cases k (length earlier) (omega (arith, push_length earlier line))) [
      | inl at ↦
          let cut : take k (earlier ++ line ∷ []) ≡ take k earlier = take_before earlier line k at in
          λ q. same q k at below ∙ live k at below q ∙ ap (λ (ls : List ProofLine). live_clause (live_behind formula ls) q) (sym cut)
      | inr is ↦
          let whole : take k (earlier ++ line ∷ []) ≡ earlier ++ line ∷ [] = take_all k (earlier ++ line ∷ []) (omega (arith, push_length earlier line)) in
          let behind : live_behind formula (take k (earlier ++ line ∷ [])) ≡ live_after (live_behind formula earlier) line
          = ap (live_behind formula) whole ∙ live_push (numbered_from 1 formula) earlier line in
          λ q. ap (clause_at (life_of new q)) is ∙ next (omega arith) q ∙ ap (λ (ls : List Live). live_clause ls q) (sym behind)
    ]

-- the ids of all lines are new, where those of the earlier ones are and the next one's is
new_more : (formula : List (List Literal)) (earlier : List ProofLine) (next : ProofLine)
    → ((k : ℕ) (line : ProofLine) → k < length earlier → line ≡ get_or earlier k line → has_new_id formula (take k earlier) line ≡ true)
    → has_new_id formula earlier next ≡ true
    → (k : ℕ) (line : ProofLine) → k < length (earlier ++ next ∷ []) → line ≡ get_or (earlier ++ next ∷ []) k line → has_new_id formula (take k (earlier ++ next ∷ [])) line ≡ true
new_more formula earlier next h here k line lt is =
    elim (place_cases (k + 1) (length earlier) (omega (arith, push_length earlier next))) [
      | inl below ↦
          let small : k < length earlier = omega arith in
          let cut : take k (earlier ++ next ∷ []) ≡ take k earlier = take_before earlier next k (omega arith) in
          let same : line ≡ get_or earlier k line = is ∙ get_or_append_left earlier (next ∷ []) line k small in
          ap (λ (ls : List ProofLine). has_new_id formula ls line) cut ∙ h k line small same
      | inr at ↦
          let place : length earlier ≡ k = omega arith in
          let cut : take k (earlier ++ next ∷ []) ≡ earlier = take_at earlier (next ∷ []) k place in
          let same : line ≡ next = is ∙ get_or_at earlier next [] line k place in
          ap (λ (ls : List ProofLine). has_new_id formula ls line) cut ∙ ap (has_new_id formula earlier) same ∙ here
    ]

some_same : (a b : Life) → Some a ≡ Some b → a ≡ b
some_same a b e = cc

one_later : (life : Life) (n last : ℕ) → (life.from ≤ n) × ((life.until ≤ n) ⊎ (life.until ≡ last)) → (life.from ≤ n + 1) × ((life.until ≤ n + 1) ⊎ (life.until ≡ last))
one_later life n last b = (
  (let le = b.0 in omega arith),
  elim b.1 [
    | inl le ↦ inl (omega arith)
    | inr is ↦ inr is
  ],
)

-- no life at all
pub tells_none : (lives : Lives) (last : ℕ) → ((id : ℕ) → life_of lives id ≡ None) → TellsFirst lives 0 last [] []
tells_none lives last none = record {
  live = λ k le below q. ap (λ (o : Option Life). clause_at o k) (none q) ∙ sym (nothing_taken [] k q);
  settled = λ id life is. absurd (let no : None ≡ Some life = sym (none id) ∙ is in cc);
  free = λ id above. none id;
  newest_id = λ id. and-true (ltb 0 id);
  new = λ k line lt is. absurd (omega arith);
}

-- one clause more of the formula
pub tells_given : (old new : Lives) (last : ℕ) (clauses : List (List Literal)) (k : ℕ) (clause : Bor (List Literal)) → k < length clauses → clause.now ≡ get_or clauses k clause.now
    → TellsFirst old k last (take k clauses) []
    → ((q : ℕ) → life_of new q ≡ cond (eqb (k + 1) q) (Some (record { clause = clause; from = 0; until = last })) (life_of old q))
    → TellsFirst new (k + 1) last (take (k + 1) clauses) []
tells_given old new last clauses k clause lt is h step =
    let more : take (k + 1) clauses ≡ take k clauses ++ clause.now ∷ [] = grind (arith, take_more) in
    let len : length (take k clauses) ≡ k = length-take-le k clauses (omega arith) in
    let len' : length (take (k + 1) clauses) ≡ k + 1 = length-take-le (k + 1) clauses (omega arith) in
    record {
      live = λ j le below q.
          let zero_is : j ≡ 0 = omega arith in
          let next : eqb q (1 + length (take k clauses)) ≡ eqb (k + 1) q = grind (arith, nat_tests) in
          let wanted : live_clause (numbered_from 1 (take (k + 1) clauses)) q ≡ cond (eqb (k + 1) q) (Some clause.now) (live_clause (numbered_from 1 (take k clauses)) q)
          = ap (λ (cs : List (List Literal)). live_clause (numbered_from 1 cs) q) more ∙ live_clause_push 1 q (take k clauses) clause.now
          ∙ ap (λ (b : Bool). cond b (Some clause.now) (live_clause (numbered_from 1 (take k clauses)) q)) next in
          let kept : clause_at (life_of old q) 0 ≡ live_clause (numbered_from 1 (take k clauses)) q = h.live 0 (omega arith) (omega arith) q in
          let soon : ltb 0 last ≡ true = grind (arith, nat_tests) in
          let begun : leb 0 0 ≡ true = grind (arith, nat_tests) in
          let known : clause_at (life_of new q) 0 ≡ cond (eqb (k + 1) q) (Some clause.now) (live_clause (numbered_from 1 (take k clauses)) q)
          = elim (bool_cases (eqb (k + 1) q)) [
            | inl e ↦ ap (λ (o : Option Life). clause_at o 0) (step q ∙ when_true _ _ _ e) ∙ ap (λ b. cond b (Some clause.now) None) (ap (λ b. leb 0 0 && b) soon ∙ ap (λ b. b && true) begun) ∙ sym (when_true _ _ _ e)
            | inr e ↦ ap (λ (o : Option Life). clause_at o 0) (step q ∙ when_false _ _ _ e) ∙ kept ∙ sym (when_false _ _ _ e)
          ] in
          ap (clause_at (life_of new q)) zero_is ∙ known ∙ sym wanted ∙ sym (nothing_taken (take (k + 1) clauses) j q);
      settled = λ q life e.
          elim (bool_cases (eqb (k + 1) q)) [
            | inl s ↦
                let same : record { clause = clause; from = 0; until = last } ≡ life = some_same _ _ (sym (step q ∙ when_true _ _ _ s) ∙ e) in
                subst (λ (l : Life). (l.from ≤ 0) × ((l.until ≤ 0) ⊎ (l.until ≡ last))) same (omega arith, inr refl)
            | inr s ↦ h.settled q life (sym (step q ∙ when_false _ _ _ s) ∙ e)
          ];
      free = λ q above.
          let other : eqb (k + 1) q ≡ false = grind (arith, nat_tests) in
          step q ∙ when_false _ _ _ other ∙ h.free q (omega arith);
      newest_id = λ id. ap (λ (n : ℕ). ltb n id && true) len' ∙ and-true (ltb (k + 1) id);
      new = λ j line below same. absurd (omega arith);
    }

pub tells_formula : (lives : Lives) (last : ℕ) (clauses : List (List Literal)) (k : ℕ) → k ≡ length clauses → TellsFirst lives k last (take k clauses) [] → TellsFirst lives (length clauses) last clauses []
tells_formula lives last clauses k e h =
    let all : take k clauses ≡ clauses = take_all k clauses (omega arith) in
    subst (λ (n : ℕ). TellsFirst lives n last clauses []) e (subst (λ (cs : List (List Literal)). TellsFirst lives k last cs []) all h)

-- a line more that adds a clause under a new id
pub tells_added : (old new : Lives) (newest last id : ℕ) (clause : Bor (List Literal)) (formula : List (List Literal)) (earlier : List ProofLine) (hints : List ℤ)
    → TellsFirst old newest last formula earlier → newest < id
    → ((q : ℕ) → life_of new q ≡ cond (eqb id q) (Some (record { clause = clause; from = length earlier + 1; until = last })) (life_of old q))
    → TellsFirst new id last formula (earlier ++ add id clause.now hints ∷ [])
tells_added old new newest last id clause formula earlier hints h above step =
    let line = add id clause.now hints in
    let n = length earlier in
    record {
      live = live_more old new last formula earlier line h.live
          (λ q k le below.
          elim (bool_cases (eqb id q)) [
            | inl e ↦
                let same : id ≡ q = eqb-true _ _ e in
                let none : life_of old q ≡ None = h.free q (omega arith) in
                let early : leb (n + 1) k ≡ false = grind (arith, nat_tests) in
                ap (λ (o : Option Life). clause_at o k) (step q ∙ when_true _ _ _ e) ∙ ap (λ b. cond (b && ltb k last) (Some clause.now) None) early ∙ sym (ap (λ (o : Option Life). clause_at o k) none)
            | inr e ↦ ap (λ (o : Option Life). clause_at o k) (step q ∙ when_false _ _ _ e)
          ])
          (λ below q.
          let turned : eqb id q ≡ eqb q id = grind (arith, nat_tests) in
          elim (bool_cases (eqb id q)) [
            | inl e ↦
                let begun : leb (n + 1) (n + 1) ≡ true = grind (arith, nat_tests) in
                let soon : ltb (n + 1) last ≡ true = grind (arith, nat_tests) in
                ap (λ (o : Option Life). clause_at o (n + 1)) (step q ∙ when_true _ _ _ e)
                ∙ ap (λ b. cond b (Some clause.now) None) (ap (λ b. leb (n + 1) (n + 1) && b) soon ∙ ap (λ b. b && true) begun)
                ∙ sym (ap (λ b. cond b (Some clause.now) (live_clause (live_behind formula earlier) q)) (sym turned ∙ e))
            | inr e ↦
                let kept : clause_at (life_of old q) n ≡ live_clause (live_behind formula earlier) q
                = h.live n (omega arith) (omega arith) q ∙ ap (λ (ls : List ProofLine). live_clause (live_behind formula ls) q) (take_all n earlier (omega arith)) in
                ap (λ (o : Option Life). clause_at o (n + 1)) (step q ∙ when_false _ _ _ e)
                ∙ later_same (life_of old q) n last (h.settled q) below ∙ kept
                ∙ sym (ap (λ b. cond b (Some clause.now) (live_clause (live_behind formula earlier) q)) (sym turned ∙ e))
          ]);
      settled = λ q life e.
          subst (λ (m : ℕ). (life.from ≤ m) × ((life.until ≤ m) ⊎ (life.until ≡ last))) (sym (push_length earlier line))
          (elim (bool_cases (eqb id q)) [
            | inl s ↦
                let same : record { clause = clause; from = n + 1; until = last } ≡ life = some_same _ _ (sym (step q ∙ when_true _ _ _ s) ∙ e) in
                subst (λ (l : Life). (l.from ≤ n + 1) × ((l.until ≤ n + 1) ⊎ (l.until ≡ last))) same (omega arith, inr refl)
            | inr s ↦ one_later life n last (h.settled q life (sym (step q ∙ when_false _ _ _ s) ∙ e))
          ]);
      free = λ q over.
          let other : eqb id q ≡ false = grind (arith, nat_tests) in
          step q ∙ when_false _ _ _ other ∙ h.free q (omega arith);
      newest_id = λ q.
          let small : ltb newest id ≡ true = grind (arith, nat_tests) in
          ap (λ (ids : List ℕ). list_all (λ m. ltb m q) (length formula ∷ ids)) (added_push earlier id clause.now hints)
          ∙ all_push (λ m. ltb m q) (length formula ∷ added_ids earlier) id ∙ ap (λ b. b && ltb id q) (h.newest_id q) ∙ both_below newest id q small;
      new = new_more formula earlier line h.new (h.newest_id id ∙ (let small : ltb newest id ≡ true = grind (arith, nat_tests) in small));
    }

ended_settled : (o : Option Life) (life : Life) (n last : ℕ) → ((l : Life) → o ≡ Some l → (l.from ≤ n) × ((l.until ≤ n) ⊎ (l.until ≡ last))) → ended n o ≡ Some life
    → (life.from ≤ n + 1) × ((life.until ≤ n + 1) ⊎ (life.until ≡ last))
ended_settled None life n last h e = absurd cc
ended_settled (Some l) life n last h e =
    let b = h l refl in
    let same : record { clause = l.clause; from = l.from; until = min l.until (n + 1) } ≡ life = some_same _ _ e in
    subst (λ (x : Life). (x.from ≤ n + 1) × ((x.until ≤ n + 1) ⊎ (x.until ≡ last))) same ((let le = b.0 in omega arith), inl (omega arith))

-- a line more that deletes
pub tells_deleted : (old new : Lives) (newest last : ℕ) (formula : List (List Literal)) (earlier : List ProofLine) (ids : List ℕ)
    → TellsFirst old newest last formula earlier → EndsThose ids (length earlier) old new
    → TellsFirst new newest last formula (earlier ++ delete ids ∷ [])
tells_deleted old new newest last formula earlier ids h step =
    let n = length earlier in
    record {
      live = live_more old new last formula earlier (delete ids) h.live
          (λ q k le below.
          elim (bool_cases (is_number_among ids q)) [
            | inl e ↦ ap (λ (o : Option Life). clause_at o k) (step q ∙ when_true _ _ _ e) ∙ ended_before (life_of old q) n k le
            | inr e ↦ ap (λ (o : Option Life). clause_at o k) (step q ∙ when_false _ _ _ e)
          ])
          (λ below q.
          let left : live_clause (live_after (live_behind formula earlier) (delete ids)) q ≡ cond (is_number_among ids q) None (live_clause (live_behind formula earlier) q)
          = live_clause_left (is_number_among ids) (live_behind formula earlier) q in
          elim (bool_cases (is_number_among ids q)) [
            | inl e ↦ ap (λ (o : Option Life). clause_at o (n + 1)) (step q ∙ when_true _ _ _ e) ∙ ended_behind (life_of old q) n ∙ sym (left ∙ when_true _ _ _ e)
            | inr e ↦
                let kept : clause_at (life_of old q) n ≡ live_clause (live_behind formula earlier) q
                = h.live n (omega arith) (omega arith) q ∙ ap (λ (ls : List ProofLine). live_clause (live_behind formula ls) q) (take_all n earlier (omega arith)) in
                ap (λ (o : Option Life). clause_at o (n + 1)) (step q ∙ when_false _ _ _ e)
                ∙ later_same (life_of old q) n last (h.settled q) below ∙ kept ∙ sym (left ∙ when_false _ _ _ e)
          ]);
      settled = λ q life e.
          subst (λ (m : ℕ). (life.from ≤ m) × ((life.until ≤ m) ⊎ (life.until ≡ last))) (sym (push_length earlier (delete ids)))
          (elim (bool_cases (is_number_among ids q)) [
            | inl s ↦ ended_settled (life_of old q) life n last (h.settled q) (sym (step q ∙ when_true _ _ _ s) ∙ e)
            | inr s ↦ one_later life n last (h.settled q life (sym (step q ∙ when_false _ _ _ s) ∙ e))
          ]);
      free = λ q over.
          let none : life_of old q ≡ None = h.free q over in
          elim (bool_cases (is_number_among ids q)) [
            | inl s ↦ step q ∙ when_true _ _ _ s ∙ ap (ended n) none
            | inr s ↦ step q ∙ when_false _ _ _ s ∙ none
          ];
      newest_id = λ q. ap (λ (ids : List ℕ). list_all (λ m. ltb m q) (length formula ∷ ids)) (added_push_delete earlier ids) ∙ h.newest_id q;
      new = new_more formula earlier (delete ids) h.new refl;
    }

-- ---- what a calendar tells in the end

pub tells_all : (lives : Lives) (newest last : ℕ) (formula : List (List Literal)) (lines : List ProofLine) (k : ℕ) → TellsFirst lives newest last formula (take k lines) → k ≤ length lines → last ≡ length lines
    → ((line : ProofLine) → k < length lines → line ≡ get_or lines k line → has_new_id formula (take k lines) line ≡ false)
    → TellsLives (record { lives = lives; ordered = k }) formula lines
tells_all lives newest last formula lines k h within all stops =
    let len : length (take k lines) ≡ k = length-take-le k lines within in
    record {
      live = λ j le below.
          subst (λ (ls : List ProofLine). KeepsLive lives j (live_behind formula ls)) (take-take j k lines le) (h.live j (omega arith) (omega arith));
      new = λ j line le below is.
          let cut : take j (take k lines) ≡ take j lines = take-take j k lines le in
          elim (bool_cases (ltb j k)) [
            | inl small ↦
                let lt : j < k = ltb-true _ _ small in
                sym (ap (λ (ls : List ProofLine). has_new_id formula ls line) cut) ∙ h.new j line (omega arith) (is ∙ sym (get_or-take k lines j line lt)) ∙ sym small
            | inr large ↦
                let at : j ≡ k = grind (arith, nat_tests) in
                let here : line ≡ get_or lines k line = is ∙ ap (λ (i : ℕ). get_or lines i line) at in
                ap (λ (i : ℕ). has_new_id formula (take i lines) line) at ∙ stops line (omega arith) here ∙ sym large
          ];
    }
