-- The parts of a state, as propagation goes on.
use Rattle.std.proofs.Common.{◌≡◌, ◌≢◌, ℕ, ◌+◌, ◌-◌, ◌*◌, ◌/◌, ◌%◌, ◌<◌, ◌≤◌, Bool, true, false, is_none, Option, Some, None, List, [], ◌∷◌, ◌++◌, length, take, drop, get_or, set, filter, nat_le, All, Contains, refl, sym, ap, ◌∙◌, subst, inl, inr, ◌⊎◌, ⊎_elim, arith}
use Rattle.std.proofs.lemmas.Bool.{cases_eq, true≢false, false≢true}
use Rattle.std.proofs.lemmas.List.{take_all, take_at, take-append-le, drop-append-le, drop_all, drop_more, length_push, length-append, length-set, get_or-set_same, get_or-set_other, get_or-drop, length-drop, get_or_default}
use Rattle.std.proofs.lemmas.List.Elements.{All-nil, All-push, All-same, All-contains, All-weaker}
use Rattle.cnf_core.specs.Literal.{Literal, negation, is_among, code_of, IsClause, VariablesUpTo}
use Rattle.cnf_core.specs.Steps.{IsAtEnd, IsConsistent, HasTrueLiteral, HasTwoNotFalse}
use Rattle.cnf_core.proofs.Members.{Contains-here, Contains-cases, none_in_nil}
use Rattle.sat_state.specs.Trail.{Entry, literals, level_of, next_level, trail_value, Gives, IsFalsified, IsGrounded}
use Rattle.sat_state.specs.Stored.{Stored, clause_at}
use Rattle.sat_state.specs.Assigned.{TrailState}
use Rattle.sat_state.specs.Watching.{no_lit, lit_at, far_at, listed_at, IsInSomeList, links, IsNext}
use Rattle.sat_state.specs.Watched.{Watched}
use Rattle.sat_state.specs.Listed.{Listed}
use Rattle.sat_state.specs.View.{IsGuarded}
use Rattle.sat_state.specs.Guards.{is_false, Guards, IsPair, ArePartners, AreWatched}
use Rattle.sat_state.specs.Joined.{AreJoined, GoesOn, IsAllSeen, IsInWalk, IsWalking, IsOfClause, uses, some_entry, place_in_queue, heads_of}
use Rattle.sat_state.specs.declared.parts.Queue.{Queue}
use Rattle.sat_state.specs.declared.parts.Parts.{Parts}
use Rattle.sat_state.proofs.Literals.{Contains-from_among}
use Rattle.sat_state.proofs.Levels.{level_push, levels_within}
use Rattle.sat_state.proofs.Settling.{front_again}
use Rattle.sat_state.proofs.Ends.{consistent, apart_from_grounded, not_among, none_falsified}
use Rattle.sat_state.proofs.Grounds.{grounded_push, next_stands, literals_push}
use Rattle.sat_state.proofs.Used.{links_below, links_set}
use Rattle.sat_state.proofs.Guarded.{turned, literals_grow, watched_push, watched_checked, watched_walked, watched_moved, at_end, watched_back}

-- a literal that is neither true nor false is of a variable without a value
pub free_literal : (trues : List Literal) (l : Literal) → is_among trues l ≡ false → is_among trues (negation l) ≡ false → trail_value trues l.var ≡ None
free_literal trues l a b = by_sign l.positive refl
  where
    by_sign : (p : Bool) → l.positive ≡ p → trail_value trues l.var ≡ None
    by_sign true e =
        let first : is_among trues (record { var = l.var; positive = true }) ≡ false = subst (λ (p : Bool). is_among trues (record { var = l.var; positive = p }) ≡ false) e a in
        let second : is_among trues (record { var = l.var; positive = false }) ≡ false = subst (λ (p : Bool). is_among trues (record { var = l.var; positive = Rattle.std.proofs.Common.not p }) ≡ false) e b in
        rw (first, second) refl
    by_sign false e =
        let first : is_among trues (record { var = l.var; positive = true }) ≡ false = subst (λ (p : Bool). is_among trues (record { var = l.var; positive = Rattle.std.proofs.Common.not p }) ≡ false) e b in
        let second : is_among trues (record { var = l.var; positive = false }) ≡ false = subst (λ (p : Bool). is_among trues (record { var = l.var; positive = p }) ≡ false) e a in
        rw (first, second) refl

pub all_falsified : (trues clause : List Literal) → All (λ l. is_false trues l ≡ true) clause → IsFalsified trues clause
all_falsified trues clause all = All-weaker (λ l. is_false trues l ≡ true) (λ l. Contains trues (negation l)) (λ l h. Contains-from_among trues (negation l) h) clause all

module _ (p : Parts) (j : AreJoined p) where
  pub joined_consistent : IsConsistent (literals p.assigned.trail)
  joined_consistent = consistent (literals p.assigned.trail) (apart_from_grounded p.clauses.lists p.assigned.trail j.grounded)

  pub joined_low : All (λ e. e.level ≤ level_of p.assigned.trail) p.assigned.trail
  joined_low = levels_within p.clauses.lists p.assigned.trail j.grounded

  -- the next entry of the trail is of its level
  pub next_level_is : (far : Bool) → place_in_queue p.queue far < length p.assigned.trail → (get_or p.assigned.trail (place_in_queue p.queue far) some_entry).level ≡ level_of p.assigned.trail
  next_level_is far more =
      let h = place_in_queue p.queue far in
      let trail = p.assigned.trail in
      let there : 0 < length (drop h trail) = omega (arith, length-drop h trail, more) in
      let is : get_or (drop h trail) 0 some_entry ≡ get_or trail h some_entry = get_or-drop h trail 0 some_entry ∙ ap (λ (n : ℕ). get_or trail n some_entry) (let e : h + 0 ≡ h = omega arith in e) in
      sym (ap (λ (e : Entry). e.level) is) ∙ j.present far 0 some_entry there

  pub joined_end : IsAllSeen p → IsAtEnd (literals p.assigned.trail) p.clauses.lists
  joined_end seen = at_end p.clauses.lists p.watches.lits p.assigned.trail p.queue.checked (heads_of p.queue p.watches.fars) j.watched joined_consistent joined_low seen.checked (λ e. seen.head (far_at p.watches.fars e))

  pub var_known : (number : ℕ) (l : Literal) → number < length p.clauses.lists → Contains (clause_at p.clauses.lists number) l → l.var ≤ p.assigned.vars
  var_known number l there in_clause = All-contains (λ (x : Literal). x.var ≤ p.assigned.vars) (clause_at p.clauses.lists number) l (j.in_range number [] there) in_clause

  pub var_some : (number : ℕ) (l : Literal) → number < length p.clauses.lists → Contains (clause_at p.clauses.lists number) l → 1 ≤ l.var
  var_some number l there in_clause =
      (All-contains (λ (x : Literal). Rattle.cnf_core.specs.Literal.IsVariable x.var) (clause_at p.clauses.lists number) l (j.clauses number [] there).variables in_clause).0

  pub code_listed : (number : ℕ) (l : Literal) → number < length p.clauses.lists → Contains (clause_at p.clauses.lists number) l → code_of l < p.watches.lists
  code_listed number l there in_clause = omega (arith, code_small l.var l.positive, var_known number l there in_clause, j.lists)
    where
      code_small : (v : ℕ) (b : Bool) → code_of (record { var = v; positive = b }) ≤ 2 * v + 1
      code_small v true = omega arith
      code_small v false = omega arith

-- what stands in the new lists stood in the old ones, or is of its clause too
pub record StandsAs (clauses : List (List Literal)) (lits : List Literal) (old new : List Listed) : Type 0 where
  pub each : (x : Watched) → IsInSomeList new x → IsInSomeList old x ⊎ IsOfClause clauses lits x

-- there is no less room in any list
pub record HasRoomOf (old new : List Listed) : Type 0 where
  pub each : (c : ℕ) → (listed_at old c).room ≤ (listed_at new c).room

of_clause_again : (old new : Parts) (x : Watched) → new.clauses.lists ≡ old.clauses.lists → length new.watches.lits ≡ length old.watches.lits → IsOfClause old.clauses.lists old.watches.lits x → IsOfClause new.clauses.lists new.watches.lits x
of_clause_again old new x clauses size is = record {
  there = omega (arith, is.there, size);
  two = λ pair. subst (λ (cs : List (List Literal)). length (clause_at cs (x.entry / 2)) ≡ 2) (sym clauses) (is.two pair);
  in_clause = subst (λ (cs : List (List Literal)). Contains (clause_at cs (x.entry / 2)) x.blocker) (sym clauses) is.in_clause;
}

pub blockers_again : (old new : Parts) → AreJoined old → new.clauses.lists ≡ old.clauses.lists → length new.watches.lits ≡ length old.watches.lits → StandsAs old.clauses.lists old.watches.lits old.watches.stands new.watches.stands → (x : Watched) → IsInSomeList new.watches.stands x → IsOfClause new.clauses.lists new.watches.lits x
blockers_again old new j clauses size stays_in x s =
    of_clause_again old new x clauses size
    (⊎_elim (λ (stood : IsInSomeList old.watches.stands x). j.blockers x stood) (λ (is : IsOfClause old.clauses.lists old.watches.lits x). is) (stays_in.each x s))

pub rooms_again : (old new : Parts) → AreJoined old → new.clauses.lists ≡ old.clauses.lists → HasRoomOf old.watches.stands new.watches.stands → (c : ℕ) → uses new.clauses.lists c ≤ (listed_at new.watches.stands c).room
rooms_again old new j clauses room c = omega (arith, ap (λ (cs : List (List Literal)). uses cs c) clauses, j.rooms c, room.each c)

-- the same clauses, watched literals, trail and queue
pub joined_same : (old new : Parts) → AreJoined old → new.clauses.lists ≡ old.clauses.lists → new.watches.lits ≡ old.watches.lits → new.watches.fars ≡ old.watches.fars → old.watches.lists ≤ new.watches.lists → StandsAs old.clauses.lists old.watches.lits old.watches.stands new.watches.stands → HasRoomOf old.watches.stands new.watches.stands → new.assigned ≡ old.assigned → new.queue ≡ old.queue → AreJoined new
joined_same old new j clauses lits fars lists stays_in room assigned queue = record {
  grounded = rw (clauses, assigned) j.grounded;
  watched = rw (clauses, lits, fars, assigned, queue) j.watched;
  checked_in = rw (clauses, queue) j.checked_in;
  head_in = rw (assigned, queue) j.head_in;
  present = rw (assigned, queue) j.present;
  fars = rw (lits, fars) j.fars;
  lists = omega (arith, lists, j.lists, ap (λ (a : TrailState). a.vars) assigned);
  blockers = blockers_again old new j clauses (ap length lits) stays_in;
  rooms = rooms_again old new j clauses room;
  in_range = rw (clauses, assigned) j.in_range;
  clauses = rw clauses j.clauses;
}

pub goes_same : (old new : Parts) → AreJoined old → new.clauses.lists ≡ old.clauses.lists → new.watches.lits ≡ old.watches.lits → new.watches.fars ≡ old.watches.fars → old.watches.lists ≤ new.watches.lists → StandsAs old.clauses.lists old.watches.lits old.watches.stands new.watches.stands → HasRoomOf old.watches.stands new.watches.stands → new.assigned ≡ old.assigned → new.queue ≡ old.queue → GoesOn old new
goes_same old new j clauses lits fars lists stays_in room assigned queue = record {
  joined = joined_same old new j clauses lits fars lists stays_in room assigned queue;
  clauses = clauses;
  vars = ap (λ (a : TrailState). a.vars) assigned;
  front = ap (λ (a : TrailState). take (length old.assigned.trail) a.trail) assigned ∙ take_all (length old.assigned.trail) old.assigned.trail (omega arith);
  level = ap (λ (a : TrailState). level_of a.trail) assigned;
}

-- where no list changed
pub stands_still : (clauses : List (List Literal)) (lits : List Literal) (old new : List Listed) → new ≡ old → StandsAs clauses lits old new
stands_still clauses lits old new same = record { each = λ x s. inl (subst (λ (ls : List Listed). IsInSomeList ls x) same s) }

pub room_still : (old new : List Listed) → new ≡ old → HasRoomOf old new
room_still old new same = record { each = λ c. omega (arith, ap (λ (ls : List Listed). (listed_at ls c).room) same) }

-- where each list has what it had, if there was one
pub stands_alike : (clauses : List (List Literal)) (lits : List Literal) (old new : List Listed) → ((c : ℕ) → (listed_at new c).watches ≡ (listed_at old c).watches) → StandsAs clauses lits old new
stands_alike clauses lits old new same = record {
  each = λ x s.
      let stood : IsInSomeList old x = record { code = s.code; there = subst (λ (ws : List Watched). Contains ws x) (same s.code) s.there } in
      inl stood;
}

pub no_fewer : (old new : ℕ) → new ≡ old → old ≤ new
no_fewer old new same = omega (arith, same)

pub goes_here : (p : Parts) → AreJoined p → GoesOn p p
goes_here p j = goes_same p p j refl refl refl (omega arith) (stands_still p.clauses.lists p.watches.lits p.watches.stands p.watches.stands refl) (room_still p.watches.stands p.watches.stands refl) refl refl

-- more variables are known
pub joined_grown : (old new : Parts) → AreJoined old → new.clauses ≡ old.clauses → new.watches ≡ old.watches → new.queue ≡ old.queue → new.assigned.trail ≡ old.assigned.trail → old.assigned.vars ≤ new.assigned.vars → 2 * new.assigned.vars + 2 ≤ old.watches.lists
    → AreJoined new
joined_grown old new j clauses watches queue trail more lists = record {
  grounded = rw (clauses, trail) j.grounded;
  watched = rw (clauses, watches, queue, trail) j.watched;
  checked_in = rw (clauses, queue) j.checked_in;
  head_in = rw (queue, trail) j.head_in;
  present = rw (queue, trail) j.present;
  fars = rw watches j.fars;
  lists = rw watches lists;
  blockers = rw (clauses, watches) j.blockers;
  rooms = rw (clauses, watches) j.rooms;
  in_range = rw clauses
      (All-weaker (VariablesUpTo old.assigned.vars) (VariablesUpTo new.assigned.vars)
      (λ clause all. All-weaker (λ (l : Literal). l.var ≤ old.assigned.vars) (λ (l : Literal). l.var ≤ new.assigned.vars) (λ l le. omega (arith, le, more)) clause all) old.clauses.lists j.in_range);
  clauses = rw clauses j.clauses;
}

pub goes_again : (first second third : Parts) → GoesOn first second → GoesOn second third → GoesOn first third
goes_again first second third one two = record {
  joined = two.joined;
  clauses = two.clauses ∙ one.clauses;
  vars = two.vars ∙ one.vars;
  front = front_again first.assigned.trail second.assigned.trail third.assigned.trail one.front two.front;
  level = two.level ∙ one.level;
}

-- a literal that a clause gives becomes true
pub goes_forced : (old new : Parts) (l : Literal) (number : ℕ) → AreJoined old → number < length old.clauses.lists → Gives (literals old.assigned.trail) (clause_at old.clauses.lists number) l
    → trail_value (literals old.assigned.trail) l.var ≡ None → new.clauses ≡ old.clauses → new.watches ≡ old.watches → new.queue ≡ old.queue → new.assigned.vars ≡ old.assigned.vars
    → new.assigned.trail ≡ old.assigned.trail ++ record { literal = l; level = next_level old.assigned.trail (Some number); reason = Some number } ∷ [] → GoesOn old new
goes_forced old new l number j there gives free clauses watches queue vars more =
    let trail = old.assigned.trail in
    let x : Entry = record { literal = l; level = next_level trail (Some number); reason = Some number } in
    let level : level_of (trail ++ x ∷ []) ≡ level_of trail = omega (arith, level_push trail x) in
    record {
      joined = record {
        grounded = rw (clauses, more) (grounded_push old.clauses.lists trail x j.grounded (next_stands old.clauses.lists trail l (Some number) free (there, gives)));
        watched = rw (clauses, watches, queue, more) (watched_push old.clauses.lists old.watches.lits trail old.queue.checked (heads_of old.queue old.watches.fars) j.watched x (λ e. j.head_in (far_at old.watches.fars e)) (λ c lt le. level));
        checked_in = rw (clauses, queue) j.checked_in;
        head_in = rw (queue, more) (λ far. omega (arith, j.head_in far, length_push trail x));
        present = rw (queue, more) (λ far.
            let h = place_in_queue old.queue far in
            subst (All (λ (e : Entry). e.level ≡ level_of (trail ++ x ∷ []))) (sym (drop-append-le h trail (x ∷ []) (j.head_in far)))
            (subst (λ (n : ℕ). All (λ (e : Entry). e.level ≡ n) (drop h trail ++ x ∷ [])) (sym level)
            (All-push (λ (e : Entry). e.level ≡ level_of trail) (drop h trail) x (j.present far) (omega arith))));
        fars = rw watches j.fars;
        lists = rw (watches, vars) j.lists;
        blockers = rw (clauses, watches) j.blockers;
        rooms = rw (clauses, watches) j.rooms;
        in_range = rw (clauses, vars) j.in_range;
        clauses = rw clauses j.clauses;
      };
      clauses = ap (λ (s : Stored). s.lists) clauses;
      vars = vars;
      front = ap (take (length trail)) more ∙ take_at trail (x ∷ []) (length trail) refl;
      level = ap level_of more ∙ level;
    }

-- a clause was looked at
pub goes_checked : (old : Parts) → AreJoined old → old.queue.checked < length old.clauses.lists
    → HasTrueLiteral (literals old.assigned.trail) (clause_at old.clauses.lists old.queue.checked) ⊎ HasTwoNotFalse (literals old.assigned.trail) (clause_at old.clauses.lists old.queue.checked)
    → (new : Parts) → new ≡ record old { queue = record { checked = old.queue.checked + 1; head = old.queue.head; far = old.queue.far } } → GoesOn old new
goes_checked old j there settled new is =
    let watched = watched_checked old.clauses.lists old.watches.lits old.assigned.trail old.queue.checked (heads_of old.queue old.watches.fars) j.watched (joined_consistent old j) (joined_low old j) there settled in
    subst (GoesOn old) (sym is) (record {
      joined = record {
        grounded = j.grounded;
        watched = watched;
        checked_in = omega (arith, there);
        head_in = λ far. j.head_in far;
        present = λ far. j.present far;
        fars = j.fars;
        lists = j.lists;
        blockers = j.blockers;
        rooms = j.rooms;
        in_range = j.in_range;
        clauses = j.clauses;
      };
      clauses = refl;
      vars = refl;
      front = take_all (length old.assigned.trail) old.assigned.trail (omega arith);
      level = refl;
    })

same_tier : (a b : Bool) → (a ≡ b) ⊎ (a ≢ b)
same_tier true true = inl refl
same_tier false false = inl refl
same_tier true false = inr true≢false
same_tier false true = inr false≢true

-- the queue after the near or the far list of the next literal was walked
pub record IsStep (far : Bool) (old new : Queue) : Type 0 where
  pub checked : new.checked ≡ old.checked
  pub walked : place_in_queue new far ≡ place_in_queue old far + 1
  pub other : (tier : Bool) → tier ≢ far → place_in_queue new tier ≡ place_in_queue old tier

pub near_step : (old : Queue) → IsStep false old (record { checked = old.checked; head = old.head + 1; far = old.far })
near_step old = record { checked = refl; walked = refl; other = other }
  where
    other : (tier : Bool) → tier ≢ false → place_in_queue (record { checked = old.checked; head = old.head + 1; far = old.far }) tier ≡ place_in_queue old tier
    other true ne = refl
    other false ne = absurd (ne refl)

pub far_step : (old : Queue) → IsStep true old (record { checked = old.checked; head = old.head; far = old.far + 1 })
far_step old = record { checked = refl; walked = refl; other = other }
  where
    other : (tier : Bool) → tier ≢ true → place_in_queue (record { checked = old.checked; head = old.head; far = old.far + 1 }) tier ≡ place_in_queue old tier
    other false ne = refl
    other true ne = absurd (ne refl)

-- a tier is the one of a step, or stays
stepped : (far : Bool) (old new : Queue) → IsStep far old new → (tier : Bool) → (place_in_queue new tier ≡ place_in_queue old tier) ⊎ ((place_in_queue new tier ≡ place_in_queue old tier + 1) × (tier ≡ far))
stepped far old new step tier = ⊎_elim
    (λ (same : tier ≡ far). inr (ap (place_in_queue new) same ∙ step.walked ∙ ap (λ (t : Bool). place_in_queue old t + 1) (sym same), same))
    (λ (ne : tier ≢ far). inl (step.other tier ne))
    (same_tier tier far)

later_present : (trail : List Entry) (n h : ℕ) → h < length trail → All (λ e. e.level ≡ n) (drop h trail) → All (λ e. e.level ≡ n) (drop (h + 1) trail)
later_present trail n h more present = λ k d lt.
    let there : k + 1 < length (drop h trail) = omega (arith, lt, length-drop (h + 1) trail, length-drop h trail, more) in
    let same : get_or (drop (h + 1) trail) k d ≡ get_or (drop h trail) (k + 1) d
    = get_or-drop (h + 1) trail k d ∙ ap (λ (m : ℕ). get_or trail m d) (let e : (h + 1) + k ≡ h + (k + 1) = omega arith in e) ∙ sym (get_or-drop h trail (k + 1) d) in
    ap (λ (e : Entry). e.level) same ∙ present (k + 1) d there

-- the clauses of the near or the far list of the literal that the next entry of the trail makes false have true literals
pub goes_passed : (old : Parts) → AreJoined old → old.queue.checked ≡ length old.clauses.lists → (far : Bool) → place_in_queue old.queue far < length old.assigned.trail → (walked : Literal)
    → (get_or old.assigned.trail (place_in_queue old.queue far) some_entry).literal ≡ negation walked
    → ((e : ℕ) → far_at old.watches.fars e ≡ far → e < length old.watches.lits → lit_at old.watches.lits e ≡ walked → HasTrueLiteral (literals old.assigned.trail) (clause_at old.clauses.lists (e / 2)))
    → (queue : Queue) → IsStep far old.queue queue → (new : Parts) → new ≡ record old { queue = queue } → GoesOn old new
goes_passed old j checked far more walked at each queue step new is =
    let trail = old.assigned.trail in
    let tier = λ (e : ℕ). far_at old.watches.fars e in
    let watched = watched_walked old.clauses.lists old.watches.lits trail old.queue.checked (heads_of old.queue old.watches.fars) j.watched (joined_consistent old j) (joined_low old j) checked
    (place_in_queue old.queue far) more walked at (next_level_is old j far more) (heads_of queue old.watches.fars)
    (λ e. ⊎_elim
    (λ (same : place_in_queue queue (tier e) ≡ place_in_queue old.queue (tier e)). inl same)
    (λ (now : (place_in_queue queue (tier e) ≡ place_in_queue old.queue (tier e) + 1) × (tier e ≡ far)). inr (now.0, ap (place_in_queue old.queue) now.1, each e now.1))
    (stepped far old.queue queue step (tier e))) in
    subst (GoesOn old) (sym is) (record {
      joined = record {
        grounded = j.grounded;
        watched = subst (λ (n : ℕ). AreWatched old.clauses.lists old.watches.lits trail n (heads_of queue old.watches.fars)) (sym step.checked) watched;
        checked_in = omega (arith, step.checked, j.checked_in);
        head_in = λ t. ⊎_elim
            (λ (same : place_in_queue queue t ≡ place_in_queue old.queue t). omega (arith, same, j.head_in t))
            (λ (now : (place_in_queue queue t ≡ place_in_queue old.queue t + 1) × (t ≡ far)). omega (arith, now.0, ap (place_in_queue old.queue) now.1, more))
            (stepped far old.queue queue step t);
        present = λ t. ⊎_elim
            (λ (same : place_in_queue queue t ≡ place_in_queue old.queue t). subst (λ (n : ℕ). All (λ (e : Entry). e.level ≡ level_of trail) (drop n trail)) (sym same) (j.present t))
            (λ (now : (place_in_queue queue t ≡ place_in_queue old.queue t + 1) × (t ≡ far)).
            subst (λ (n : ℕ). All (λ (e : Entry). e.level ≡ level_of trail) (drop n trail)) (sym now.0)
            (later_present trail (level_of trail) (place_in_queue old.queue t) (omega (arith, ap (place_in_queue old.queue) now.1, more)) (j.present t)))
            (stepped far old.queue queue step t);
        fars = j.fars;
        lists = j.lists;
        blockers = j.blockers;
        rooms = j.rooms;
        in_range = j.in_range;
        clauses = j.clauses;
      };
      clauses = refl;
      vars = refl;
      front = take_all (length trail) trail (omega arith);
      level = refl;
    })

-- the clauses of a literal's near or far list were looked at
pub goes_walked : (old : Parts) → AreJoined old → IsWalking old → old.watches.waiting ≡ [] → (queue : Queue) → IsStep old.watches.walks_far old.queue queue → (new : Parts) → new ≡ record old { queue = queue } → GoesOn old new
goes_walked old j w none queue step new is =
    goes_passed old j w.checked old.watches.walks_far w.more old.watches.walked w.walked
    (λ e far lt same. ⊎_elim
    (λ (waits : Contains old.watches.waiting e). absurd (none_in_nil e (subst (λ (ws : List ℕ). Contains ws e) none waits)))
    (λ (done : HasTrueLiteral (literals old.assigned.trail) (clause_at old.clauses.lists (e / 2))). done)
    (w.satisfied e (record { there = lt; literal = same; tier = far })))
    queue step new is

pub both_tiers : (queue : Queue) (n : ℕ) → queue.head ≡ n → queue.far ≡ n → (far : Bool) → place_in_queue queue far ≡ n
both_tiers queue n near far true = far
both_tiers queue n near far false = near

-- ---- one entry of a walk

pub rest_of : (waiting : List ℕ) (e x : ℕ) → waiting ≡ e ∷ drop 1 waiting → Contains waiting x → x ≢ e → Contains (drop 1 waiting) x
rest_of waiting e x is h ne =
    elim (Contains-cases e (drop 1 waiting) x (subst (λ (ws : List ℕ). Contains ws x) is h)) [
      | inl same ↦ absurd (ne (sym same))
      | inr later ↦ later
    ]

pub shorter_by_one : (waiting now : List ℕ) (e : ℕ) → waiting ≡ e ∷ drop 1 waiting → now ≡ drop 1 waiting → length now + 1 ≡ length waiting
shorter_by_one waiting now e is same = omega (arith, ap length is, ap length same)

-- of two literals of a clause that has no others, each is one of them
one_of_two : (clause : List Literal) (a b l : Literal) → length clause ≡ 2 → Contains clause a → Contains clause b → a ≢ b → Contains clause l → l ≢ b → l ≡ a
one_of_two clause a b l two (i, i_in, i_is) (k, k_in, k_is) apart (n, n_in, n_is) ne =
    let i_apart : i ≢ k = λ same. apart (sym i_is ∙ get_or_default clause i a b i_in ∙ ap (λ (x : ℕ). get_or clause x b) same ∙ k_is) in
    let n_apart : n ≢ k = λ same. ne (sym n_is ∙ get_or_default clause n l b n_in ∙ ap (λ (x : ℕ). get_or clause x b) same ∙ k_is) in
    let same : n ≡ i = omega (arith, two, i_in, k_in, n_in, i_apart, n_apart) in
    sym n_is ∙ get_or_default clause n l a n_in ∙ ap (λ (x : ℕ). get_or clause x a) same ∙ i_is

-- the other entry of the clause of an entry
abbrev other_of : ℕ → ℕ
other_of e = e + 1 - 2 * (e % 2)

other_partner : (e : ℕ) → ArePartners e (other_of e)
other_partner e = record { clause = omega arith; apart = λ same. absurd (omega (arith, same)) }

-- where two entries have one partner, they are one
same_partner : (e f x : ℕ) → ArePartners e f → ArePartners x f → x ≡ e
same_partner e f x p q = omega (arith, p.clause, q.clause, p.apart, q.apart)

module _ (old : Parts) (j : AreJoined old) (w : IsWalking old) (v : Watched) (next : IsNext old.watches v) where
  pub entry_clause : v.entry / 2 < length old.clauses.lists
  entry_clause = omega (arith, next.there, j.watched.entries)

  entry_some : 1 ≤ old.watches.walked.var → 1 ≤ (lit_at old.watches.lits v.entry).var
  entry_some some = subst (λ (l : Literal). 1 ≤ l.var) (sym next.walked) some

  pub entry_long : 1 ≤ old.watches.walked.var → 2 ≤ length (clause_at old.clauses.lists (v.entry / 2))
  entry_long some = j.watched.long v.entry next.there (entry_some some)

  -- the literal beside the entry is of its clause
  pub blocker_in : Contains (clause_at old.clauses.lists (v.entry / 2)) v.blocker
  blocker_in = (j.blockers v next.stands).in_clause

  -- the literal that is walked is false
  pub walked_false : Contains (literals old.assigned.trail) (negation old.watches.walked)
  walked_false =
      subst (λ (l : Literal). Contains (literals old.assigned.trail) l) w.walked
      (Rattle.sat_state.proofs.Guarded.literal_of_entry old.assigned.trail (get_or old.assigned.trail (place_in_queue old.queue old.watches.walks_far) some_entry)
      (Rattle.sat_state.proofs.Guarded.entry_at_place old.assigned.trail (place_in_queue old.queue old.watches.walks_far) some_entry w.more))

  -- the literal that is walked is of the clause
  walked_in : Contains (clause_at old.clauses.lists (v.entry / 2)) old.watches.walked
  walked_in =
      let e = v.entry in
      let f = other_of e in
      subst (λ (l : Literal). Contains (clause_at old.clauses.lists (e / 2)) l) next.walked (j.watched.pairs e f (other_partner e) next.there (entry_some w.some)).in_clause

  -- where the clause has two literals, one that isn't false is what the clause gives
  pub gives_pair : v.pair ≡ true → is_false (literals old.assigned.trail) v.blocker ≡ false → Gives (literals old.assigned.trail) (clause_at old.clauses.lists (v.entry / 2)) v.blocker
  gives_pair pair not_false =
      let trues = literals old.assigned.trail in
      let clause = clause_at old.clauses.lists (v.entry / 2) in
      let apart : old.watches.walked ≢ v.blocker = λ same. not_among trues (negation v.blocker) not_false (subst (λ (x : Literal). Contains trues (negation x)) same walked_false) in
      record {
        in_clause = blocker_in;
        others_false = λ l h ne. subst (λ (x : Literal). Contains trues (negation x)) (sym (one_of_two clause old.watches.walked v.blocker l ((j.blockers v next.stands).two pair) walked_in blocker_in apart h ne)) walked_false;
      }

  -- the entry is kept where its clause has a true literal
  pub walking_kept : (new : Parts) → HasTrueLiteral (literals new.assigned.trail) (clause_at old.clauses.lists (v.entry / 2)) → ((l : Literal) → Contains (literals old.assigned.trail) l → Contains (literals new.assigned.trail) l)
      → get_or new.assigned.trail (place_in_queue old.queue old.watches.walks_far) some_entry ≡ get_or old.assigned.trail (place_in_queue old.queue old.watches.walks_far) some_entry → length old.assigned.trail ≤ length new.assigned.trail
      → new.clauses.lists ≡ old.clauses.lists → new.queue ≡ old.queue → new.watches.lits ≡ old.watches.lits → new.watches.fars ≡ old.watches.fars → new.watches.walked ≡ old.watches.walked → new.watches.walks_far ≡ old.watches.walks_far → new.watches.waiting ≡ drop 1 old.watches.waiting → IsWalking new
  walking_kept new is_true grows at longer clauses queue lits fars walked walks_far waiting = record {
    checked = rw (clauses, queue) w.checked;
    more = rw (queue, walks_far) (omega (arith, w.more, longer));
    some = rw walked w.some;
    walked = rw (queue, walks_far) (ap (λ (x : Entry). x.literal) at ∙ w.walked ∙ ap negation (sym walked));
    satisfied = λ x in_walk.
        let old_in : IsInWalk old x = record {
          there = omega (arith, in_walk.there, ap length lits);
          literal = ap (λ (ls : List Literal). lit_at ls x) (sym lits) ∙ in_walk.literal ∙ walked;
          tier = ap (λ (fs : List Bool). far_at fs x) (sym fars) ∙ in_walk.tier ∙ walks_far;
        } in
        let trues = literals new.assigned.trail in
        ⊎_elim
        (λ (here : x ≡ v.entry).
        inr (subst (λ (z : ℕ). HasTrueLiteral trues (clause_at new.clauses.lists (z / 2))) (sym here)
        (subst (λ (cs : List (List Literal)). HasTrueLiteral trues (clause_at cs (v.entry / 2))) (sym clauses) is_true)))
        (λ (ne : x ≢ v.entry). ⊎_elim
        (λ (waits : Contains old.watches.waiting x). inl (subst (λ (ws : List ℕ). Contains ws x) (sym waiting) (rest_of old.watches.waiting v.entry x next.first waits ne)))
        (λ (done : HasTrueLiteral (literals old.assigned.trail) (clause_at old.clauses.lists (x / 2))).
        inr (subst (λ (cs : List (List Literal)). HasTrueLiteral trues (clause_at cs (x / 2))) (sym clauses) (done.0, done.1, grows done.0 done.2)))
        (w.satisfied x old_in))
        (cases_eq x v.entry);
  }

  -- the entry moves to another literal of its clause, which isn't false
  module _ (l : Literal) (lg : 2 ≤ length (clause_at old.clauses.lists (v.entry / 2))) (in_clause : Contains (clause_at old.clauses.lists (v.entry / 2)) l) (not_false : is_false (literals old.assigned.trail) l ≡ false)
      (f : ℕ) (p : ArePartners v.entry f) (not_other : l ≢ lit_at old.watches.lits f) (new : Parts) (assigned : new.assigned ≡ old.assigned) (clauses : new.clauses.lists ≡ old.clauses.lists) (queue : new.queue ≡ old.queue)
      (lists : old.watches.lists ≤ new.watches.lists) (walked : new.watches.walked ≡ old.watches.walked) (walks_far : new.watches.walks_far ≡ old.watches.walks_far) (waiting : new.watches.waiting ≡ drop 1 old.watches.waiting)
      (lits : new.watches.lits ≡ set (set old.watches.lits v.entry no_lit) v.entry l) (far : Bool) (fars : new.watches.fars ≡ set (set old.watches.fars v.entry false) v.entry far)
      (stays_in : StandsAs old.clauses.lists old.watches.lits old.watches.stands new.watches.stands) (room : HasRoomOf old.watches.stands new.watches.stands) where
    size : length new.watches.lits ≡ length old.watches.lits
    size = ap length lits ∙ length-set (set old.watches.lits v.entry no_lit) v.entry l ∙ length-set old.watches.lits v.entry no_lit

    at : lit_at new.watches.lits v.entry ≡ l
    at = ap (λ (ls : List Literal). lit_at ls v.entry) lits ∙ get_or-set_same (set old.watches.lits v.entry no_lit) v.entry l no_lit (omega (arith, next.there, length-set old.watches.lits v.entry no_lit))

    others : (x : ℕ) → x ≢ v.entry → lit_at new.watches.lits x ≡ lit_at old.watches.lits x
    others x ne = ap (λ (ls : List Literal). lit_at ls x) lits ∙ get_or-set_other (set old.watches.lits v.entry no_lit) v.entry x l no_lit ne ∙ get_or-set_other old.watches.lits v.entry x no_lit no_lit ne

    tiers : (x : ℕ) → x ≢ v.entry → far_at new.watches.fars x ≡ far_at old.watches.fars x
    tiers x ne = ap (λ (fs : List Bool). far_at fs x) fars ∙ get_or-set_other (set old.watches.fars v.entry false) v.entry x far false ne ∙ get_or-set_other old.watches.fars v.entry x false false ne

    pub goes_moved : GoesOn old new
    goes_moved = record {
      joined = record {
        grounded = rw (clauses, assigned) j.grounded;
        watched = rw (clauses, assigned, queue)
            (watched_moved old.clauses.lists old.watches.lits old.assigned.trail old.queue.checked (heads_of old.queue old.watches.fars) j.watched (joined_consistent old j) (joined_low old j) w.checked new.watches.lits
            (heads_of old.queue new.watches.fars) v.entry l size next.there at others (λ x ne. ap (place_in_queue old.queue) (tiers x ne)) (entry_some w.some) (var_some old j (v.entry / 2) l entry_clause in_clause) in_clause (λ g q. subst (λ (z : ℕ). l ≢ lit_at old.watches.lits z) (sym (same_partner f v.entry g (turned v.entry f p) (turned v.entry g q))) not_other)
            (not_among (literals old.assigned.trail) (negation l) not_false));
        checked_in = rw (clauses, queue) j.checked_in;
        head_in = rw (assigned, queue) j.head_in;
        present = rw (assigned, queue) j.present;
        fars = omega (arith, ap length fars, length-set (set old.watches.fars v.entry false) v.entry far, length-set old.watches.fars v.entry false, size, j.fars);
        lists = omega (arith, lists, j.lists, ap (λ (a : TrailState). a.vars) assigned);
        blockers = blockers_again old new j clauses size stays_in;
        rooms = rooms_again old new j clauses room;
        in_range = rw (clauses, assigned) j.in_range;
        clauses = rw clauses j.clauses;
      };
      clauses = clauses;
      vars = ap (λ (a : TrailState). a.vars) assigned;
      front = ap (λ (a : TrailState). take (length old.assigned.trail) a.trail) assigned ∙ take_all (length old.assigned.trail) old.assigned.trail (omega arith);
      level = ap (λ (a : TrailState). level_of a.trail) assigned;
    }

    not_walked : l ≢ old.watches.walked
    not_walked same = not_among (literals old.assigned.trail) (negation l) not_false (subst (λ (x : Literal). Contains (literals old.assigned.trail) (negation x)) (sym same) walked_false)

    pub walking_moved : IsWalking new
    walking_moved = record {
      checked = rw (clauses, queue) w.checked;
      more = rw (assigned, queue, walks_far) w.more;
      some = rw walked w.some;
      walked = rw (assigned, queue, walked, walks_far) w.walked;
      satisfied = λ x in_walk. ⊎_elim
          (λ (here : x ≡ v.entry). absurd (not_walked (sym at ∙ ap (lit_at new.watches.lits) (sym here) ∙ in_walk.literal ∙ walked)))
          (λ (ne : x ≢ v.entry).
          let old_in : IsInWalk old x
          = record { there = omega (arith, in_walk.there, size); literal = sym (others x ne) ∙ in_walk.literal ∙ walked; tier = sym (tiers x ne) ∙ in_walk.tier ∙ walks_far } in
          ⊎_elim
          (λ (waits : Contains old.watches.waiting x). inl (subst (λ (ws : List ℕ). Contains ws x) (sym waiting) (rest_of old.watches.waiting v.entry x next.first waits ne)))
          (λ (done : HasTrueLiteral (literals old.assigned.trail) (clause_at old.clauses.lists (x / 2))). inr (rw (assigned, clauses) done))
          (w.satisfied x old_in))
          (cases_eq x v.entry);
    }

none_behind : (trail : List Entry) (head : ℕ) (P : Entry → Type 0) → head ≡ length trail → All P (drop head trail)
none_behind trail head P seen = λ k d h. absurd (omega (arith, h, length-drop head trail, seen))

-- a literal is decided
pub joined_decided : (old new : Parts) (l : Literal) → AreJoined old → IsAllSeen old → IsAtEnd (literals old.assigned.trail) old.clauses.lists → trail_value (literals old.assigned.trail) l.var ≡ None
    → new.clauses ≡ old.clauses → new.watches ≡ old.watches → new.queue ≡ old.queue → new.assigned.vars ≡ old.assigned.vars
    → new.assigned.trail ≡ old.assigned.trail ++ record { literal = l; level = next_level old.assigned.trail None; reason = None } ∷ [] → AreJoined new
joined_decided old new l j seen ends free clauses watches queue vars more =
    let trail = old.assigned.trail in
    let x : Entry = record { literal = l; level = next_level trail None; reason = None } in
    record {
      grounded = rw (clauses, more) (grounded_push old.clauses.lists trail x j.grounded (next_stands old.clauses.lists trail l None free ends));
      watched = rw (clauses, watches, queue, more)
          (watched_push old.clauses.lists old.watches.lits trail old.queue.checked (heads_of old.queue old.watches.fars) j.watched x (λ e. j.head_in (far_at old.watches.fars e)) (λ c lt le. absurd (omega (arith, lt, le, seen.checked))));
      checked_in = rw (clauses, queue) j.checked_in;
      head_in = rw (queue, more) (λ far. omega (arith, j.head_in far, length_push trail x));
      present = rw (queue, more) (λ far.
          let h = place_in_queue old.queue far in
          subst (All (λ (e : Entry). e.level ≡ level_of (trail ++ x ∷ []))) (sym (drop-append-le h trail (x ∷ []) (j.head_in far)))
          (All-push (λ (e : Entry). e.level ≡ level_of (trail ++ x ∷ [])) (drop h trail) x
          (none_behind trail h (λ (e : Entry). e.level ≡ level_of (trail ++ x ∷ [])) (seen.head far)) (omega (arith, level_push trail x))));
      fars = rw watches j.fars;
      lists = rw (watches, vars) j.lists;
      blockers = rw (clauses, watches) j.blockers;
      rooms = rw (clauses, watches) j.rooms;
      in_range = rw (clauses, vars) j.in_range;
      clauses = rw clauses j.clauses;
    }

-- literals are taken back
pub joined_back : (old new : Parts) (level : ℕ) → AreJoined old → level < level_of old.assigned.trail → IsGrounded old.clauses.lists new.assigned.trail
    → new.clauses ≡ old.clauses → new.watches ≡ old.watches → new.queue.checked ≡ old.queue.checked → new.queue.head ≡ length new.assigned.trail → new.queue.far ≡ length new.assigned.trail → new.assigned.vars ≡ old.assigned.vars
    → new.assigned.trail ≡ filter (λ e. nat_le e.level level) old.assigned.trail → take (length new.assigned.trail) old.assigned.trail ≡ new.assigned.trail → AreJoined new
joined_back old new level j lower grounded clauses watches checked near far vars kept front =
    let head : (tier : Bool) → place_in_queue new.queue tier ≡ length new.assigned.trail = both_tiers new.queue (length new.assigned.trail) near far in
    record {
      grounded = rw clauses grounded;
      watched = rw (clauses, watches, checked)
          (watched_back old.clauses.lists old.watches.lits old.assigned.trail old.queue.checked (heads_of old.queue old.watches.fars) j.watched (λ e. j.present (far_at old.watches.fars e)) level new.assigned.trail lower kept front
          (heads_of new.queue old.watches.fars) (λ e. head (far_at old.watches.fars e)));
      checked_in = rw (clauses, checked) j.checked_in;
      head_in = λ far. omega (arith, head far);
      present = λ far. none_behind new.assigned.trail (place_in_queue new.queue far) (λ (e : Entry). e.level ≡ level_of new.assigned.trail) (head far);
      fars = rw watches j.fars;
      lists = rw (watches, vars) j.lists;
      blockers = rw (clauses, watches) j.blockers;
      rooms = rw (clauses, watches) j.rooms;
      in_range = rw (clauses, vars) j.in_range;
      clauses = rw clauses j.clauses;
    }

-- ---- what the literals of a clause are

code_most_by : (v : ℕ) (p : Bool) → code_of (record { var = v; positive = p }) ≤ 2 * v + 1
code_most_by v true = omega arith
code_most_by v false = omega arith

pub code_most : (l : Literal) → code_of l ≤ 2 * l.var + 1
code_most l = code_most_by l.var l.positive

-- the literal that is walked has a list
pub walked_listed : (p : Parts) → AreJoined p → IsWalking p → All (λ l. l.var ≤ p.assigned.vars) (literals p.assigned.trail) → code_of p.watches.walked < p.watches.lists
walked_listed p j w known =
    let trail = p.assigned.trail in
    let place = place_in_queue p.queue p.watches.walks_far in
    let there : Contains (literals trail) (negation p.watches.walked)
    = subst (λ (l : Literal). Contains (literals trail) l) w.walked
    (Rattle.sat_state.proofs.Guarded.literal_of_entry trail (get_or trail place some_entry) (Rattle.sat_state.proofs.Guarded.entry_at_place trail place some_entry w.more)) in
    let low : p.watches.walked.var ≤ p.assigned.vars = All-contains (λ (l : Literal). l.var ≤ p.assigned.vars) (literals trail) (negation p.watches.walked) known there in
    omega (arith, code_most p.watches.walked, low, j.lists)

-- the lists of two numbers of variables are those of the greater
pub most_within : (a b n : ℕ) → 2 * a + 2 ≤ n → 2 * b + 2 ≤ n → 2 * Rattle.std.proofs.Common.max a b + 2 ≤ n
most_within a b n first second = omega (arith, first, second)

code_two_by : (v : ℕ) (p : Bool) → 1 ≤ v → 2 ≤ code_of (record { var = v; positive = p })
code_two_by v true some = omega (arith, some)
code_two_by v false some = omega (arith, some)

pub code_two : (l : Literal) → 1 ≤ l.var → 2 ≤ code_of l
code_two l some = code_two_by l.var l.positive some

-- a literal of a variable has a code
pub code_some : (l : Literal) → 1 ≤ l.var → code_of l ≢ 0
code_some l some is = absurd (omega (arith, some, is))

pub none_open : (trues clause lits : List Literal) → lits ≡ clause → All (λ l. Rattle.cnf_core.specs.Literal.IsVariable l.var) lits → All (λ l. code_of l ≢ 0 → is_false trues l ≡ true) lits → IsFalsified trues clause
none_open trues clause lits same variables none =
    subst (IsFalsified trues) same
    (λ k d h. Contains-from_among trues (negation (get_or lits k d)) (none k d h (code_some (get_or lits k d) (variables k d h).0)))

pub two_open : (o : Option Literal) (trues clause : List Literal) (one : Literal) → Rattle.std.proofs.Common.is_some o ≡ true → Rattle.std.specs.Option.IfSome o (λ l. Contains clause l) → Rattle.std.specs.Option.IfSome o (λ l. l ≢ one)
    → Rattle.std.specs.Option.IfSome o (λ l. is_false trues l ≡ false) → Contains clause one → is_false trues one ≡ false → HasTwoNotFalse trues clause
two_open None trues clause one some in_clause other not_false one_in one_open = absurd (let no : ⊥ = cc some in no)
two_open (Some l) trues clause one some in_clause other not_false one_in one_open = record {
  one = l;
  other = one;
  two = other;
  one_in = in_clause;
  other_in = one_in;
  one_not_false = not_among trues (negation l) not_false;
  other_not_false = not_among trues (negation one) one_open;
}

pub pushed_true : (trail : List Entry) (x : Entry) → Contains (literals (trail ++ x ∷ [])) x.literal
pushed_true trail x =
    subst (λ (ls : List Literal). Contains ls x.literal) (sym (literals_push trail x))
    (Rattle.std.proofs.lemmas.List.Elements.Contains-append_right (literals trail) (x.literal ∷ []) x.literal (Contains-here x.literal []))

-- all literals of the clause but one are false
pub gives_by : (trues clause : List Literal) (one : Literal) → Contains clause one → All (λ l. l ≢ one → is_false trues l ≡ true) clause → Gives trues clause one
gives_by trues clause one in_clause none = record {
  in_clause = in_clause;
  others_false = λ l h ne. Contains-from_among trues (negation l) (All-contains (λ (x : Literal). x ≢ one → is_false trues x ≡ true) clause l none h ne);
}

pub falsified_by : (trues clause : List Literal) (one : Literal) → is_false trues one ≡ true → All (λ l. l ≢ one → is_false trues l ≡ true) clause → IsFalsified trues clause
falsified_by trues clause one falsified none =
    λ k d h. elim (Rattle.sat_state.proofs.Ends.same_or_not (get_or clause k d) one) [
      | inl same ↦ subst (λ (x : Literal). Contains trues (negation x)) (sym same) (Contains-from_among trues (negation one) falsified)
      | inr ne ↦ Contains-from_among trues (negation (get_or clause k d)) (none k d h ne)
    ]

module _ (old : Parts) (j : AreJoined old) (w : IsWalking old) (v : Watched) (next : IsNext old.watches v) (f : ℕ) (p : ArePartners v.entry f) where
  pub other_there : f < length old.watches.lits
  other_there = omega (arith, entry_clause old j w v next, p.clause, j.watched.entries)

  pub other_pair : IsPair (clause_at old.clauses.lists (v.entry / 2)) (lit_at old.watches.lits f) (lit_at old.watches.lits v.entry)
  other_pair =
      subst (λ (n : ℕ). IsPair (clause_at old.clauses.lists n) (lit_at old.watches.lits f) (lit_at old.watches.lits v.entry)) (sym p.clause)
      (j.watched.pairs f v.entry (turned v.entry f p) other_there (j.watched.both v.entry f p next.there (entry_some old j w v next w.some)))

  pub other_var : 1 ≤ (lit_at old.watches.lits f).var
  other_var = var_some old j (v.entry / 2) (lit_at old.watches.lits f) (entry_clause old j w v next) other_pair.in_clause

  -- so is the entry beside the other literal
  pub beside_other : (x : Watched) → x ≡ record { entry = v.entry; pair = false; blocker = lit_at old.watches.lits f } → IsOfClause old.clauses.lists old.watches.lits x
  beside_other x is = subst (IsOfClause old.clauses.lists old.watches.lits) (sym is) (record { there = next.there; two = λ e. absurd (false≢true e); in_clause = other_pair.in_clause })

  pub open_not_walked : (l : Literal) → is_false (literals old.assigned.trail) l ≡ false → l ≢ old.watches.walked
  open_not_walked l not_false same =
      not_among (literals old.assigned.trail) (negation l) not_false (subst (λ (x : Literal). Contains (literals old.assigned.trail) (negation x)) (sym same) (walked_false old j w v next))

-- where the entry moves, there is room in the list of the literal
module _ (old : Parts) (j : AreJoined old) (w : IsWalking old) (v : Watched) (next : IsNext old.watches v) (l : Literal) (lg : 2 ≤ length (clause_at old.clauses.lists (v.entry / 2))) (in_clause : Contains (clause_at old.clauses.lists (v.entry / 2)) l)
    (not_false : is_false (literals old.assigned.trail) l ≡ false) (f : ℕ) (p : ArePartners v.entry f) (not_other : l ≢ lit_at old.watches.lits f) where
  abbrev without : List Literal
  without = set old.watches.lits v.entry no_lit

  pub moved_links : links without (code_of l) < uses old.clauses.lists (code_of l)
  moved_links =
      let e = v.entry in
      let now = set without e l in
      let trail = old.assigned.trail in
      let heads = heads_of old.queue old.watches.fars in
      let size : length without ≡ length old.watches.lits = length-set old.watches.lits e no_lit in
      let there : e < length without = omega (arith, next.there, size) in
      let none : lit_at without e ≡ no_lit = get_or-set_same old.watches.lits e no_lit no_lit next.there in
      let some : 2 ≤ code_of l = code_two l (var_some old j (e / 2) l (entry_clause old j w v next) in_clause) in
      let watched = watched_moved old.clauses.lists old.watches.lits trail old.queue.checked heads j.watched (joined_consistent old j) (joined_low old j) w.checked now heads e l
      (length-set without e l ∙ size) next.there (get_or-set_same without e l no_lit there)
      (λ x ne. get_or-set_other without e x l no_lit ne ∙ get_or-set_other old.watches.lits e x no_lit no_lit ne) (λ x ne. refl) (entry_some old j w v next w.some) (var_some old j (e / 2) l (entry_clause old j w v next) in_clause) in_clause
      (λ g q. subst (λ (z : ℕ). l ≢ lit_at old.watches.lits z) (sym (same_partner f e g (turned e f p) (turned e g q))) not_other)
      (not_among (literals trail) (negation l) not_false) in
      omega (arith, links_set without e l there none some, links_below old.clauses.lists now trail old.queue.checked heads watched (code_of l) some)

pub first_is : (waiting : List ℕ) (e : ℕ) → waiting ≡ e ∷ drop 1 waiting → get_or waiting 0 0 ≡ e
first_is waiting e is = ap (λ (ws : List ℕ). get_or ws 0 0) is

-- ---- what a clause watches

module _ (p : Parts) (j : AreJoined p) (n : ℕ) (there : n < length p.clauses.lists) (some : 1 ≤ (lit_at p.watches.lits (2 * n)).var) where
  pub first_place : (2 * n) / 2 ≡ n
  first_place = omega arith

  pub second_place : (2 * n + 1) / 2 ≡ n
  second_place = omega arith

  pub sides : ArePartners (2 * n) (2 * n + 1)
  sides = record { clause = omega (arith, first_place, second_place); apart = λ same. absurd (omega (arith, same)) }

  pub pair_there : 2 * n + 1 < length p.watches.lits
  pair_there = omega (arith, j.watched.entries, there)

  pub first_pair : IsPair (clause_at p.clauses.lists n) (lit_at p.watches.lits (2 * n)) (lit_at p.watches.lits (2 * n + 1))
  first_pair =
      subst (λ (k : ℕ). IsPair (clause_at p.clauses.lists k) (lit_at p.watches.lits (2 * n)) (lit_at p.watches.lits (2 * n + 1))) first_place
      (j.watched.pairs (2 * n) (2 * n + 1) sides (omega (arith, pair_there)) some)

  pub second_var : 1 ≤ (lit_at p.watches.lits (2 * n + 1)).var
  second_var = j.watched.both (2 * n) (2 * n + 1) sides (omega (arith, pair_there)) some

  pub second_pair : IsPair (clause_at p.clauses.lists n) (lit_at p.watches.lits (2 * n + 1)) (lit_at p.watches.lits (2 * n))
  second_pair =
      subst (λ (k : ℕ). IsPair (clause_at p.clauses.lists k) (lit_at p.watches.lits (2 * n + 1)) (lit_at p.watches.lits (2 * n))) second_place
      (j.watched.pairs (2 * n + 1) (2 * n) (turned (2 * n) (2 * n + 1) sides) pair_there second_var)

  whole_guard : (e : ℕ) → e / 2 ≡ n → 1 ≤ (lit_at p.watches.lits e).var → IsAllSeen p → Guards p.assigned.trail (length p.assigned.trail) (lit_at p.watches.lits e) (clause_at p.clauses.lists n)
  whole_guard e place one seen =
      subst (λ (k : ℕ). Guards p.assigned.trail (length p.assigned.trail) (lit_at p.watches.lits e) (clause_at p.clauses.lists k)) place
      (subst (λ (k : ℕ). Guards p.assigned.trail k (lit_at p.watches.lits e) (clause_at p.clauses.lists (e / 2))) (seen.head (far_at p.watches.fars e))
      (j.watched.guarded e (omega (arith, place, seen.checked, there)) one))

  pub first_guard : IsAllSeen p → Guards p.assigned.trail (length p.assigned.trail) (lit_at p.watches.lits (2 * n)) (clause_at p.clauses.lists n)
  first_guard = whole_guard (2 * n) first_place some

  pub second_guard : IsAllSeen p → Guards p.assigned.trail (length p.assigned.trail) (lit_at p.watches.lits (2 * n + 1)) (clause_at p.clauses.lists n)
  second_guard = whole_guard (2 * n + 1) second_place second_var

-- ---- the literal that guards a false one

-- a literal that isn't false is guarded by any
pub guarded_open : (trail : List Entry) (l other : Literal) → (Contains (literals trail) (negation l) → ⊥) → IsGuarded trail l other
guarded_open trail l other true_yet k d h is =
    absurd (true_yet (subst (λ (x : Literal). Contains (literals trail) x) is
    (Rattle.sat_state.proofs.Guarded.literal_of_entry trail (get_or trail k d) (Rattle.sat_state.proofs.Guarded.entry_at_place trail k d h))))
