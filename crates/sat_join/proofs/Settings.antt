-- What is known wherever the loop over the steps of a cube is.
use Rattle.std.proofs.Common.{◌≡◌, ℕ, ◌+◌, ◌-◌, ◌^◌, ◌<◌, ◌≤◌, true, false, inl, inr, List, [], ◌∷◌, ◌++◌, length, take, drop, refl, ap, ◌∙◌, sym, subst, arith}
use Rattle.std.specs.Prelude.{All, map}
use Rattle.std.proofs.lemmas.Bool.{cases_lt, false≢true}
use Rattle.std.proofs.lemmas.List.{drop_more, get_or-append-add, length-append, length-take-le, take-append-drop, take_at, take_more}
use Rattle.std.proofs.lemmas.List.Elements.{All-from_get_or, All-get_or, All-weaker}
use Rattle.cnf_core.specs.Literal.{Literal, IsClause}
use Rattle.cnf_core.specs.Events.{LogEvent, LogState, clause_of, given, step, is_given, is_nonempty_step, event_at, HintsAreThere}
use Rattle.cnf_core.specs.Steps.{IsValidStep, NonEmptyStepsAreEffective}
use Rattle.sat_split.specs.Cubes.{cube_literals, cube_log, unit_of}
use Rattle.sat_join.specs.Joins.{RefutesCubes, CanJoin, KeepsNew, ArePlaces, IsWidened, Refutes}
use Rattle.sat_join.proofs.Growing.{IsJoining, joining_begun, step_valid, step_effective, joining_more, joining_new, places_there, joint_next, length_cube}
use Rattle.sat_join.proofs.Turns.{not_ended, both_given}

-- the next cube can be joined, and the first place of the steps that are joined is known
pub record IsSet (givens : List (List Literal)) (vars ends : List ℕ) (literals : List Literal) (first : ℕ) (refuted joined : List LogEvent) : Type 0 where
  pub can : CanJoin givens vars ends refuted joined
  pub are : literals ≡ cube_literals (length ends) vars
  pub at : first ≡ length joined

pub set_up : (givens clauses : List (List Literal)) (vars ends : List ℕ) (literals : List Literal) (number first : ℕ) (refuted start : List LogEvent) → CanJoin clauses vars ends refuted start → givens ≡ clauses
    → literals ≡ cube_literals number vars → number ≡ length ends → first ≡ length start → IsSet givens vars ends literals first refuted start
set_up givens clauses vars ends literals number first refuted start can same are counted at = record {
  can = subst (λ (cs : List (List Literal)). CanJoin cs vars ends refuted start) (sym same) can;
  are = are ∙ ap (λ (n : ℕ). cube_literals n vars) counted;
  at = at;
}

-- each step of a cube's log up to a place has a literal
abbrev pub HaveLiterals : ℕ → ℕ → List LogEvent → Type 0
HaveLiterals from place events = (k : ℕ) → from ≤ k → k < place → is_nonempty_step (event_at events k) ≡ true

-- a clause with a literal, and one without
pub nonempty_step : (clause : List Literal) (hints : List ℕ) → 0 < length clause → is_nonempty_step (step clause hints) ≡ true
nonempty_step [] hints some = absurd (omega (arith, some))
nonempty_step (l ∷ clause) hints some = refl

module _ {givens : List (List Literal)} {vars ends : List ℕ} {literals : List Literal} {first : ℕ} {refuted start : List LogEvent}
    (set : IsSet givens vars ends literals first refuted start) where
  abbrev cube : List LogEvent
  cube = (cube_log givens literals).events

  abbrev steps : List LogEvent
  steps = set.can.refutation.steps

  split : refuted ≡ cube ++ steps
  split = set.can.refutation.events_are ∙ ap (λ (ls : List Literal). (cube_log givens ls).events ++ set.can.refutation.steps) (sym set.are)

  -- the event behind so many steps
  step_there : (k : ℕ) → event_at refuted (length givens + length literals + k) ≡ event_at steps k
  step_there k =
      let place : length givens + length literals + k ≡ length cube + k = omega (arith, length_cube givens literals) in
      ap (λ (es : List LogEvent). event_at es (length givens + length literals + k)) split
      ∙ ap (λ (n : ℕ). event_at (cube ++ steps) n) place
      ∙ get_or-append-add cube steps k (given [])

  pub begun : (place : ℕ) → place ≡ length givens + length literals → IsJoining givens vars ends literals first (take place refuted) start
  begun place is =
      subst (λ (es : List LogEvent). IsJoining givens vars ends literals first es start)
      (sym (ap (take place) split ∙ take_at cube steps place (length_cube givens literals ∙ sym is)))
      (joining_begun givens vars ends literals first start set.can.joint set.at)

  -- no event of the cube's log behind the first is a given
  pub never_given : (place : ℕ) → length givens + length literals ≤ place → place < length refuted → event_at refuted place ≡ given (clause_of (event_at refuted place)) → ⊥
  never_given place from below given_is =
      let k = place - (length givens + length literals) in
      let here : length givens + length literals + k ≡ place = omega (arith, from) in
      let size : length refuted ≡ length cube + length steps = ap (λ (es : List LogEvent). length es) split ∙ length-append cube steps in
      let there : event_at refuted place ≡ event_at steps k = ap (λ (n : ℕ). event_at refuted n) (sym here) ∙ step_there k in
      let isnt : is_given (event_at steps k) ≡ false =
      All-get_or (λ e. is_given e ≡ false) steps k (given []) (omega (arith, from, below, size, length_cube givens literals)) set.can.refutation.are_steps in
      false≢true (sym isnt ∙ ap (λ (e : LogEvent). is_given e) (sym there ∙ given_is))

  here : (place : ℕ) (clause : List Literal) (hints : List ℕ) → place < length refuted → event_at refuted place ≡ step clause hints
      → refuted ≡ take place refuted ++ step clause hints ∷ drop (place + 1) refuted
  here place clause hints below is =
      sym (take-append-drop place refuted)
      ∙ ap (λ (es : List LogEvent). take place refuted ++ es) (drop_more refuted place (given []) below ∙ ap (λ (e : LogEvent). e ∷ drop (place + 1) refuted) is)

  next : (place : ℕ) (clause : List Literal) (hints : List ℕ) → place < length refuted → event_at refuted place ≡ step clause hints
      → take (place + 1) refuted ≡ take place refuted ++ step clause hints ∷ []
  next place clause hints below is = take_more refuted place (given []) below ∙ ap (λ (e : LogEvent). take place refuted ++ e ∷ []) is

  pub known : (place : ℕ) (clause : List Literal) (hints : List ℕ) → place < length refuted → event_at refuted place ≡ step clause hints → IsValidStep (take place refuted) clause hints
  known place clause hints below is =
      step_valid refuted (take place refuted) (drop (place + 1) refuted) clause hints set.can.refutation.valid (here place clause hints below is)

  -- no place is beyond the numbers that there are
  pub bounded : (place : ℕ) (clause : List Literal) (hints : List ℕ) → place < length refuted → event_at refuted place ≡ step clause hints
      → first < 2 ^ 63 → length refuted < 2 ^ 63 → All (λ h. first + h < 2 ^ 64) hints
  bounded place clause hints below is low few =
      let long : length (take place refuted) ≡ place = length-take-le place refuted (omega (arith, below)) in
      All-weaker (λ (h : ℕ). h < length (take place refuted)) (λ (h : ℕ). first + h < 2 ^ 64) (λ h there. omega (arith, there, long, below, low, few)) hints
      (known place clause hints below is).hints_are_there

  pub places_stand : (place : ℕ) (clause : List Literal) (hints : List ℕ) (places : List ℕ) (joined : List LogEvent) → place < length refuted → event_at refuted place ≡ step clause hints
      → IsJoining givens vars ends literals first (take place refuted) joined → ArePlaces givens literals first hints places → HintsAreThere joined places
  places_stand place clause hints places joined below is joining placed =
      places_there givens vars ends literals first (take place refuted) joined set.can.divides set.can.is_cube set.are joining clause hints places (known place clause hints below is) placed

  pub more : (place : ℕ) (clause : List Literal) (hints : List ℕ) (places : List ℕ) (joined : List LogEvent) (wide : List Literal) → place < length refuted → event_at refuted place ≡ step clause hints
      → IsJoining givens vars ends literals first (take place refuted) joined → ArePlaces givens literals first hints places → IsClause wide → IsWidened literals clause wide
      → IsJoining givens vars ends literals first (take (place + 1) refuted) (joined ++ step wide places ∷ [])
  more place clause hints places joined wide below is joining placed is_clause widened =
      subst (λ (es : List LogEvent). IsJoining givens vars ends literals first es (joined ++ step wide places ∷ []))
      (sym (next place clause hints below is))
      (joining_more givens vars ends literals first (take place refuted) joined set.can.divides set.can.is_cube set.are joining clause wide hints places (known place clause hints below is) placed is_clause widened)

  -- which is new, if the cube's steps are effective
  pub more_new : (place : ℕ) (clause : List Literal) (hints : List ℕ) (places : List ℕ) (joined : List LogEvent) (wide : List Literal) → place < length refuted → event_at refuted place ≡ step clause hints
      → IsJoining givens vars ends literals first (take place refuted) joined → 0 < length clause → IsWidened literals clause wide → NonEmptyStepsAreEffective refuted → KeepsNew joined (joined ++ step wide places ∷ [])
  more_new place clause hints places joined wide below is joining some widened effective =
      joining_new givens vars ends literals first (take place refuted) joined set.can.divides set.can.is_cube set.are joining clause wide places
      (step_effective refuted (take place refuted) (drop (place + 1) refuted) clause hints effective (here place clause hints below is) some) widened

  pub last : (at : ℕ) (clause : List Literal) (hints : List ℕ) (places : List ℕ) (old new : LogState) (place : ℕ) → at < length refuted → event_at refuted at ≡ step clause hints
      → IsJoining givens vars ends literals first (take at refuted) old.events → ArePlaces givens literals first hints places → clause ≡ [] → Refutes old new literals places place
      → RefutesCubes givens vars (ends ++ place ∷ []) new.events × KeepsNew old.events new.events
  last at clause hints places old new place below is joining placed none refutes =
      joint_next givens vars ends literals first (take at refuted) old.events set.can.divides set.can.is_cube set.are joining hints places old new place refl
      (subst (λ (c : List Literal). IsValidStep (take at refuted) c hints) none (known at clause hints below is)) placed refutes

  pub some_more : (place : ℕ) (clause : List Literal) (hints : List ℕ) → event_at refuted place ≡ step clause hints → 0 < length clause
      → HaveLiterals (length givens + length literals) place refuted → HaveLiterals (length givens + length literals) (place + 1) refuted
  some_more place clause hints is some before = λ k from below.
      elim (cases_lt k place) [
        | inl lt ↦ before k from lt
        | inr le ↦
            let same : k ≡ place = omega (arith, below, le) in
            ap (λ (n : ℕ). is_nonempty_step (event_at refuted n)) same ∙ ap (λ (e : LogEvent). is_nonempty_step e) is ∙ nonempty_step clause hints some
      ]

  pub never_ends : (place : ℕ) → length refuted ≤ place → HaveLiterals (length givens + length literals) place refuted → ⊥
  never_ends place all some =
      let size : length refuted ≡ length cube + length steps = ap (λ (es : List LogEvent). length es) split ∙ length-append cube steps in
      not_ended cube steps refuted split (both_given givens (map unit_of literals))
      (All-from_get_or (λ e. is_nonempty_step e ≡ true) steps (given []) (λ k below.
      ap (λ (e : LogEvent). is_nonempty_step e) (sym (step_there k))
      ∙ some (length givens + length literals + k) (omega arith) (omega (arith, below, all, size, length_cube givens literals))))
      set.can.refutation.ends
