-- Joining the steps of a cube.
use Rattle.std.proofs.Common.{◌≡◌, ℕ, ◌+◌, ◌-◌, ◌^◌, ◌<◌, true, false, ◌⊎◌, inl, inr, List, [], ◌∷◌, ◌++◌, length, get_or, refl, ap, ◌∙◌, sym, subst, arith, append_assoc}
use Rattle.std.specs.Prelude.{All, Contains, map}
use Rattle.std.proofs.lemmas.Bool.{cases_lt}
use Rattle.std.proofs.lemmas.List.{append-nil, length-map, length-append, length_push, get_or_append_left, get_or-append_right, get_or-map, get_or_push, map-append}
use Rattle.std.proofs.lemmas.List.Elements.{All-contains, All-nil, All-push, Contains-append_left, Contains-append_right, Contains-append_cases, Contains-push, Contains-push_cases, Contains-get_or}
use Rattle.cnf_core.specs.Literal.{Literal, negation, IsClause, HaveSameLiterals}
use Rattle.cnf_core.specs.Events.{LogEvent, LogState, given, step, clause_of, clauses_of, givens, is_given, HintsAreThere}
use Rattle.cnf_core.specs.Steps.{clauses_at, IsValidStep, IsEffectiveStep, IsValidLog, NonEmptyStepsAreEffective, StandsInGiven}
use Rattle.cnf_core.proofs.Members.{All-from_contains, Contains-here, Contains-there, Contains-cases, none_in_nil}
use Rattle.cnf_core.proofs.Following.{EachStep-split, clauses_of-push}
use Rattle.sat_split.specs.Cubes.{cube_literals, all_given, unit_of, cube_log}
use Rattle.sat_split.proofs.Cubes.{cubes_differ}
use Rattle.sat_join.specs.Joins.{clause_at, IsRefutedAt, IsLogOfClauses, RefutesCubes, KeepsNew, IsOfCubes, HasNegations, Divides, ArePlaces, IsWidened, Refutes}
use Rattle.sat_join.proofs.Wider.{Contains-map, wide_shown}
use Rattle.sat_join.proofs.News.{AreApart, ComesFrom, new_wide}
use Rattle.sat_join.proofs.Events.{clause_at-left, clause_at-push, refuted_left, givens_before, clauses-given, joined_step, new_step}
use Rattle.sat_join.proofs.Refuting.{IsRefuting, named_stands, apart, cube_named, refuting}
use Rattle.sat_join.proofs.Hinted.{Follows, places_mirror}

Contains-unit : (ls : List Literal) (l : Literal) → Contains ls l → Contains (map unit_of ls) (l ∷ [])
Contains-unit [] l found = absurd (none_in_nil l found)
Contains-unit (m ∷ ls) l found = elim (Contains-cases m ls l found) [
  | inl here ↦ subst (λ (x : Literal). Contains (map unit_of (m ∷ ls)) (x ∷ [])) here (Contains-here (m ∷ []) (map unit_of ls))
  | inr there ↦ Contains-there (m ∷ []) (map unit_of ls) (l ∷ []) (Contains-unit ls l there)
]

Contains-from_unit : (ls clause : List Literal) → Contains (map unit_of ls) clause → (l : Literal) × Contains ls l × (l ∷ [] ≡ clause)
Contains-from_unit [] clause found = absurd (none_in_nil clause found)
Contains-from_unit (m ∷ ls) clause found = elim (Contains-cases (m ∷ []) (map unit_of ls) clause found) [
  | inl here ↦ (m, Contains-here m ls, here)
  | inr there ↦ let rest = Contains-from_unit ls clause there in (rest.0, Contains-there m ls rest.0 rest.1, rest.2)
]

-- the clauses with which a cube's search begins
abbrev begun : List (List Literal) → List Literal → List (List Literal)
begun clauses literals = clauses ++ map unit_of literals

cube_given : (clauses : List (List Literal)) (literals : List Literal) → (cube_log clauses literals).events ≡ all_given (begun clauses literals)
cube_given clauses literals = sym (map-append given clauses (map unit_of literals))

-- a joined clause comes from a cube below, or from an event of this one, with the negation of each of its literals
abbrev IsOfThis : List LogEvent → List Literal → List Literal → Type 0
IsOfThis before literals other =
    (old : List Literal) × Contains (clauses_of before) old × ((l : Literal) → Contains old l → Contains other l) × HasNegations literals other

-- the steps of a cube are joined as far as these events of its log
pub record IsJoining (clauses : List (List Literal)) (vars ends : List ℕ) (literals : List Literal) (first : ℕ) (before joined : List LogEvent) : Type 0 where
  pub part : List LogEvent
  pub before_is : before ≡ (cube_log clauses literals).events ++ part
  pub part_steps : All (λ e. is_given e ≡ false) part
  pub follows : Follows clauses literals first before joined
  pub is_joined : IsLogOfClauses clauses joined
  pub refuted : (c : ℕ) → c < length ends → IsRefutedAt joined (cube_literals c vars) (get_or ends c 0)
  pub origins : (other : List Literal) → Contains (clauses_of joined) other → IsOfCubes clauses vars (length ends) other ⊎ IsOfThis before literals other

clauses_begun : (clauses : List (List Literal)) (literals : List Literal) (before part : List LogEvent) → before ≡ (cube_log clauses literals).events ++ part → clauses_of before ≡ begun clauses literals ++ clauses_of part
clauses_begun clauses literals before part is =
    ap clauses_of is ∙ map-append clause_of (cube_log clauses literals).events part
    ∙ ap (λ (cs : List (List Literal)). cs ++ clauses_of part) (ap clauses_of (cube_given clauses literals) ∙ clauses-given (begun clauses literals))

length_begun : (clauses : List (List Literal)) (literals : List Literal) → length (begun clauses literals) ≡ length clauses + length literals
length_begun clauses literals = omega (arith, length-append clauses (map unit_of literals), length-map literals unit_of)

pub length_cube : (clauses : List (List Literal)) (literals : List Literal) → length (cube_log clauses literals).events ≡ length clauses + length literals
length_cube clauses literals =
    omega (arith, ap (λ (es : List LogEvent). length es) (cube_given clauses literals), length-map (begun clauses literals) given, length_begun clauses literals)

-- what follows at the beginning
follows_begun : (clauses : List (List Literal)) (literals : List Literal) (first : ℕ) (joined : List LogEvent) → IsLogOfClauses clauses joined → first ≡ length joined → Follows clauses literals first (cube_log clauses literals).events joined
follows_begun clauses literals first joined is at = record {
  counted = omega (arith, at, length_cube clauses literals);
  whole = omega (arith, length_cube clauses literals);
  enough = omega (arith, ap (λ (es : List LogEvent). length es) is.events_are, length-append (all_given clauses) is.steps, length-map clauses given);
  givens_before = λ h below. ap (λ (cs : List (List Literal)). get_or cs h []) cube_clauses ∙ get_or_append_left clauses (map unit_of literals) [] h below;
  givens_joined = λ h below.
      ap (λ (cs : List (List Literal)). get_or cs h []) (ap clauses_of is.events_are ∙ map-append clause_of (all_given clauses) is.steps ∙ ap (λ (cs : List (List Literal)). cs ++ clauses_of is.steps) (clauses-given clauses))
      ∙ get_or_append_left clauses (clauses_of is.steps) [] h below;
  own = λ h from below.
      let d : Literal = record { var = 0; positive = true } in
      let within : h - length clauses < length literals = omega (arith, from, below) in (
        get_or literals (h - length clauses) d,
        Contains-get_or literals (h - length clauses) d within,
        ap (λ (cs : List (List Literal)). get_or cs h []) cube_clauses
            ∙ get_or-append_right clauses (map unit_of literals) (length clauses) h [] refl from
            ∙ get_or-map unit_of literals (h - length clauses) d [] within,
      );
  steps = λ h place from below is'. absurd (omega (arith, from, below, length_cube clauses literals));
}
  where
    cube_clauses : clauses_of (cube_log clauses literals).events ≡ begun clauses literals
    cube_clauses = ap clauses_of (cube_given clauses literals) ∙ clauses-given (begun clauses literals)

pub joining_begun : (clauses : List (List Literal)) (vars ends : List ℕ) (literals : List Literal) (first : ℕ) (joined : List LogEvent) → RefutesCubes clauses vars ends joined → first ≡ length joined → IsJoining clauses vars ends literals first (cube_log clauses literals).events joined
joining_begun clauses vars ends literals first joined joint at = record {
  part = [];
  before_is = sym (append-nil (cube_log clauses literals).events);
  part_steps = All-nil (λ e. is_given e ≡ false);
  follows = follows_begun clauses literals first joined joint.joined at;
  is_joined = joint.joined;
  refuted = joint.refuted;
  origins = λ other found. inl (All-contains (IsOfCubes clauses vars (length ends)) (clauses_of joined) other joint.origins found);
}

-- a step of the cube's log is valid
pub step_valid : (refuted before after : List LogEvent) (clause : List Literal) (hints : List ℕ) → IsValidLog refuted → refuted ≡ before ++ step clause hints ∷ after → IsValidStep before clause hints
step_valid refuted before after clause hints valid is = (EachStep-split IsValidStep [] before after clause hints (subst IsValidLog is valid)).1

-- one with a literal is effective
pub step_effective : (refuted before after : List LogEvent) (clause : List Literal) (hints : List ℕ) → NonEmptyStepsAreEffective refuted → refuted ≡ before ++ step clause hints ∷ after → 0 < length clause → IsEffectiveStep before clause
step_effective refuted before after clause hints effective is =
    (EachStep-split (λ earlier c hs. 0 < length c → IsEffectiveStep earlier c) [] before after clause hints (subst NonEmptyStepsAreEffective is effective)).1

module _ (clauses : List (List Literal)) (vars ends : List ℕ) (literals : List Literal) (first : ℕ) (before joined : List LogEvent)
    (divides : Divides clauses vars) (is_cube : length ends < 2 ^ length vars) (are : literals ≡ cube_literals (length ends) vars)
    (joining : IsJoining clauses vars ends literals first before joined) where
  separate : AreApart literals
  separate = apart clauses vars (length ends) literals are divides

  known : clauses_of before ≡ begun clauses literals ++ clauses_of joining.part
  known = clauses_begun clauses literals before joining.part joining.before_is

  units : (q : Literal) → Contains literals q → Contains (clauses_of before) (q ∷ [])
  units q found =
      subst (λ (cs : List (List Literal)). Contains cs (q ∷ [])) (sym known)
      (Contains-append_left (begun clauses literals) (clauses_of joining.part) (q ∷ [])
      (Contains-append_right clauses (map unit_of literals) (q ∷ []) (Contains-unit literals q found)))

  of_formula : (clause : List Literal) → Contains clauses clause → Contains (clauses_of before) clause
  of_formula clause found =
      subst (λ (cs : List (List Literal)). Contains cs clause) (sym known)
      (Contains-append_left (begun clauses literals) (clauses_of joining.part) clause (Contains-append_left clauses (map unit_of literals) clause found))

  pub cube_stands : (q : Literal) → Contains literals q → StandsInGiven joined q.var
  cube_stands q found = named_stands clauses joined q.var joining.is_joined (cube_named clauses vars (length ends) literals are divides q found)

  stands : (v : ℕ) → StandsInGiven before v → StandsInGiven joined v
  stands v there = elim (Contains-append_cases clauses (map unit_of literals) there.clause (subst (λ (cs : List (List Literal)). Contains cs there.clause) same there.is_given)) [
    | inl in_formula ↦ named_stands clauses joined v joining.is_joined (record { clause = there.clause; literal = there.literal; is_there = in_formula; in_clause = there.in_clause; names = there.names })
    | inr in_cube ↦
        let unit = Contains-from_unit literals there.clause in_cube in
        let one : unit.0 ≡ there.literal = single unit.0 there.literal (subst (λ (c : List Literal). Contains c there.literal) (sym unit.2) there.in_clause) in
        subst (StandsInGiven joined) (ap (λ (l : Literal). l.var) one ∙ there.names) (cube_stands unit.0 unit.1)
  ]
    where
      single : (l x : Literal) → Contains (l ∷ []) x → l ≡ x
      single l x found = elim (Contains-cases l [] x found) [ inl is ↦ is | inr none ↦ absurd (none_in_nil x none) ]

      same : givens before ≡ begun clauses literals
      same = givens_before (begun clauses literals) joining.part before
          (joining.before_is ∙ ap (λ (es : List LogEvent). es ++ joining.part) (cube_given clauses literals)) joining.part_steps

  comes_from : (other : List Literal) → Contains (clauses_of joined) other → ComesFrom before literals other
  comes_from other found = elim (joining.origins other found) [
    | inl of_cubes ↦ elim of_cubes [
      | inl in_formula ↦ inl (other, of_formula other in_formula, λ l there. there)
      | inr below ↦
          let differ = cubes_differ below.0 (length ends) vars (omega (arith, below.1, is_cube)) is_cube (λ e. omega (arith, e, below.1)) in
          inr (
            negation differ.0,
            subst (λ (ls : List Literal). Contains ls (negation differ.0)) (sym are) differ.2,
            All-contains (λ l. Contains other (negation l)) (cube_literals below.0 vars) differ.0 below.2 differ.1,
          )
    ]
    | inr this ↦ inl (this.0, this.1, this.2)
  ]

  follows_more : (clause wide : List Literal) (hints places : List ℕ) → IsWidened literals clause wide → Follows clauses literals first (before ++ step clause hints ∷ []) (joined ++ step wide places ∷ [])
  follows_more clause wide hints places widened =
      let f = joining.follows in
      record {
        counted = omega (arith, f.counted, length_push before (step clause hints), length_push joined (step wide places));
        whole = omega (arith, f.whole, length_push before (step clause hints));
        enough = omega (arith, f.enough, length_push joined (step wide places));
        givens_before = λ h below. clause_at-left before (step clause hints) h (omega (arith, below, f.whole)) ∙ f.givens_before h below;
        givens_joined = λ h below. clause_at-left joined (step wide places) h (omega (arith, below, f.enough)) ∙ f.givens_joined h below;
        own = λ h from below.
            let unit = f.own h from below in
            (unit.0, unit.1, clause_at-left before (step clause hints) h (omega (arith, below, f.whole)) ∙ unit.2);
        steps = λ h place from below at. elim (cases_lt h (length before)) [
          | inl old ↦
              let there : place < length joined = omega (arith, old, at, f.counted) in
              subst (λ (c : List Literal). IsWidened literals (clause_at (before ++ step clause hints ∷ []) h) c) (sym (clause_at-left joined (step wide places) place there))
              (subst (λ (c : List Literal). IsWidened literals c (clause_at joined place)) (sym (clause_at-left before (step clause hints) h old)) (f.steps h place from old at))
          | inr new ↦
              let here : h ≡ length before = omega (arith, new, below, length_push before (step clause hints)) in
              let there : place ≡ length joined = omega (arith, here, at, f.counted) in
              subst (λ (c : List Literal). IsWidened literals (clause_at (before ++ step clause hints ∷ []) h) c) (sym (clause_at-push joined (step wide places) place there))
              (subst (λ (c : List Literal). IsWidened literals c wide) (sym (clause_at-push before (step clause hints) h here)) widened)
        ];
      }

  origins_more : (clause wide : List Literal) (hints places : List ℕ) → IsWidened literals clause wide → (other : List Literal) → Contains (clauses_of (joined ++ step wide places ∷ [])) other
      → IsOfCubes clauses vars (length ends) other ⊎ IsOfThis (before ++ step clause hints ∷ []) literals other
  origins_more clause wide hints places widened other found =
      let longer : (c : List Literal) → Contains (clauses_of before ++ clause ∷ []) c → Contains (clauses_of (before ++ step clause hints ∷ [])) c =
      λ c there. subst (λ (cs : List (List Literal)). Contains cs c) (sym (clauses_of-push before (step clause hints))) there in
      elim (Contains-push_cases (clauses_of joined) wide other (subst (λ (cs : List (List Literal)). Contains cs other) (clauses_of-push joined (step wide places)) found)) [
        | inl old ↦ elim (joining.origins other old) [
          | inl below ↦ inl below
          | inr this ↦ inr (this.0, longer this.0 (Contains-append_left (clauses_of before) (clause ∷ []) this.0 this.1), this.2, this.3)
        ]
        | inr is ↦ inr (
          clause,
          longer clause (Contains-push (clauses_of before) clause),
          λ l there. subst (λ (c : List Literal). Contains c l) is
              (All-contains (Contains wide) (map negation literals ++ clause) l widened.from_second (Contains-append_right (map negation literals) clause l there)),
          subst (HasNegations literals) is (All-from_contains (λ l. Contains wide (negation l)) literals (λ l there.
              All-contains (Contains wide) (map negation literals ++ clause) (negation l) widened.from_second
              (Contains-append_left (map negation literals) clause (negation l) (Contains-map literals l there)))),
        )
      ]

  -- one step more
  pub joining_more : (clause wide : List Literal) (hints places : List ℕ) → IsValidStep before clause hints → ArePlaces clauses literals first hints places → IsClause wide → IsWidened literals clause wide
      → IsJoining clauses vars ends literals first (before ++ step clause hints ∷ []) (joined ++ step wide places ∷ [])
  joining_more clause wide hints places valid placed is widened =
      let mirror = places_mirror clauses literals first before joined joining.follows joining.is_joined.are_clauses hints places placed valid.hints_are_there in
      record {
        part = joining.part ++ step clause hints ∷ [];
        before_is = ap (λ (es : List LogEvent). es ++ step clause hints ∷ []) joining.before_is ∙ append_assoc (cube_log clauses literals).events joining.part (step clause hints ∷ []);
        part_steps = All-push (λ e. is_given e ≡ false) joining.part (step clause hints) joining.part_steps refl;
        follows = follows_more clause wide hints places widened;
        is_joined = joined_step clauses joined wide places joining.is_joined is
            (record { hints_are_there = mirror.0; shown = wide_shown literals clause wide (clauses_at before hints) (clauses_at joined places) mirror.1 widened valid.shown });
        refuted = λ c below. refuted_left joined (step wide places) (cube_literals c vars) (get_or ends c 0) (joining.refuted c below);
        origins = origins_more clause wide hints places widened;
      }

  -- which is new where the cube's step is effective
  pub joining_new : (clause wide : List Literal) (places : List ℕ) → IsEffectiveStep before clause → IsWidened literals clause wide → KeepsNew joined (joined ++ step wide places ∷ [])
  joining_new clause wide places effective widened =
      new_step joined wide places (λ some. new_wide before clause literals effective units joined wide separate widened cube_stands stands comes_from)

  -- the places of a step's hints are there
  pub places_there : (clause : List Literal) (hints places : List ℕ) → IsValidStep before clause hints → ArePlaces clauses literals first hints places → HintsAreThere joined places
  places_there clause hints places valid placed =
      (places_mirror clauses literals first before joined joining.follows joining.is_joined.are_clauses hints places placed valid.hints_are_there).0

  of_next : (other : List Literal) → IsOfCubes clauses vars (length ends) other ⊎ IsOfThis before literals other → IsOfCubes clauses vars (length ends + 1) other
  of_next other (inl (inl in_formula)) = inl in_formula
  of_next other (inl (inr below)) = inr (below.0, omega (arith, below.1), below.2)
  of_next other (inr this) = inr (length ends, omega arith, subst (λ (ls : List Literal). HasNegations ls other) are this.3)

  all_refuted : (events : List LogEvent) (place : ℕ) → ((c : ℕ) → c < length ends → IsRefutedAt events (cube_literals c vars) (get_or ends c 0)) → IsRefutedAt events literals place
      → (c : ℕ) → c < length (ends ++ place ∷ []) → IsRefutedAt events (cube_literals c vars) (get_or (ends ++ place ∷ []) c 0)
  all_refuted events place old new c below = elim (cases_lt c (length ends)) [
    | inl before' ↦ subst (IsRefutedAt events (cube_literals c vars)) (sym (get_or_append_left ends (place ∷ []) 0 c before')) (old c before')
    | inr after ↦
        let here : c ≡ length ends = omega (arith, below, after, length_push ends place) in
        subst (IsRefutedAt events (cube_literals c vars)) (sym (get_or_push ends place 0 c (sym here)))
        (subst (λ (ls : List Literal). IsRefutedAt events ls place) (are ∙ ap (λ (n : ℕ). cube_literals n vars) (sym here)) new)
  ]

  -- the cube's last step, without a literal, is joined where no event says as much
  pub joint_next : (hints places : List ℕ) (old new : LogState) (place : ℕ) → old.events ≡ joined → IsValidStep before [] hints → ArePlaces clauses literals first hints places → Refutes old new literals places place
      → RefutesCubes clauses vars (ends ++ place ∷ []) new.events × KeepsNew joined new.events
  joint_next hints places old new place is valid placed refutes =
      let mirror = places_mirror clauses literals first before joined joining.follows joining.is_joined.are_clauses hints places placed valid.hints_are_there in
      let done : IsRefuting clauses literals place old.events new.events =
      refuting clauses vars (length ends) literals are divides places old new place (subst (IsLogOfClauses clauses) (sym is) joining.is_joined)
      (λ wide same consistent. subst (λ (es : List LogEvent). IsValidStep es wide places) (sym is) (record {
        hints_are_there = mirror.0;
        shown = wide_shown literals [] wide (clauses_at before hints) (clauses_at joined places) mirror.1
            (subst (HaveSameLiterals wide) (sym (append-nil (map negation literals))) same) valid.shown;
      }))
      refutes in
      let origin : (other : List Literal) → Contains (clauses_of new.events) other → IsOfCubes clauses vars (length ends + 1) other =
      λ other there. elim (done.origins other there) [
        | inl before' ↦ of_next other (joining.origins other (subst (λ (es : List LogEvent). Contains (clauses_of es) other) is before'))
        | inr negated ↦ inr (length ends, omega arith, subst (λ (ls : List Literal). HasNegations ls other) are negated)
      ] in (
        record {
          joined = done.joined;
          refuted = all_refuted new.events place
              (λ c below. done.kept (cube_literals c vars) (get_or ends c 0) (subst (λ (es : List LogEvent). IsRefutedAt es (cube_literals c vars) (get_or ends c 0)) (sym is) (joining.refuted c below)))
              done.here;
          origins = subst (λ (n : ℕ). All (IsOfCubes clauses vars n) (clauses_of new.events)) (sym (length_push ends place))
              (All-from_contains (IsOfCubes clauses vars (length ends + 1)) (clauses_of new.events) origin);
        },
        subst (λ (es : List LogEvent). KeepsNew es new.events) is done.new_steps,
      )
