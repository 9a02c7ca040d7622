-- The formula of a cube, and a cube that is refuted by a proof.
use Rattle.std.proofs.Common.{◌≡◌, ℕ, ◌^◌, ◌<◌, ◌≤◌, inl, true, false, List, [], ◌∷◌, ◌++◌, length, get_or, refl, ap, ◌∙◌, sym, subst, arith}
use Rattle.std.specs.Prelude.{All, map}
use Rattle.std.proofs.lemmas.List.{append-nil, get_or-map, length-map, map-append}
use Rattle.std.proofs.lemmas.List.Elements.{All-append, All-contains, All-cons, All-get_or, All-map, All-nil}
use Rattle.cnf_core.specs.Literal.{Literal, IsClause, VariablesUpTo}
use Rattle.cnf_core.specs.Formula.{Cnf, NamesItsVariables}
use Rattle.cnf_core.specs.Events.{LogEvent, LogState, given, is_given, clause_of, clauses_of, event_at}
use Rattle.cnf_core.proofs.Members.{All-from_contains}
use Rattle.sat_search.proofs.Continued.{sound_givens}
use Rattle.sat_split.specs.Cubes.{IsNamed, all_given, cube_literals, cube_log, unit_of}
use Rattle.sat_split.proofs.Cubes.{cube_names}
use Rattle.sat_join.specs.Joins.{CanJoin, Divides, RefutesCubes, IsOfCubes, IsRefutation}
use Rattle.sat_merge.specs.Proofs.{IsProved, cube_clauses}

-- the clauses of given events
pub clauses-given : (clauses : List (List Literal)) → clauses_of (all_given clauses) ≡ clauses
clauses-given [] = refl
clauses-given (clause ∷ clauses) = ap (λ (cs : List (List Literal)). clause ∷ cs) (clauses-given clauses)

pub given_all : (cs : List (List Literal)) → All (λ e. is_given e ≡ true) (all_given cs)
given_all [] = All-nil (λ e. is_given e ≡ true)
given_all (c ∷ cs) = All-cons (λ e. is_given e ≡ true) (given c) (all_given cs) refl (given_all cs)

-- the events with which a cube's log begins
pub cube_events : (clauses : List (List Literal)) (vars : List ℕ) (cube : ℕ) → (cube_log clauses (cube_literals cube vars)).events ≡ all_given (cube_clauses clauses vars cube)
cube_events clauses vars cube = sym (map-append given clauses (map unit_of (cube_literals cube vars)))

pub cube_clauses_are : (clauses : List (List Literal)) (vars : List ℕ) (cube : ℕ) → clauses_of (cube_log clauses (cube_literals cube vars)).events ≡ cube_clauses clauses vars cube
cube_clauses_are clauses vars cube = ap clauses_of (cube_events clauses vars cube) ∙ clauses-given (cube_clauses clauses vars cube)

-- the clauses of a cube name the formula's variables alone
pub named_within : (f : Cnf) (vars : List ℕ) (cube : ℕ) → NamesItsVariables f → Divides f.clauses vars → All (VariablesUpTo f.vars) (cube_clauses f.clauses vars cube)
named_within f vars cube names divides =
    All-append (VariablesUpTo f.vars) f.clauses (map unit_of (cube_literals cube vars)) names
    (All-map (VariablesUpTo f.vars) unit_of (cube_literals cube vars)
    (All-from_contains (λ q. VariablesUpTo f.vars (unit_of q)) (cube_literals cube vars) (λ q found.
    let named : IsNamed f.clauses q.var = All-contains (IsNamed f.clauses) vars q.var divides.named (cube_names cube vars q found) in
    All-cons (λ l. l.var ≤ f.vars) q []
    (subst (λ (n : ℕ). n ≤ f.vars) named.names
    (All-contains (λ l. l.var ≤ f.vars) named.clause named.literal (All-contains (VariablesUpTo f.vars) f.clauses named.clause names named.is_there) named.in_clause))
    (All-nil (λ l. l.var ≤ f.vars)))))

-- a log that a proof gave refutes the cube
pub refutes : (clauses : List (List Literal)) (vars : List ℕ) (cube : ℕ) (events : List LogEvent) → IsProved (cube_clauses clauses vars cube) events → IsRefutation clauses (cube_literals cube vars) events
refutes clauses vars cube events is = record {
  steps = is.steps;
  events_are = is.events_are ∙ ap (λ (es : List LogEvent). es ++ is.steps) (sym (cube_events clauses vars cube));
  are_steps = is.are_steps;
  valid = is.valid;
  ends = is.ends;
}

pub may_join : (clauses : List (List Literal)) (vars ends : List ℕ) (cube : ℕ) (refuted joined : List LogEvent) → Divides clauses vars → length ends < 2 ^ length vars → cube ≡ length ends → RefutesCubes clauses vars ends joined
    → IsProved (cube_clauses clauses vars cube) refuted → CanJoin clauses vars ends refuted joined
may_join clauses vars ends cube refuted joined divides within count joint is = record {
  divides = divides;
  is_cube = within;
  refutation = subst (λ (n : ℕ). IsRefutation clauses (cube_literals n vars) refuted) count (refutes clauses vars cube refuted is);
  joint = joint;
}

-- nothing is joined to a formula's clauses
pub joint_none : (clauses : List (List Literal)) (vars : List ℕ) (log : LogState) → All IsClause clauses → log ≡ record { events = all_given clauses; notes = []; base = 0 } → RefutesCubes clauses vars [] log.events
joint_none clauses vars log are is =
    subst (λ (l : LogState). RefutesCubes clauses vars [] l.events) (sym is) (record {
      joined = record {
        steps = [];
        events_are = sym (append-nil (all_given clauses));
        are_steps = All-nil (λ e. is_given e ≡ false);
        valid = (sound_givens (all_given clauses) (given_all clauses)).valid;
        are_clauses = subst (All IsClause) (sym (clauses-given clauses)) are;
      };
      refuted = λ c below. absurd (omega (arith, below));
      origins = subst (All (IsOfCubes clauses vars 0)) (sym (clauses-given clauses)) (All-from_contains (IsOfCubes clauses vars 0) clauses (λ c found. inl found));
    })

-- the clause of an event names no other variables than those of all
pub event_named : (most : ℕ) (all : List LogEvent) (k : ℕ) (clause : List Literal) → All (VariablesUpTo most) (clauses_of all) → k < length all → clause ≡ clause_of (event_at all k) → VariablesUpTo most clause
event_named most all k clause named below same =
    let here : get_or (clauses_of all) k [] ≡ clause = get_or-map clause_of all k (given []) [] below ∙ sym same in
    subst (VariablesUpTo most) here
    (All-get_or (VariablesUpTo most) (clauses_of all) k [] (omega (arith, below, length-map all clause_of)) named)

-- the log with which the search of a cube begins
pub begun_as : (clauses : List (List Literal)) (vars : List ℕ) (cube number : ℕ) (literals lent : List Literal) (begun : LogState) → number ≡ cube → literals ≡ cube_literals number vars → lent ≡ literals → begun ≡ cube_log clauses lent → begun ≡ cube_log clauses (cube_literals cube vars)
begun_as clauses vars cube number literals lent begun count are same is = is ∙ ap (cube_log clauses) (same ∙ are ∙ ap (λ (n : ℕ). cube_literals n vars) count)

-- its clauses are those of the cube
pub own_are : (clauses : List (List Literal)) (vars : List ℕ) (cube : ℕ) (begun : LogState) (own : List (List Literal)) → begun ≡ cube_log clauses (cube_literals cube vars) → own ≡ clauses_of begun.events → own ≡ cube_clauses clauses vars cube
own_are clauses vars cube begun own is same = same ∙ ap (λ (l : LogState). clauses_of l.events) is ∙ cube_clauses_are clauses vars cube

pub begun_gives : (clauses : List (List Literal)) (vars : List ℕ) (cube : ℕ) (begun : LogState) (own : List (List Literal)) → begun ≡ cube_log clauses (cube_literals cube vars) → own ≡ cube_clauses clauses vars cube → begun ≡ record { events = all_given own; notes = []; base = 0 }
begun_gives clauses vars cube begun own is same =
    is ∙ ap (λ (es : List LogEvent). record { events = es; notes = []; base = 0 }) (cube_events clauses vars cube ∙ ap all_given (sym same))
