-- What the search of a cube shows of the formula.
use Rattle.std.proofs.Common.{◌≡◌, ℕ, ◌+◌, ◌-◌, ◌≤◌, Bool, true, false, Option, Some, None, IfSome, IsSome, IsSomeAnd, List, [], ◌∷◌, ◌++◌, refl, ap, ◌∙◌, sym, subst, arith, inl, inr}
use Rattle.std.specs.Prelude.{All, Contains, map}
use Rattle.std.proofs.lemmas.Bool.{cases_lt}
use Rattle.std.proofs.lemmas.List.{length_push, get_or_append_left, get_or_push, map-append}
use Rattle.std.proofs.lemmas.List.Elements.{All-contains, All-map, All-weaker, All-append, All-nil, All-cons, Contains-append_left, Contains-append_right}
use Rattle.cnf_core.specs.Literal.{Literal, IsClause, IsVariable, VariablesUpTo}
use Rattle.cnf_core.specs.Clauses.{IsTrueUnder, SatisfiesClause, Satisfies}
use Rattle.cnf_core.specs.Formula.{Cnf, NamesItsVariables}
use Rattle.cnf_core.specs.Events.{LogEvent, LogState, given, step, givens, is_given, nonempty_steps}
use Rattle.cnf_core.proofs.Members.{All-from_contains, Contains-here, Contains-there, Contains-cases, none_in_nil}
use Rattle.cnf_core.proofs.Keeping.{satisfied_along}
use Rattle.sat_search.specs.Logs.{IsSound, AddsSteps, EndsWithEmptyStep, NoneIsEmpty}
use Rattle.sat_search.specs.View.{value_in}
use Rattle.sat_split.specs.Cubes.{IsNamed, cube_literals, LiesInCube, all_given, unit_of, cube_log}
use Rattle.sat_split.proofs.Cubes.{cube_names}
use Rattle.sat_join.specs.Joins.{Divides}
use Rattle.sat_cubes.specs.Answers.{is_variable_true}
use Rattle.sat_cubes.specs.Solving.{AreValues, IsModelIn, IsRefuted, IsSpentLog}

values_one_more : (trues : List Literal) (place : ℕ) (values : List Bool) (b : Bool) → AreValues trues place values → b ≡ value_in trues (place + 1) → AreValues trues (place + 1) (values ++ b ∷ [])
values_one_more trues place values b are is = record {
  count = omega (arith, length_push values b, are.count);
  same = λ v low high. elim (cases_lt place v) [
    | inl last ↦
        let here : v ≡ place + 1 = omega (arith, last, high) in
        get_or_push values b false (v - 1) (omega (arith, here, are.count)) ∙ is ∙ ap (value_in trues) (sym here)
    | inr before ↦ get_or_append_left values (b ∷ []) false (v - 1) (omega (arith, before, low, are.count)) ∙ are.same v low before
  ];
}

pub values_none : (kept : Option (List Literal)) → IfSome kept (λ trues. AreValues trues 0 [])
values_none None = tt
values_none (Some trues) = record { count = refl; same = λ v low high. absurd (omega (arith, low, high)) }

pub values_more : (kept : Option (List Literal)) (place : ℕ) (values : List Bool) (b : Bool) → IfSome kept (λ trues. AreValues trues place values) → IfSome kept (λ trues. b ≡ value_in trues (place + 1)) → IfSome kept (λ trues. AreValues trues (place + 1) (values ++ b ∷ []))
values_more None place values b are is = tt
values_more (Some trues) place values b are is = values_one_more trues place values b are is

Contains-unit : (ls : List Literal) (l : Literal) → Contains ls l → Contains (map unit_of ls) (l ∷ [])
Contains-unit [] l found = absurd (none_in_nil l found)
Contains-unit (m ∷ ls) l found = elim (Contains-cases m ls l found) [
  | inl here ↦ subst (λ (x : Literal). Contains (map unit_of (m ∷ ls)) (x ∷ [])) here (Contains-here (m ∷ []) (map unit_of ls))
  | inr there ↦ Contains-there (m ∷ []) (map unit_of ls) (l ∷ []) (Contains-unit ls l there)
]

only : (l x : Literal) → Contains (l ∷ []) x → l ≡ x
only l x found = elim (Contains-cases l [] x found) [ inl is ↦ is | inr none ↦ absurd (none_in_nil x none) ]

-- an assignment that lies in a cube satisfies the cube's literals as clauses
units_satisfied : (s : ℕ → Bool) (literals : List Literal) → LiesInCube literals s → Satisfies s (map unit_of literals)
units_satisfied s literals lies =
    All-map (SatisfiesClause s) unit_of literals
    (All-weaker (IsTrueUnder s) (λ q. SatisfiesClause s (q ∷ [])) (λ q t. record { literal = q; in_clause = Contains-here q []; is_true = t }) literals lies)

-- what satisfies the formula in a cube satisfies what the cube's search is given
pub satisfied_in_cube : (s : ℕ → Bool) (clauses : List (List Literal)) (literals : List Literal) → LiesInCube literals s → Satisfies s clauses → Satisfies s (clauses ++ map unit_of literals)
satisfied_in_cube s clauses literals lies satisfied = All-append (SatisfiesClause s) clauses (map unit_of literals) satisfied (units_satisfied s literals lies)

module _ (f : Cnf) (vars : List ℕ) (cube : ℕ) (are : All IsClause f.clauses) (names : NamesItsVariables f) (divides : Divides f.clauses vars) where
  -- the variable of a cube's literal is one of the formula
  in_range : (q : Literal) → Contains (cube_literals cube vars) q → (1 ≤ q.var) × (q.var ≤ f.vars)
  in_range q found =
      let v = cube_names cube vars q found in
      let named : IsNamed f.clauses q.var = All-contains (IsNamed f.clauses) vars q.var divides.named v in (
        (All-contains IsVariable vars q.var divides.variables v).0,
        subst (λ (n : ℕ). n ≤ f.vars) named.names
            (All-contains (λ l. l.var ≤ f.vars) named.clause named.literal (All-contains (VariablesUpTo f.vars) f.clauses named.clause names named.is_there) named.in_clause),
      )

  model : (trues : List Literal) (values : List Bool) → AreValues trues f.vars values → Satisfies (value_in trues) (f.clauses ++ map unit_of (cube_literals cube vars)) → IsModelIn f (cube_literals cube vars) values
  model trues values same satisfied = record {
    count = same.count;
    satisfies = satisfied_along f.vars (value_in trues) (is_variable_true values) f.clauses are names (λ v one below. sym (same.same v one below))
        (All-from_contains (SatisfiesClause (value_in trues)) f.clauses (λ c found.
        All-contains (SatisfiesClause (value_in trues)) (f.clauses ++ units) c satisfied (Contains-append_left f.clauses units c found)));
    lies_in = All-from_contains (IsTrueUnder (is_variable_true values)) (cube_literals cube vars) (λ q found.
        let h = All-contains (SatisfiesClause (value_in trues)) (f.clauses ++ units) (q ∷ []) satisfied
        (Contains-append_right f.clauses units (q ∷ []) (Contains-unit (cube_literals cube vars) q found)) in
        let t : IsTrueUnder (value_in trues) q = subst (IsTrueUnder (value_in trues)) (sym (only q h.literal h.in_clause)) h.is_true in
        same.same q.var (in_range q found).0 (in_range q found).1 ∙ t);
  }
    where
      units : List (List Literal)
      units = map unit_of (cube_literals cube vars)

  pub model_found : (kept : Option (List Literal)) (values : List Bool) → IsSomeAnd kept (λ trues. Satisfies (value_in trues) (f.clauses ++ map unit_of (cube_literals cube vars))) → IfSome kept (λ trues. AreValues trues f.vars values) → IsModelIn f (cube_literals cube vars) values
  model_found None values satisfied same = absurd satisfied
  model_found (Some trues) values satisfied same = model trues values same satisfied

-- all events that a cube's search begins with are givens
pub all_are_given : (clauses : List (List Literal)) → All (λ e. is_given e ≡ true) (all_given clauses)
all_are_given [] = All-nil (λ e. is_given e ≡ true)
all_are_given (clause ∷ clauses) = All-cons (λ e. is_given e ≡ true) (given clause) (all_given clauses) refl (all_are_given clauses)

pub cube_given : (clauses : List (List Literal)) (literals : List Literal) → All (λ e. is_given e ≡ true) (cube_log clauses literals).events
cube_given clauses literals = All-append (λ e. is_given e ≡ true) (all_given clauses) (all_given (map unit_of literals)) (all_are_given clauses) (all_are_given (map unit_of literals))

pub givens-given : (clauses : List (List Literal)) → givens (all_given clauses) ≡ clauses
givens-given [] = refl
givens-given (clause ∷ clauses) = ap (λ (cs : List (List Literal)). clause ∷ cs) (givens-given clauses)

pub givens-append : (xs ys : List LogEvent) → givens (xs ++ ys) ≡ givens xs ++ givens ys
givens-append [] ys = refl
givens-append (given clause ∷ xs) ys = ap (λ (cs : List (List Literal)). clause ∷ cs) (givens-append xs ys)
givens-append (step clause hints ∷ xs) ys = givens-append xs ys

-- what a cube's search is given
pub cube_givens : (clauses : List (List Literal)) (literals : List Literal) → givens (cube_log clauses literals).events ≡ clauses ++ map unit_of literals
cube_givens clauses literals =
    givens-append (all_given clauses) (all_given (map unit_of literals))
    ∙ ap (λ (cs : List (List Literal)). cs ++ givens (all_given (map unit_of literals))) (givens-given clauses)
    ∙ ap (λ (cs : List (List Literal)). clauses ++ cs) (givens-given (map unit_of literals))

-- no step is there yet
pub no_steps : (clauses : List (List Literal)) → nonempty_steps (all_given clauses) ≡ 0
no_steps [] = refl
no_steps (clause ∷ clauses) = no_steps clauses

pub no_cube_steps : (clauses : List (List Literal)) (literals : List Literal) → nonempty_steps (cube_log clauses literals).events ≡ 0
no_cube_steps clauses literals = ap nonempty_steps (sym (map-append given clauses (map unit_of literals))) ∙ no_steps (clauses ++ map unit_of literals)

-- the log with which a cube's search begins has givens alone, and no step
pub begins_given : (clauses : List (List Literal)) (literals : List Literal) (log : LogState) → log ≡ cube_log clauses literals → All (λ e. is_given e ≡ true) log.events
begins_given clauses literals log is = subst (λ (l : LogState). All (λ e. is_given e ≡ true) l.events) (sym is) (cube_given clauses literals)

pub begins_without_steps : (clauses : List (List Literal)) (literals : List Literal) (log : LogState) → log ≡ cube_log clauses literals → nonempty_steps log.events ≡ 0
begins_without_steps clauses literals log is = ap (λ (l : LogState). nonempty_steps l.events) is ∙ no_cube_steps clauses literals

-- where one is known to be there, one is
pub some_and : {X : Type 0} (P : X → Type 0) (o : Option X) → IsSomeAnd o P → IsSome o
some_and P None it = absurd it
some_and P (Some x) it = refl

-- what a search keeps as given
pub given_in_cube : (clauses : List (List Literal)) (literals : List Literal) (old new : LogState) → old ≡ cube_log clauses literals → givens new.events ≡ givens old.events → givens new.events ≡ clauses ++ map unit_of literals
given_in_cube clauses literals old new is same = same ∙ ap (λ (l : LogState). givens l.events) is ∙ cube_givens clauses literals

pub refuted_is : (f : Cnf) (literals : List Literal) (old new : LogState) → old ≡ cube_log f.clauses literals → AddsSteps old new → givens new.events ≡ givens old.events → IsSound new.events → EndsWithEmptyStep new.events
    → ((s : ℕ → Bool) → Satisfies s (givens new.events) → ⊥) → IsRefuted f literals new
refuted_is f literals old new is adds same sound ends none = record {
  refutation = record {
    steps = adds.added;
    events_are = adds.events ∙ ap (λ (l : LogState). l.events ++ adds.added) is;
    are_steps = adds.are_steps;
    valid = sound.valid;
    ends = ends;
  };
  sound = sound;
  none = λ s lies satisfied. none s (subst (Satisfies s) (sym (given_in_cube f.clauses literals old new is same)) (satisfied_in_cube s f.clauses literals lies satisfied));
}

pub spent_is : (f : Cnf) (literals : List Literal) (budget : ℕ) (old new : LogState) → old ≡ cube_log f.clauses literals → AddsSteps old new → IsSound new.events → nonempty_steps new.events ≡ budget → NoneIsEmpty new.events → IsSpentLog f literals budget new
spent_is f literals budget old new is adds sound spent none_empty = record {
  steps = adds.added;
  events = adds.events ∙ ap (λ (l : LogState). l.events ++ adds.added) is;
  are_steps = adds.are_steps;
  sound = sound;
  spent = spent;
  none_empty = none_empty;
  notes = adds.notes ∙ ap (λ (l : LogState). l.notes) is;
  base = adds.base ∙ ap (λ (l : LogState). l.base) is;
}
