-- The cubes that are refuted so far, one more of them, and how the work ends.
use Rattle.std.proofs.Common.{◌≡◌, ℕ, ◌+◌, ◌^◌, ◌<◌, Bool, false, inl, inr, Result, Ok, IfOk, List, [], ◌∷◌, ◌++◌, length, get_or, refl, ap, ◌∙◌, sym, subst, arith}
use Rattle.std.specs.Prelude.{All, Contains}
use Rattle.std.proofs.lemmas.Bool.{cases_lt, false≢true}
use Rattle.std.proofs.lemmas.List.{append-nil, length-map}
use Rattle.std.proofs.lemmas.List.Elements.{All-nil, All-head, All-tail, Contains-get_or, Contains-push}
use Rattle.cnf_core.specs.Literal.{Literal, negation, IsClause, IsVariable}
use Rattle.cnf_core.specs.Clauses.{Satisfies}
use Rattle.cnf_core.specs.Formula.{Cnf}
use Rattle.cnf_core.specs.Events.{LogEvent, LogState, given, step, clause_of, clauses_of, givens, is_given}
use Rattle.cnf_core.specs.Steps.{IsValidLog, NonEmptyStepsAreEffective, NonEmptyStepsAreNew}
use Rattle.cnf_core.proofs.Members.{All-from_contains, none_in_nil}
use Rattle.cnf_core.proofs.Following.{step_follows, clauses_of-push}
use Rattle.sat_search.specs.Logs.{EndsWithEmptyStep}
use Rattle.sat_search.proofs.Continued.{sound_givens}
use Rattle.sat_split.specs.Cubes.{AreCubeVariables, cube_literals, LiesInCube, all_given}
use Rattle.sat_join.specs.Joins.{clause_at, IsRefutedAt, IsLogOfClauses, RefutesCubes, IsOfCubes, Divides, CanJoin, KeepsNew}
use Rattle.sat_cubes.specs.Answers.{IsRefutedIn, IsJoinedLog, IsRefutedWithin, AreRefutedWithin, IsSatIn, IsUnsat, IsSpentIn}
use Rattle.sat_cubes.specs.Solving.{IsModelIn, IsRefuted, IsSpentLog, IsSoFar, IsSolved, IsOpen, AreSolved, AreRefuted}
use Rattle.sat_cubes.specs.declared.solving.Solved.{Solved}
use Rattle.sat_cubes.specs.declared.solving.Solved.TheVariants.{Unsat}
use Rattle.ep_base.specs.declared.errors.Memory.{Memory}
use Rattle.sat_cubes.proofs.Models.{all_are_given, givens-given, givens-append}

clauses-given : (clauses : List (List Literal)) → clauses_of (all_given clauses) ≡ clauses
clauses-given [] = refl
clauses-given (clause ∷ clauses) = ap (λ (cs : List (List Literal)). clause ∷ cs) (clauses-given clauses)

pub divided : (clauses : List (List Literal)) (most : ℕ) (vars : List ℕ) → AreCubeVariables most clauses vars → All IsVariable vars → Divides clauses vars
divided clauses most vars are variables = record { ascending = are.ascending; named = are.named; variables = variables }

-- nothing is joined yet
pub so_far_none : (f : Cnf) (vars : List ℕ) (joined : LogState) → All IsClause f.clauses → Divides f.clauses vars → joined ≡ record { events = all_given f.clauses; notes = []; base = 0 } → IsSoFar f vars [] joined
so_far_none f vars joined are divides is =
    let sound = sound_givens (all_given f.clauses) (all_are_given f.clauses) in
    subst (IsSoFar f vars []) (sym is) (record {
      divides = divides;
      joint = record {
        joined = record {
          steps = [];
          events_are = sym (append-nil (all_given f.clauses));
          are_steps = All-nil (λ e. is_given e ≡ false);
          valid = sound.valid;
          are_clauses = subst (All IsClause) (sym (clauses-given f.clauses)) are;
        };
        refuted = λ c below. absurd (omega (arith, below));
        origins = subst (All (IsOfCubes f.clauses vars 0)) (sym (clauses-given f.clauses)) (All-from_contains (IsOfCubes f.clauses vars 0) f.clauses (λ c found. inl found));
      };
      new = sound.new;
      none_below = λ c below. absurd (omega (arith, below));
      within = omega arith;
      notes = refl;
      base = refl;
    })

pub may_join : (f : Cnf) (vars ends : List ℕ) (joined refuted : LogState) → IsSoFar f vars ends joined → length ends < 2 ^ length vars → IsRefuted f (cube_literals (length ends) vars) refuted → CanJoin f.clauses vars ends refuted.events joined.events
may_join f vars ends joined refuted so_far within is = record {
  divides = so_far.divides;
  is_cube = within;
  refutation = is.refutation;
  joint = so_far.joint;
}

-- one more is
pub so_far_more : (f : Cnf) (vars ends more : List ℕ) (joined new refuted : LogState) → IsSoFar f vars ends joined → length ends < 2 ^ length vars → IsRefuted f (cube_literals (length ends) vars) refuted
    → RefutesCubes f.clauses vars more new.events → (NonEmptyStepsAreEffective refuted.events → KeepsNew joined.events new.events) → length more ≡ length ends + 1 → new.notes ≡ joined.notes → new.base ≡ joined.base → IsSoFar f vars more new
so_far_more f vars ends more joined new refuted so_far within is joint keeps count notes base = record {
  divides = so_far.divides;
  joint = joint;
  new = keeps is.sound.effective so_far.new;
  none_below = λ c below. elim (cases_lt c (length ends)) [
    | inl before ↦ so_far.none_below c before
    | inr after ↦ subst (λ (n : ℕ). (s : ℕ → Bool) → LiesInCube (cube_literals n vars) s → Satisfies s f.clauses → ⊥) (let e : length ends ≡ c = omega (arith, below, after, count) in e) is.none
  ];
  within = omega (arith, count, within);
  notes = notes ∙ so_far.notes;
  base = base ∙ so_far.base;
}

-- so is one more within the budget, as a wave has it
pub within_more : (f : Cnf) (vars ends more : List ℕ) (first budget : ℕ) (wave : List (Result Solved Memory)) (i : ℕ) (d : Result Solved Memory) (log : LogState) → AreSolved f vars first budget wave → i < length wave → get_or wave i d ≡ Ok (Unsat log)
    → length ends ≡ first + i → length more ≡ length ends + 1 → AreRefutedWithin f.clauses vars (length ends) budget → AreRefutedWithin f.clauses vars (length more) budget
within_more f vars ends more first budget wave i d log are below is at count so_far = λ c before. elim (cases_lt c (length ends)) [
  | inl lower ↦ so_far c lower
  | inr here ↦
      let it = subst (λ (r : Result Solved Memory). IfOk r (λ s. IsSolved f (cube_literals (first + i) vars) budget s)) is (are i d below) in
      subst (λ (n : ℕ). IsRefutedWithin f.clauses (cube_literals n vars) budget) (let e : first + i ≡ c = omega (arith, before, here, at, count) in e)
      (record { events = log.events; refutation = it.0.refutation; sound = it.0.sound; within = it.1 })
]

-- no cube is below the first
pub within_none : (clauses : List (List Literal)) (vars : List ℕ) (budget : ℕ) → AreRefutedWithin clauses vars 0 budget
within_none clauses vars budget = λ c below. absurd (omega (arith, below))

-- an event at a place is one of the log
refuted_in : (events : List LogEvent) (literals : List Literal) (place : ℕ) → IsRefutedAt events literals place → IsRefutedIn events literals
refuted_in events literals place at = record {
  clause = clause_at events place;
  in_log = Contains-get_or (clauses_of events) place [] (omega (arith, at.there, length-map events clause_of));
  is_false = at.is_false;
}

joined_log : (f : Cnf) (vars ends : List ℕ) (joined : LogState) → IsSoFar f vars ends joined → IsJoinedLog f.clauses vars (length ends) joined.events
joined_log f vars ends joined so_far = record {
  steps = so_far.joint.joined.steps;
  events_are = so_far.joint.joined.events_are;
  are_steps = so_far.joint.joined.are_steps;
  valid = so_far.joint.joined.valid;
  new = so_far.new;
  refuted = λ c below. refuted_in joined.events (cube_literals c vars) (get_or ends c 0) (so_far.joint.refuted c below);
}

pub ends_sat : (f : Cnf) (vars ends : List ℕ) (budget : ℕ) (values : List Bool) (joined : LogState) → IsSoFar f vars ends joined → AreRefutedWithin f.clauses vars (length ends) budget → length ends < 2 ^ length vars
    → IsModelIn f (cube_literals (length ends) vars) values → IsSatIn f vars (length ends) budget values joined.events
ends_sat f vars ends budget values joined so_far refuted within is = record {
  is_cube = within;
  count = is.count;
  satisfies = is.satisfies;
  lies_in = is.lies_in;
  none_below = so_far.none_below;
  refuted_within = refuted;
  joined = joined_log f vars ends joined so_far;
}

pub ends_spent : (f : Cnf) (vars ends : List ℕ) (budget : ℕ) (joined log : LogState) → IsSoFar f vars ends joined → AreRefutedWithin f.clauses vars (length ends) budget → length ends < 2 ^ length vars
    → IsSpentLog f (cube_literals (length ends) vars) budget log → IsSpentIn f vars (length ends) budget log.events
ends_spent f vars ends budget joined log so_far refuted within is = record {
  is_cube = within;
  steps = is.steps;
  events_are = is.events;
  are_steps = is.are_steps;
  sound = is.sound;
  spent = is.spent;
  none_empty = is.none_empty;
  none_below = so_far.none_below;
  refuted_within = refuted;
}

no_givens : (steps : List LogEvent) → All (λ e. is_given e ≡ false) steps → givens steps ≡ []
no_givens [] all = refl
no_givens (given clause ∷ steps) all = absurd (false≢true (sym (All-head (λ e. is_given e ≡ false) (given clause) steps all)))
no_givens (step clause hints ∷ steps) all = no_givens steps (All-tail (λ e. is_given e ≡ false) (step clause hints) steps all)

pub ends_unsat : (f : Cnf) (vars : List ℕ) (budget : ℕ) (events : List LogEvent) → AreRefutedWithin f.clauses vars (2 ^ length vars) budget → IsLogOfClauses f.clauses events → NonEmptyStepsAreNew events → EndsWithEmptyStep events → IsUnsat f vars budget events
ends_unsat f vars budget events refuted joined new ends = record {
  none = λ s satisfied.
      let found = step_follows s ends.before [] [] ends.hints (subst IsValidLog ends.events_are joined.valid) (subst (Satisfies s) (sym before) satisfied) in
      none_in_nil found.literal found.in_clause;
  refuted_within = refuted;
  joined = record {
    steps = joined.steps;
    events_are = joined.events_are;
    are_steps = joined.are_steps;
    valid = joined.valid;
    new = new;
    refuted = λ c below. record {
      clause = [];
      in_log = subst (λ (es : List LogEvent). Contains (clauses_of es) []) (sym ends.events_are)
          (subst (λ (cs : List (List Literal)). Contains cs []) (sym (clauses_of-push ends.before (step [] ends.hints))) (Contains-push (clauses_of ends.before) []));
      is_false = All-nil (λ l. Contains (cube_literals c vars) (negation l));
    };
  };
  ends = ends;
}
  where
    before : givens ends.before ≡ f.clauses
    before =
        sym (append-nil (givens ends.before)) ∙ sym (givens-append ends.before (step [] ends.hints ∷ [])) ∙ sym (ap givens ends.events_are)
        ∙ ap givens joined.events_are ∙ givens-append (all_given f.clauses) joined.steps
        ∙ ap (λ (cs : List (List Literal)). givens (all_given f.clauses) ++ cs) (no_givens joined.steps joined.are_steps)
        ∙ append-nil (givens (all_given f.clauses)) ∙ givens-given f.clauses

-- what was solved in a wave, as far as it says that something is refuted
pub solved_refuted : (f : Cnf) (vars : List ℕ) (first budget : ℕ) (wave : List (Result Solved Memory)) → AreSolved f vars first budget wave → AreRefuted f vars first wave
solved_refuted f vars first budget wave are i d log below is =
    let it = subst (λ (r : Result Solved Memory). IfOk r (λ s. IsSolved f (cube_literals (first + i) vars) budget s)) is (are i d below) in it.0

-- the one at a place
pub solved_at : (f : Cnf) (vars : List ℕ) (first budget : ℕ) (wave : List (Result Solved Memory)) (i now : ℕ) (r : Result Solved Memory) (one : Solved) → AreSolved f vars first budget wave → i < length wave → r ≡ get_or wave i r → r ≡ Ok one → now ≡ first + i
    → IsSolved f (cube_literals now vars) budget one
solved_at f vars first budget wave i now r one are below at is count =
    subst (λ (n : ℕ). IsSolved f (cube_literals n vars) budget one) (sym count)
    (subst (λ (x : Result Solved Memory). IfOk x (λ s. IsSolved f (cube_literals (first + i) vars) budget s)) (sym at ∙ is) (are i r below))

pub open_at : (wave : List (Result Solved Memory)) (i : ℕ) (r : Result Solved Memory) (one : Solved) → IfOk (get_or wave i r) IsOpen → r ≡ get_or wave i r → r ≡ Ok one → IsOpen one
open_at wave i r one it at is = subst (λ (x : Result Solved Memory). IfOk x IsOpen) (sym at ∙ is) it
