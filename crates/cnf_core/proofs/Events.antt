-- What an event at the end changes of a log, and what it leaves.
use Rattle.std.proofs.Common.{◌≡◌, ℕ, ◌+◌, true, List, [], ◌∷◌, ◌++◌, length, map, refl, sym, ap, subst, ◌∙◌, cond, arith, length-append, append_assoc, not, nat_eq}
use Rattle.std.specs.Prelude.{All}
use Rattle.std.proofs.lemmas.List.{append-nil, length-take, map_push, take-append-le}
use Rattle.std.proofs.lemmas.List.Elements.{All-cons, All-nil, All-push}
use Rattle.std.proofs.lemmas.Bool.Decides.{nat_tests}
use Rattle.std.proofs.lemmas.List.Sums.{sum_by-append, sum_by-cons}
use Rattle.cnf_core.specs.Literal.{Literal, IsOrdered, IsVariable, IsClause}
use Rattle.cnf_core.specs.Events.{LogEvent, clause_of, clauses_of, given, step, is_given, is_nonempty_step, nonempty_steps, HasBase, EachStep, HintsAreThere, HintsAreEarlier}
use Rattle.cnf_core.specs.declared.log.Log.TheInside.{Inside}
use Rattle.cnf_core.specs.LogInside.{IsLog}

module _ (P : List LogEvent → List Literal → List ℕ → Type 0) where
  -- a given at the end leaves what holds of each step
  pub EachStep-given : (earlier later : List LogEvent) (clause : List Literal) → EachStep P earlier later → EachStep P earlier (later ++ given clause ∷ [])
  EachStep-given earlier [] clause each = tt
  EachStep-given earlier (given first ∷ later) clause each = EachStep-given (earlier ++ given first ∷ []) later clause each
  EachStep-given earlier (step first hints ∷ later) clause each = (each.0, EachStep-given (earlier ++ step first hints ∷ []) later clause each.1)

  -- a step at the end for which it holds, too
  pub EachStep-step : (earlier later : List LogEvent) (clause : List Literal) (hints : List ℕ) → EachStep P earlier later → P (earlier ++ later) clause hints → EachStep P earlier (later ++ step clause hints ∷ [])
  EachStep-step earlier [] clause hints each here = (subst (λ (es : List LogEvent). P es clause hints) (append-nil earlier) here, tt)
  EachStep-step earlier (given first ∷ later) clause hints each here =
      EachStep-step (earlier ++ given first ∷ []) later clause hints each
      (subst (λ (es : List LogEvent). P es clause hints) (sym (append_assoc earlier (given first ∷ []) later)) here)
  EachStep-step earlier (step first others ∷ later) clause hints each here = (
    each.0,
    EachStep-step (earlier ++ step first others ∷ []) later clause hints each.1
        (subst (λ (es : List LogEvent). P es clause hints) (sym (append_assoc earlier (step first others ∷ []) later)) here),
  )

-- an event at the end counts if it is a step with a literal
pub nonempty_steps-push : (events : List LogEvent) (e : LogEvent) → nonempty_steps (events ++ e ∷ []) ≡ nonempty_steps events + cond (is_nonempty_step e) 1 0
nonempty_steps-push events e =
    omega (arith, sum_by-append (λ (x : LogEvent). cond (is_nonempty_step x) 1 0) events (e ∷ []))

-- a step counts where its clause has a literal
pub counts_as : (clause : List Literal) (hints : List ℕ) (n : ℕ) → length clause ≡ n → is_nonempty_step (step clause hints) ≡ not (nat_eq n 0)
counts_as [] hints n e = grind (arith, nat_tests)
counts_as (l ∷ clause) hints n e = grind (arith, nat_tests)

-- what the literals of a clause are known to be
pub clause_is : (clause literals : List Literal) → literals ≡ clause → IsOrdered literals → All (λ l. IsVariable l.var) literals → IsClause clause
clause_is clause literals same ordered variables = subst IsClause same (record { ordered = ordered; variables = variables })

-- an event at the end brings in its clause
pub clauses_push : (events : List LogEvent) (e : LogEvent) → All IsClause (clauses_of events) → IsClause (clause_of e) → All IsClause (clauses_of (events ++ e ∷ []))
clauses_push events e all here =
    subst (All IsClause) (sym (map_push clause_of events e)) (All-push IsClause (clauses_of events) (clause_of e) all here)

-- an event at the end leaves the first ones
pub HasBase-push : (events : List LogEvent) (e : LogEvent) (base : ℕ) → HasBase events base → HasBase (events ++ e ∷ []) base
HasBase-push events e base first = record {
  there = omega (arith, length-append events (e ∷ []), first.there);
  givens = subst (All (λ (x : LogEvent). is_given x ≡ true)) (sym (take-append-le base events (e ∷ []) first.there)) first.givens;
}

-- the same events leave what is true of a log
pub IsLog-same : (log : Inside) (events : List LogEvent) → events ≡ log.events → IsLog log → IsLog (record log { events = events })
IsLog-same log events same is = record {
  counted = is.counted ∙ ap nonempty_steps (sym same);
  clauses = subst (λ (es : List LogEvent). All IsClause (clauses_of es)) (sym same) is.clauses;
  hints = subst HintsAreEarlier (sym same) is.hints;
  first = subst (λ (es : List LogEvent). HasBase es log.base) (sym same) is.first;
}

-- ---- givens alone

pub none_counted : (clauses : List (List Literal)) → nonempty_steps (map given clauses) ≡ 0
none_counted [] = refl
none_counted (clause ∷ clauses) = sum_by-cons (λ (x : LogEvent). cond (is_nonempty_step x) 1 0) (given clause) (map given clauses) ∙ omega (arith, none_counted clauses)

pub clauses_given : (clauses : List (List Literal)) → clauses_of (map given clauses) ≡ clauses
clauses_given [] = refl
clauses_given (clause ∷ clauses) = ap (λ (cs : List (List Literal)). clause ∷ cs) (clauses_given clauses)

pub all_are_given : (clauses : List (List Literal)) → All (λ e. is_given e ≡ true) (map given clauses)
all_are_given [] = All-nil (λ e. is_given e ≡ true)
all_are_given (clause ∷ clauses) = All-cons (λ e. is_given e ≡ true) (given clause) (map given clauses) refl (all_are_given clauses)

module _ (P : List LogEvent → List Literal → List ℕ → Type 0) where
  each_given : (earlier : List LogEvent) (clauses : List (List Literal)) → EachStep P earlier (map given clauses)
  each_given earlier [] = tt
  each_given earlier (clause ∷ clauses) = each_given (earlier ++ given clause ∷ []) clauses

no_base : (events : List LogEvent) → HasBase events 0
no_base events = record {
  there = omega arith;
  givens = λ k d below. absurd (omega (arith, below, length-take 0 events));
}

-- a log of givens alone, of which none is of the base
pub IsLog-givens : (log : Inside) (clauses : List (List Literal)) → log.events ≡ map given clauses → log.steps ≡ 0 → log.base ≡ 0 → All IsClause clauses → IsLog log
IsLog-givens log clauses events steps base are = record {
  counted = steps ∙ sym (ap nonempty_steps events ∙ none_counted clauses);
  clauses = subst (λ (es : List LogEvent). All IsClause (clauses_of es)) (sym events) (subst (All IsClause) (sym (clauses_given clauses)) are);
  hints = subst HintsAreEarlier (sym events) (each_given (λ earlier clause hints. HintsAreThere earlier hints) [] clauses);
  first = subst (HasBase log.events) (sym base) (no_base log.events);
}
