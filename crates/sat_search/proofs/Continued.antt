-- A log that goes on soundly.
use Rattle.std.proofs.Common.{◌≡◌, ℕ, ◌+◌, ◌<◌, ◌≤◌, Bool, true, false, cond, ◌⊎◌, inl, inr, List, [], ◌∷◌, ◌++◌, length, refl, ap, ◌∙◌, sym, subst, arith, append_assoc, ◌^◌}
use Rattle.std.specs.Prelude.{Contains}
use Rattle.std.proofs.lemmas.List.{append-nil}
use Rattle.std.proofs.lemmas.Bool.{false≢true}
use Rattle.std.proofs.lemmas.List.Elements.{All-nil, All-cons, All-head, All-tail, All-append, All-contains}
use Rattle.std.specs.Prelude.{All}
use Rattle.cnf_core.specs.Literal.{Literal, HaveSameLiterals}
use Rattle.cnf_core.specs.Events.{LogEvent, LogState, step, given, is_given, clauses_of, givens, nonempty_steps, is_nonempty_step, EachStep}
use Rattle.cnf_core.specs.Clauses.{Satisfies}
use Rattle.cnf_core.specs.Steps.{IsValidLog, IsValidStep, IsNewStep, IsEffectiveStep, GivensNameOnly}
use Rattle.cnf_core.proofs.Events.{nonempty_steps-push, EachStep-given}
use Rattle.cnf_core.proofs.Count.{fewer_new_steps}
use Rattle.cnf_core.proofs.Following.{step_follows}
use Rattle.sat_search.specs.declared.outcome.Outcome.{Outcome}
use Rattle.sat_search.specs.declared.outcome.Outcome.TheVariants.{Spent, Unsat}
use Rattle.cnf_core.proofs.Members.{none_in_nil, Contains-here}
use Rattle.sat_search.specs.Analysis.{IsExplained}
use Rattle.sat_search.specs.Logs.{IsSound, AddsSteps, EndsWithEmptyStep, IsContinued, IsAnswer, with_step}
use Rattle.sat_search.proofs.Learnt.{sound_push}

pub continued_same : (budget : ℕ) (log : LogState) → IsSound log.events → nonempty_steps log.events ≤ budget → IsContinued budget log log
continued_same budget log sound within = record {
  sound = sound;
  steps = record { added = []; events = sym (append-nil log.events); are_steps = All-nil (λ e. is_given e ≡ false); notes = refl; base = refl };
  within = within;
}

pub continued_trans : (budget : ℕ) (first second third : LogState) → IsContinued budget first second → IsContinued budget second third → IsContinued budget first third
continued_trans budget first second third one two = record {
  sound = two.sound;
  steps = record {
    added = one.steps.added ++ two.steps.added;
    events = two.steps.events ∙ ap (λ (es : List LogEvent). es ++ two.steps.added) one.steps.events ∙ append_assoc first.events one.steps.added two.steps.added;
    are_steps = All-append (λ e. is_given e ≡ false) one.steps.added two.steps.added one.steps.are_steps two.steps.are_steps;
    notes = two.steps.notes ∙ one.steps.notes;
    base = two.steps.base ∙ one.steps.base;
  };
  within = two.within;
}

pub no_literal_kept : (clause lits : List Literal) → HaveSameLiterals clause lits → length lits ≡ 0 → clause ≡ []
no_literal_kept [] lits same none = refl
no_literal_kept (l ∷ clause) lits same none =
    let found : Contains lits l = All-contains (Contains lits) (l ∷ clause) l same.from_first (Contains-here l clause) in absurd (omega (arith, none, found.1))

counts_one : (clause lits : List Literal) (hints : List ℕ) → HaveSameLiterals clause lits → 0 < length lits → is_nonempty_step (step clause hints) ≡ true
counts_one [] [] hints same some = absurd (omega arith)
counts_one [] (l ∷ lits) hints same some = absurd (none_in_nil l (All-contains (Contains []) (l ∷ lits) l same.from_second (Contains-here l lits)))
counts_one (l ∷ clause) lits hints same some = refl

-- a step with a literal counts, and the empty one doesn't
pub count_some : (events : List LogEvent) (clause lits : List Literal) (hints : List ℕ) → HaveSameLiterals clause lits → 0 < length lits → nonempty_steps (events ++ step clause hints ∷ []) ≡ nonempty_steps events + 1
count_some events clause lits hints same some =
    nonempty_steps-push events (step clause hints) ∙ ap (λ (b : Bool). nonempty_steps events + cond b 1 0) (counts_one clause lits hints same some)

pub count_none : (events : List LogEvent) (clause lits : List Literal) (hints : List ℕ) → HaveSameLiterals clause lits → length lits ≡ 0 → nonempty_steps (events ++ step clause hints ∷ []) ≡ nonempty_steps events
count_none events clause lits hints same none =
    ap (λ (c : List Literal). nonempty_steps (events ++ step c hints ∷ [])) (no_literal_kept clause lits same none)
    ∙ omega (arith, nonempty_steps-push events (step [] hints))

-- a log goes on with a step that was explained
pub continued_step : (budget : ℕ) (log new : LogState) (clauses : List (List Literal)) (clause lits : List Literal) (hints : List ℕ) → IsSound log.events → clauses ≡ clauses_of log.events → IsExplained clauses lits hints → HaveSameLiterals clause lits
    → new ≡ with_step log clause hints → nonempty_steps (log.events ++ step clause hints ∷ []) ≤ budget → IsContinued budget log new
continued_step budget log new clauses clause lits hints sound are found same is within =
    subst (IsContinued budget log) (sym is) (record {
      sound = sound_push log.events clause lits hints sound same (subst (λ (cs : List (List Literal)). IsExplained cs lits hints) are found);
      steps = record { added = step clause hints ∷ []; events = refl; are_steps = All-cons (λ e. is_given e ≡ false) (step clause hints) [] refl (All-nil (λ e. is_given e ≡ false)); notes = refl; base = refl };
      within = within;
    })

-- the same of a log that may have been left as it was
pub continued_or : (budget : ℕ) (log new : LogState) (clauses : List (List Literal)) (clause lits : List Literal) (hints : List ℕ) → IsSound log.events → clauses ≡ clauses_of log.events → IsExplained clauses lits hints → HaveSameLiterals clause lits
    → (new ≡ log) ⊎ (new ≡ with_step log clause hints) → nonempty_steps log.events ≤ budget → nonempty_steps (log.events ++ step clause hints ∷ []) ≤ budget → IsContinued budget log new
continued_or budget log new clauses clause lits hints sound are found same (inl stays) before within = subst (IsContinued budget log) (sym stays) (continued_same budget log sound before)
continued_or budget log new clauses clause lits hints sound are found same (inr is) before within = continued_step budget log new clauses clause lits hints sound are found same is within

pub ends_empty : (log new : LogState) (clause lits : List Literal) (hints : List ℕ) → HaveSameLiterals clause lits → length lits ≡ 0 → new ≡ with_step log clause hints → EndsWithEmptyStep new.events
ends_empty log new clause lits hints same none is = record {
  before = log.events;
  hints = hints;
  events_are = ap (λ (x : LogState). x.events) is ∙ ap (λ (c : List Literal). log.events ++ step c hints ∷ []) (no_literal_kept clause lits same none);
}

-- a given leaves a log sound
pub sound_given : (events : List LogEvent) (clause : List Literal) → IsSound events → IsSound (events ++ given clause ∷ [])
sound_given events clause sound = record {
  valid = EachStep-given IsValidStep [] events clause sound.valid;
  new = EachStep-given (λ earlier c hs. 0 < length c → IsNewStep earlier c) [] events clause sound.new;
  effective = EachStep-given (λ earlier c hs. 0 < length c → IsEffectiveStep earlier c) [] events clause sound.effective;
}

-- a budget that is spent is less than the number of ways for the variables of the givens to stand in a clause
pub spent_few : (budget : ℕ) (trues : List Literal) (events : List LogEvent) (outcome : Outcome) → IsAnswer budget trues events outcome → outcome ≡ Spent → IsSound events → (vars : List ℕ) → GivensNameOnly vars events → budget < 3 ^ length vars
spent_few budget trues events outcome answer is sound vars names =
    let ended = subst (IsAnswer budget trues events) is answer in
    subst (λ (n : ℕ). n < 3 ^ length vars) ended.0 (fewer_new_steps events vars sound.new names)

-- where all events are givens, nothing is said of steps
each_of_givens : (P : List LogEvent → List Literal → List ℕ → Type 0) (earlier events : List LogEvent) → All (λ e. is_given e ≡ true) events → EachStep P earlier events
each_of_givens P earlier [] all = tt
each_of_givens P earlier (given clause ∷ events) all = each_of_givens P (earlier ++ given clause ∷ []) events (All-tail (λ e. is_given e ≡ true) (given clause) events all)
each_of_givens P earlier (step clause hints ∷ events) all = absurd (false≢true (All-head (λ e. is_given e ≡ true) (step clause hints) events all))

pub sound_givens : (events : List LogEvent) → All (λ e. is_given e ≡ true) events → IsSound events
sound_givens events all = record {
  valid = each_of_givens IsValidStep [] events all;
  new = each_of_givens (λ earlier c hs. 0 < length c → IsNewStep earlier c) [] events all;
  effective = each_of_givens (λ earlier c hs. 0 < length c → IsEffectiveStep earlier c) [] events all;
}

givens_append : (before added : List LogEvent) → givens (before ++ added) ≡ givens before ++ givens added
givens_append [] added = refl
givens_append (given clause ∷ before) added = ap (λ (cs : List (List Literal)). clause ∷ cs) (givens_append before added)
givens_append (step clause hints ∷ before) added = givens_append before added

no_givens : (added : List LogEvent) → All (λ e. is_given e ≡ false) added → givens added ≡ []
no_givens [] all = refl
no_givens (given clause ∷ added) all = absurd (false≢true (sym (All-head (λ e. is_given e ≡ false) (given clause) added all)))
no_givens (step clause hints ∷ added) all = no_givens added (All-tail (λ e. is_given e ≡ false) (step clause hints) added all)

-- steps leave the givens
pub givens_kept : (old new : LogState) → AddsSteps old new → givens new.events ≡ givens old.events
givens_kept old new adds =
    ap givens adds.events ∙ givens_append old.events adds.added
    ∙ ap (λ (cs : List (List Literal)). givens old.events ++ cs) (no_givens adds.added adds.are_steps) ∙ append-nil (givens old.events)

-- a given is no step
pub steps_given : (events : List LogEvent) (clause : List Literal) → nonempty_steps (events ++ given clause ∷ []) ≡ nonempty_steps events
steps_given events clause = omega (arith, nonempty_steps-push events (given clause))

-- where the empty clause follows, nothing satisfies the givens
pub ended_has_no_solution : (events : List LogEvent) → EndsWithEmptyStep events → IsSound events → (s : ℕ → Bool) → Satisfies s (givens events) → ⊥
ended_has_no_solution events ends sound s satisfied =
    let valid : IsValidLog (ends.before ++ step [] ends.hints ∷ []) = subst IsValidLog ends.events_are sound.valid in
    let same : givens events ≡ givens ends.before
    = ap givens ends.events_are ∙ givens_append ends.before (step [] ends.hints ∷ []) ∙ append-nil (givens ends.before) in
    let found = step_follows s ends.before [] [] ends.hints valid (subst (λ (cs : List (List Literal)). Satisfies s cs) same satisfied) in
    none_in_nil found.literal found.in_clause

-- the same of an answer
pub unsat_none : (budget : ℕ) (trues : List Literal) (events : List LogEvent) (outcome : Outcome) → IsAnswer budget trues events outcome → outcome ≡ Unsat → IsSound events → (s : ℕ → Bool) → Satisfies s (givens events) → ⊥
unsat_none budget trues events outcome answer is sound =
    ended_has_no_solution events (subst (IsAnswer budget trues events) is answer) sound
