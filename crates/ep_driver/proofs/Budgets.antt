-- What a spent budget tells of the log.
use Rattle.std.proofs.Common.{◌≡◌, ◌∙◌, ◌≢◌, ℕ, ◌<◌, ◌≤◌, ◌^◌, List, [], ◌∷◌, ◌++◌, length, Option, sym, subst, refl, arith, append_assoc}
use Rattle.std.proofs.lemmas.List.{append-nil}
use Rattle.std.proofs.lemmas.List.Elements.{All-head, All-tail}
use Rattle.cnf_core.specs.Literal.{Literal}
use Rattle.cnf_core.specs.Events.{EachStep, LogEvent, LogState, clauses_of, given, nonempty_steps, step}
use Rattle.cnf_core.specs.Steps.{GivensNameOnly, IsEffectiveStep, IsValidStep, NonEmptyStepsAreEffective, NonEmptyStepsAreNew}
use Rattle.ep_driver.specs.Budgets.{IsBelowPower, MeetsConflict, before_steps}
use Rattle.ep_driver.specs.Commands.{Want}
use Rattle.ep_driver.specs.Searches.{IsSearchFor}
use Rattle.ep_solve.specs.Right.{IsSpent}
use Rattle.sat_search.specs.Logs.{NoneIsEmpty}
use Rattle.ep_driver.specs.declared.wanted.Wanted.{Wanted}
use Rattle.ep_driver.proofs.Allowed.{wants-budget}
use Rattle.ep_driver.proofs.Once.{WantOne}
use Rattle.ep_driver.proofs.Promises.{Spends}

-- the law that new steps are few
abbrev pub FewSteps : Type 0
FewSteps = (events : List LogEvent) (vars : List ℕ) → NonEmptyStepsAreNew events → GivensNameOnly vars events → nonempty_steps events < 3 ^ length vars

-- the law that no step is effective after a conflict
abbrev pub NoneAfterConflict : Type 0
NoneAfterConflict = (earlier : List LogEvent) (clause : List Literal) (hints : List ℕ) → IsValidStep earlier [] hints → IsEffectiveStep earlier clause → ⊥

-- a budget that is spent is below a power of 3
below-power : FewSteps → (budget : ℕ) (events : List LogEvent) → NonEmptyStepsAreNew events → IsSpent budget events → IsBelowPower budget events
below-power few budget events new spent = λ vars only.
    let P : ℕ → Type 0 = λ n. n < 3 ^ length vars in
    subst P spent.0 (few events vars new only)

-- where there is a step, the first one is effective
first-effective : (earlier later : List LogEvent) → EachStep (λ earlier clause hints. 0 < length clause → IsEffectiveStep earlier clause) earlier later → NoneIsEmpty later → 1 ≤ nonempty_steps later → (clause : List Literal) × IsEffectiveStep (earlier ++ before_steps later) clause
first-effective earlier [] each filled some = absurd (omega (arith, some))
first-effective earlier (given clause ∷ later) each filled some =
    let rest = first-effective (earlier ++ given clause ∷ []) later each (All-tail (λ (c : List Literal). c ≢ []) clause (clauses_of later) filled) some in
    let P : List LogEvent → Type 0 = λ es. IsEffectiveStep es rest.0 in
    (rest.0, subst P (append_assoc earlier (given clause ∷ []) (before_steps later)) rest.1)
first-effective earlier (step [] hints ∷ later) each filled some = absurd (All-head (λ (c : List Literal). c ≢ []) [] (clauses_of later) filled refl)
first-effective earlier (step (l ∷ clause) hints ∷ later) each filled some =
    let P : List LogEvent → Type 0 = λ es. IsEffectiveStep es (l ∷ clause) in
    (l ∷ clause, subst P (sym (append-nil earlier)) (each.0 (omega arith)))

-- where a search spends its budget, unit propagation on what is given before the first step meets no conflict
no-conflict : NoneAfterConflict → (words : List (List ℕ)) (wanted : Wanted) (conflicts : ℕ) (events : List LogEvent) → Want words wanted → IsSearchFor wanted conflicts → NonEmptyStepsAreEffective events → IsSpent conflicts events → ¬ MeetsConflict (before_steps events)
no-conflict none words wanted conflicts events want is effective spent = λ conflict.
    let some = wants-budget words wanted conflicts want is in
    let first = first-effective [] events effective spent.1 (omega (arith, some, spent.0)) in
    none (before_steps events) first.0 conflict.0 conflict.1 first.1

-- a search that is wanted has one budget
one-budget : (wanted : Wanted) (m n : ℕ) → IsSearchFor wanted m → IsSearchFor wanted n → m ≡ n
one-budget (Wanted.Search model params mode request output) m n g h = g ∙ sym h
one-budget (Wanted.Opb opb most) m n g h = g ∙ sym h
one-budget (Wanted.Verify model params mode solution) m n g h = absurd g
one-budget (Wanted.Check formula proof workers) m n g h = absurd g
one-budget (Wanted.Generate number most eprime param) m n g h = g ∙ sym h

-- ---- the words and the log of a run

pub below-said : FewSteps → (words : List (List ℕ)) (log : LogState) → WantOne words → Spends words log → (wanted : Wanted) (conflicts : ℕ) → Want words wanted → IsSearchFor wanted conflicts → IsBelowPower conflicts log.events
below-said few words log one spends wanted conflicts want is =
    let both : spends.0 ≡ wanted = one spends.0 wanted spends.2 want in
    let same : spends.1 ≡ conflicts = one-budget wanted spends.1 conflicts (subst (λ (w : Wanted). IsSearchFor w spends.1) both spends.3) is in
    let P : ℕ → Type 0 = λ n. IsBelowPower n log.events in
    subst P same (below-power few spends.1 log.events spends.5.new spends.4)

pub unforced-said : NoneAfterConflict → (words : List (List ℕ)) (log : LogState) → Spends words log → ¬ MeetsConflict (before_steps log.events)
unforced-said none words log spends =
    no-conflict none words spends.0 spends.1 log.events spends.2 spends.3 spends.5.effective spends.4
