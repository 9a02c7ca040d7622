-- A log whose last step is the empty one is verified.
use Rattle.std.proofs.Common.{◌≡◌, ℕ, List, [], ◌∷◌, ◌++◌, sym, subst}
use Rattle.cnf_core.specs.Events.{LogEvent, givens, step}
use Rattle.cnf_core.specs.LogLines.{log_lines}
use Rattle.cnf_core.specs.Steps.{IsValidLog}
use Rattle.log_check.specs.Verdict.{verdict_of}
use Rattle.log_check.specs.declared.Verdict.TheVariants.{Verified}
use Rattle.sat_search.specs.Logs.{EndsWithEmptyStep}

-- the law that a valid log which ends with the empty clause is verified
abbrev pub EmptyVerifies : Type 0
EmptyVerifies = (before : List LogEvent) (hints : List ℕ) → IsValidLog (before ++ step [] hints ∷ []) → verdict_of (givens (before ++ step [] hints ∷ [])) (log_lines (before ++ step [] hints ∷ [])) ≡ Verified

pub ends-verified : EmptyVerifies → (events : List LogEvent) → IsValidLog events → EndsWithEmptyStep events → verdict_of (givens events) (log_lines events) ≡ Verified
ends-verified law events valid ends =
    let P : List LogEvent → Type 0 = λ es. verdict_of (givens es) (log_lines es) ≡ Verified in
    subst P (sym ends.events_are) (law ends.before ends.hints (subst IsValidLog ends.events_are valid))
