-- What is explained, told by a text.
use Rattle.std.proofs.Common.{◌≡◌, ℕ, sym, subst}
use Rattle.std.specs.Prelude.{map}
use Rattle.std.specs.List.{All}
use Rattle.std.proofs.lemmas.List.Elements.{All-weaker}
use Rattle.cnf_core.specs.Events.{LogState}
use Rattle.ep_explain.specs.Explained.{Core, Explains, IsWrittenSolution, all_but, core_numbers}
use Rattle.ep_explain.specs.Tried.{IsLogOfAttempt, IsRightExplanation, named_clause}
use Rattle.ep_explain.specs.declared.explaining.Explained.{Explained}
use Rattle.ep_explain.specs.declared.explaining.Explained.TheVariants.{Core as NamedClauses, Satisfiable, Spent}
use Rattle.ep_print.specs.Answers.{AreTyped}
use Rattle.ep_restrict.specs.Restricted.{restricted}
use Rattle.ep_solve.specs.Right.{empty_log}
use Rattle.ep_tree.specs.Binding.{Instance}
use Rattle.ep_tree.specs.declared.values.Mode.{Mode}
use Rattle.sat_search.specs.Logs.{IsSound}
use Rattle.ep_explain_text.specs.ExplanationTexts.{HasTypedParts}

typed_core : (mode : Mode) (i : Instance) (core : Core) → Explains mode i core → All (λ one. AreTyped one.1) core
typed_core mode i core e =
    All-weaker (λ one. IsWrittenSolution mode (restricted i (all_but one.0 (core_numbers core))) one.1) (λ one. AreTyped one.1) (λ one shown. shown.typed) core e.without

-- what is right has values of their types
pub typed_parts : (mode : Mode) (i : Instance) (budget : ℕ) (log : LogState) (said : Explained) → IsRightExplanation mode i budget log said → HasTypedParts said
unfolding IsRightExplanation HasTypedParts
typed_parts mode i budget log (Satisfiable a) right = right.typed
typed_parts mode i budget log (NamedClauses named) right = typed_core mode i (map named_clause named.items) right
typed_parts mode i budget log (Spent numbers) right = tt

-- an empty log is sound
pub begins_sound : (log : LogState) → log ≡ empty_log → IsSound log.events
begins_sound log is = subst (λ (l : LogState). IsSound l.events) (sym is) (record { valid = tt; new = tt; effective = tt })

-- what is right by an equal budget and an equal log
pub told_right : (mode : Mode) (i : Instance) (b budget : ℕ) (l log : LogState) (said : Explained) → b ≡ budget → log ≡ l
    → IsRightExplanation mode i b l said → IsRightExplanation mode i budget log said
told_right mode i b budget l log said same is right =
    subst (λ n. IsRightExplanation mode i n log said) same (subst (λ k. IsRightExplanation mode i b k said) (sym is) right)

-- a log of an attempt, by an equal budget and an equal log
pub told_logged : (mode : Mode) (i : Instance) (b budget : ℕ) (l log : LogState) → b ≡ budget → log ≡ l → IsLogOfAttempt mode i b l → IsLogOfAttempt mode i budget log
told_logged mode i b budget l log same is it =
    subst (λ n. IsLogOfAttempt mode i n log) same (subst (IsLogOfAttempt mode i b) (sym is) it)
