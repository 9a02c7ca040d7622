-- What is told of why an instance has no solution.
use Rattle.std.proofs.Common.{◌≡◌, ◌∙◌, ◌⊎◌, ℕ, List, map, inl, inr, ap}
use Rattle.cnf_core.specs.Events.{LogState}
use Rattle.ep_explain.specs.Tried.{IsRightExplanation, ends_spent, named_clause}
use Rattle.ep_explain.specs.declared.explaining.Explained.{Explained}
use Rattle.ep_explain.specs.declared.explaining.Explained.TheVariants.{Core as NamedClauses, Satisfiable, Spent}
use Rattle.ep_explain_text.specs.ExplanationTexts.{explanation_text}
use Rattle.ep_explain_text.specs.Told.{IsTold}
use Rattle.ep_explain_text.specs.declared.telling.Told.{Told}
use Rattle.ep_solve.specs.Logged.{ShowsAnswer}
use Rattle.ep_solve.specs.Right.{IsSpent}
use Rattle.ep_tree.specs.Binding.{Instance}
use Rattle.ep_tree.specs.Views.{assigned}
use Rattle.ep_tree.specs.declared.values.Mode.{Mode}
use Rattle.sat_search.specs.Logs.{IsSound}
use Rattle.ep_driver.specs.Answers.{Settles, explanation_status, spent_status}
use Rattle.ep_driver.specs.Outcomes.{to_explain}
use Rattle.ep_driver.specs.Promised.{IsExplanation}
use Rattle.ep_driver.specs.Steps.{IsSearched}
use Rattle.ep_files.specs.declared.status.Status.{Status}
use Rattle.ep_driver.proofs.Tasks.{searched}

explained-spent : (mode : Mode) (i : Instance) (conflicts : ℕ) (log : LogState) (said : Explained) (status : Status) → status ≡ explanation_status said → IsRightExplanation mode i conflicts log said
    → (status ≡ Status.Answered) ⊎ ((status ≡ Status.Unknown) × IsSpent conflicts log.events)
unfolding IsRightExplanation ShowsAnswer ends_spent
explained-spent mode i conflicts log (Satisfiable a) status e right = inl e
explained-spent mode i conflicts log (NamedClauses named) status e right = inl e
explained-spent mode i conflicts log (Spent numbers) status e right = inr (e, right.1.shows.0)

-- what is told ends as a search does
pub told-ends : (mode : Mode) (i : Instance) (conflicts : ℕ) (log : LogState) (told : Told) (status : Status) → status ≡ spent_status told.is_open → IsTold mode i conflicts log told → IsSound log.events → IsSearched conflicts status log
told-ends mode i conflicts log told status e h sound = searched conflicts status log sound (explained-spent mode i conflicts log h.said status (e ∙ ap spent_status h.ends) h.right)

-- what is told settles what is asked
pub told-settles : (mode : Mode) (i : Instance) (conflicts : ℕ) (log : LogState) (told : Told) (status : Status) → status ≡ spent_status told.is_open → IsTold mode i conflicts log told → Settles (to_explain mode i conflicts) status told.text.items log
unfolding Settles
told-settles mode i conflicts log told status e h = (h.said, h.right, h.logged, e ∙ ap spent_status h.ends, h.text_is)

-- what is right is so of the instance, whatever the log shows
pub explanation_true : (mode : Mode) (i : Instance) (conflicts : ℕ) (status : Status) (text : List ℕ) (log : LogState) (said : Explained) → IsRightExplanation mode i conflicts log said → status ≡ explanation_status said → text ≡ explanation_text conflicts said
    → IsExplanation mode i conflicts status text
unfolding IsRightExplanation ends_spent explanation_text
explanation_true mode i conflicts status text log (Satisfiable a) right e t = inl (e, assigned a, right, t)
explanation_true mode i conflicts status text log (NamedClauses named) right e t = inr (inl (e, map named_clause named.items, right, t))
explanation_true mode i conflicts status text log (Spent numbers) right e t = inr (inr (e, t))
