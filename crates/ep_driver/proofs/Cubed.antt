-- Answers that come by cubes.
use Rattle.std.proofs.Common.{◌≡◌, ◌⊎◌, ℕ, List, Option, Some, None, inl, inr, refl}
use Rattle.cnf_core.specs.Events.{LogState}
use Rattle.ep_divided.specs.Divided.{IsLoggedAsDivided, ShowsInCubes}
use Rattle.ep_print.specs.Answers.{AnswerTree, answer_text, no_solution, optimum, solution, unknown, unknown_with}
use Rattle.ep_solve.specs.Logged.{Stands}
use Rattle.ep_solve.specs.Right.{IsRight, IsSpent}
use Rattle.ep_tree.specs.Binding.{Instance}
use Rattle.ep_tree.specs.declared.values.Mode.{Mode}
use Rattle.sat_search.specs.Logs.{IsSound}
use Rattle.ep_driver.specs.Answers.{Settles, answer_status}
use Rattle.ep_driver.specs.Commands.{conflicts_wanted}
use Rattle.ep_driver.specs.Outcomes.{to_divide}
use Rattle.ep_driver.specs.Steps.{IsSearchedFor}
use Rattle.ep_driver.specs.declared.wanted.Request.{Request}
use Rattle.ep_files.specs.declared.status.Status.{Status}
use Rattle.ep_driver.proofs.Tasks.{answer-ends}

none-or : {A : Type 0} (o : Option A) → (o ≡ None) ⊎ (o ≡ None → ⊥)
none-or None = inl refl
none-or (Some x) = inr (λ e. cc)

shown-ends : (mode : Mode) (i : Instance) (vars : List ℕ) (conflicts : ℕ) (log : LogState) (a : AnswerTree) (status : Status) → status ≡ answer_status a → ShowsInCubes mode i vars conflicts log a
    → (status ≡ Status.Answered) ⊎ ((status ≡ Status.Unknown) × IsSpent conflicts log.events × IsSound log.events)
unfolding answer_status ShowsInCubes
shown-ends mode i vars conflicts log (solution _) status e h = inl e
shown-ends mode i vars conflicts log (optimum _ _) status e h = absurd h
shown-ends mode i vars conflicts log no_solution status e h = inl e
shown-ends mode i vars conflicts log (unknown _) status e h = inr (e, h.spent, h.sound)
shown-ends mode i vars conflicts log (unknown_with _ _ _) status e h = absurd h

-- the log of an answer by cubes is valid, its steps with a literal are new, and it shows where the budget was spent
pub divided-ends : (mode : Mode) (i : Instance) (cubes conflicts : ℕ) (log : LogState) (a : AnswerTree) (status : Status) → status ≡ answer_status a → IsLoggedAsDivided mode i cubes conflicts log a → IsSearchedFor (Request.Divided cubes conflicts) status log
unfolding conflicts_wanted
divided-ends mode i cubes conflicts log a status e h = elim (none-or i.goal) [
  | inl none ↦ let d = h.divided none in ((d.valid, d.new), shown-ends mode i d.vars conflicts log a status e d.shows)
  | inr some ↦ let l = h.undivided some in ((l.sound.valid, l.sound.new), (answer-ends mode i conflicts log a status e l).1)
]

-- it stands for the instance
pub divided-stands : (mode : Mode) (i : Instance) (cubes conflicts : ℕ) (log : LogState) (a : AnswerTree) → IsLoggedAsDivided mode i cubes conflicts log a → Stands mode i log
divided-stands mode i cubes conflicts log a h = elim (none-or i.goal) [
  | inl none ↦ (h.divided none).stands
  | inr some ↦ (h.undivided some).stands
]

pub divided : (mode : Mode) (i : Instance) (cubes conflicts : ℕ) (status : Status) (text : List ℕ) (log : LogState) (a : AnswerTree) → IsRight mode i conflicts a → IsLoggedAsDivided mode i cubes conflicts log a
    → status ≡ answer_status a → text ≡ answer_text a → Settles (to_divide mode i cubes conflicts) status text log
unfolding Settles
divided mode i cubes conflicts status text log a right logged ended said = (a, right, logged, ended, said)
