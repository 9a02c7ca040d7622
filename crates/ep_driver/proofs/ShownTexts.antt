-- From the texts of a number to what a run tells of them.
use Rattle.std.proofs.Common.{◌≡◌, ℕ, List, [], ◌∷◌, Option, Some, None, Ok, Err, Result, IfOk, inl, inr, refl, sym}
use Rattle.cnf_core.specs.Events.{LogState}
use Rattle.ep_base.specs.Outside.{Held}
use Rattle.ep_print.specs.declared.refusals.Refusal.{Refusal}
use Rattle.ep_solve.specs.Right.{empty_log}
use Rattle.ep_driver.specs.Outcomes.{Outcome, Task}
use Rattle.ep_files.specs.Readings.{ReadsTexts}
use Rattle.ep_driver.specs.Shown.{ThenShows, comes_to_generate}
use Rattle.ep_driver.specs.Steps.{AnswersNumber, TellsReply, TellsShown, TellsTask}
use Rattle.ep_files.specs.Reads.{TellsText}
use Rattle.ep_driver.specs.declared.replies.Reply.{Reply}
use Rattle.ep_files.specs.declared.stops.Stop.{Stop}
use Rattle.ep_driver.proofs.Refusing.{contains-first}

-- what is told of what texts show is told over held files
pub over-shown : (shows : Outcome Task → Type 0) (told : Option Held) (rose : Type 0) (log : LogState) (result : Result Reply Stop) → TellsShown shows log result → TellsTask [] (λ held. shows) told rose log result
over-shown shows None rose log (Ok reply) h = tt
over-shown shows (Some held) rose log (Ok reply) h = h
over-shown shows None rose log (Err Stop.Memory) h = inr tt
over-shown shows (Some held) rose log (Err Stop.Memory) h = h
over-shown shows None rose log (Err (Stop.Refused r)) h = inr (h.0, tt)
over-shown shows (Some held) rose log (Err (Stop.Refused r)) h = inr (h.0, (h.1, h.2, h.3))

-- after a text that was read, what follows tells the whole
pub then-shown : {A : Type 0} (reads : Result A Refusal → Type 0) (next : A → Outcome Task → Type 0) (x : A) (log : LogState) (result : Result Reply Stop) → reads (Ok x) → TellsShown (next x) log result → TellsShown (ThenShows reads next) log result
then-shown reads next x log (Ok reply) was h = (h.0, inl (x, was, h.1), h.2)
then-shown reads next x log (Err (Stop.Refused r)) was h = (h.0, h.1, inl (x, was, h.2), h.3)
then-shown reads next x log (Err Stop.Memory) was h =
    elim h [ inl nothing ↦ inl nothing | inr asked ↦ inr (asked.0, inl (x, was, asked.1)) ]

-- a text that isn't read
pub unread-shown : {V A : Type 0} (view : V → A) (texts : ReadsTexts A) (text : List ℕ) (next : A → Outcome Task → Type 0) (log : LogState) (stop : Stop) → log ≡ empty_log → TellsText view texts text (Err stop)
    → TellsShown (ThenShows (texts text) next) log (Err stop)
unread-shown view texts text next log (Stop.Refused r) nothing h = (h.0, r ∷ [], inr (r, h.1, refl), contains-first r [])
unread-shown view texts text next log Stop.Memory nothing h = inl nothing

-- what a reply over trees tells
pub reply-shown : (o : Outcome Task) (log : LogState) (result : Result Reply Stop) → TellsReply o log result → TellsShown (λ outcome. outcome ≡ o) log result
reply-shown o log (Ok reply) h = (h.0, sym h.1, h.2)
reply-shown o log (Err (Stop.Refused r)) h = (h.0, h.1.0, sym h.1.1, h.1.2)
reply-shown o log (Err Stop.Memory) h = elim h [ inl nothing ↦ inl nothing | inr asked ↦ inr (asked.0, sym asked.1) ]

-- a reply to what the texts of a number show answers it
pub shown-answers : (number conflicts : ℕ) (log : LogState) (result : Result Reply Stop) → TellsShown (comes_to_generate number conflicts) log result
    → IfOk result (λ reply. AnswersNumber number conflicts reply.status reply.text.items log)
shown-answers number conflicts log (Ok reply) h = h
shown-answers number conflicts log (Err stop) h = tt

-- nothing is owed where no texts of a number are wanted
pub no-texts : {X E : Type 0} (r : Result X E) → IfOk r (λ x. Unit {0})
no-texts (Ok x) = tt
no-texts (Err e) = tt
