-- From what is replied to the text of a pseudo-Boolean problem to what a run tells of it.
use Rattle.std.proofs.Common.{◌≡◌, ◌∙◌, ◌⊎◌, ℕ, ◌+◌, Bool, true, false, List, [], ◌∷◌, length, take, Option, Some, None, option_map, Ok, Err, Result, IfSome, IsSomeAnd, inl, inr, refl, sym, ap, subst}
use Rattle.cnf_core.specs.Events.{LogState}
use Rattle.ep_base.specs.Outside.{Held, ReadGives}
use Rattle.ep_files.proofs.FileReading.{IsCutAlike, longer, whole}
use Rattle.ep_files.specs.Readings.{IsHeldReadBy, IsReadBy, ReadsTexts}
use Rattle.ep_files.specs.Reads.{IsOfText, TellsBytes, TellsRead}
use Rattle.ep_files.specs.Status.{status_of}
use Rattle.ep_files.specs.declared.status.Status.{Status}
use Rattle.ep_files.specs.declared.stops.Stop.{Stop}
use Rattle.ep_print.specs.declared.refusals.Refusal.{Refusal}
use Rattle.ep_solve.specs.Right.{IsSpent, empty_log}
use Rattle.sat_search.specs.Logs.{IsSound}
use Rattle.opb_answer.specs.Answers.{OpbFound, no_solution, optimum, solution, unknown}
use Rattle.opb_solve.specs.Logged.{IsOpbLogged, ShowsOpb}
use Rattle.opb_solve.specs.Replies.{IsOpbReply, OpbComesTo, RepliesToOpb, says_spent}
use Rattle.opb_solve.specs.declared.replies.OpbRefusal.{OpbRefusal}
use Rattle.opb_solve.specs.declared.replies.OpbReply.{OpbReply}
use Rattle.opb_solve.specs.declared.replies.OpbStop.{OpbStop}
use Rattle.opb_text.specs.Contents.{OpbContent}
use Rattle.ep_driver.specs.Answers.{Settles, opb_status, spent_status}
use Rattle.ep_driver.specs.Outcomes.{Outcome, Task, opb_refusal, to_solve_opb}
use Rattle.ep_driver.specs.Shown.{IsOpbTextReadAs, ThenShows, is_opb_task}
use Rattle.ep_driver.specs.Steps.{EndsBy, IsSearched, OrUnlogged, TellsShown, TellsTask}
use Rattle.ep_driver.specs.Stops.{opb_stop}
use Rattle.ep_driver.specs.declared.replies.Reply.{Reply}
use Rattle.ep_driver.proofs.Refusing.{contains-first}
use Rattle.ep_driver.proofs.Tasks.{searched}
use Rattle.opb_text.specs.Words.{most_opb_bytes}

-- ---- from the bytes that were read to the file

-- the first bytes of a text, one more than such a text may have, are read as the text is
pub cut-opb : IsCutAlike most_opb_bytes IsOpbTextReadAs
cut-opb text (Ok content) h =
    let P : List ℕ → Type 0 = λ t. IsOpbTextReadAs t (Ok content) in subst P (whole most_opb_bytes text h.0.short) h
cut-opb text (Err r) h = (h.0, cut-coming text h.0 h.1, h.2)
  where
    cut-coming : (text : List ℕ) (own : OpbRefusal) → OpbComesTo (take (most_opb_bytes + 1) text) (Err own) → OpbComesTo text (Err own)
    cut-coming text OpbRefusal.TooLong long = longer most_opb_bytes text long
    cut-coming text (OpbRefusal.Bad line) faulty =
        let P : List ℕ → Type 0 = λ t. OpbComesTo t (Err (OpbRefusal.Bad line)) in subst P (whole most_opb_bytes text faulty.short) faulty
    cut-coming text (OpbRefusal.Over limit) over =
        let P : List ℕ → Type 0 = λ t. OpbComesTo t (Err (OpbRefusal.Over limit)) in subst P (whole most_opb_bytes text over.1.short) over

-- what bytes show the file shows that holds them
held-shows : {A : Type 0} (most : ℕ) (texts : ReadsTexts A) → IsCutAlike most texts → (name bytes : List ℕ) (next : A → Outcome Task → Type 0) (x : Option (List ℕ)) (outcome : Outcome Task) → Some bytes ≡ option_map (take (most + 1)) x
    → ThenShows (texts bytes) next outcome → ThenShows (IsHeldReadBy texts name x) next outcome
held-shows most texts alike name bytes next None outcome e h = absurd cc
held-shows most texts alike name bytes next (Some text) outcome e h =
    let same : bytes ≡ take (most + 1) text = cc in
    let P : List ℕ → Type 0 = λ t. ThenShows (texts t) next outcome in
    let cut : P (take (most + 1) text) = subst P same h in
    elim cut [
      | inl shown ↦ inl (shown.0, alike text (Ok shown.0) shown.1, shown.2)
      | inr refused ↦ inr (refused.0, alike text (Err refused.0) refused.1, refused.2)
    ]

-- what is told of the first bytes of a file is told of the file
pub over-file : {A : Type 0} (most : ℕ) (texts : ReadsTexts A) → IsCutAlike most texts → (name bytes : List ℕ) (next : A → Outcome Task → Type 0) (told : Option Held) (rose : Type 0) (log : LogState) (result : Result Reply Stop)
    → ReadGives told name (most + 1) (Some bytes) → TellsShown (ThenShows (texts bytes) next) log result → TellsTask (name ∷ []) (λ held. ThenShows (IsReadBy texts held name) next) told rose log result
over-file most texts alike name bytes next None rose log (Ok reply) gives h = tt
over-file most texts alike name bytes next (Some held) rose log (Ok reply) gives h = (h.0, held-shows most texts alike name bytes next (held name) (Ok h.0) gives h.1, h.2)
over-file most texts alike name bytes next None rose log (Err (Stop.Refused r)) gives h = inr (h.0, tt)
over-file most texts alike name bytes next (Some held) rose log (Err (Stop.Refused r)) gives h = inr (h.0, (h.1, held-shows most texts alike name bytes next (held name) (Err h.1) gives h.2, h.3))
over-file most texts alike name bytes next None rose log (Err Stop.Memory) gives h = inr tt
over-file most texts alike name bytes next (Some held) rose log (Err Stop.Memory) gives h =
    elim h [ inl nothing ↦ inl nothing | inr asked ↦ inr (asked.0, held-shows most texts alike name bytes next (held name) (Ok asked.0) gives asked.1) ]

-- bytes that couldn't be read
pub unread-stop : {V A : Type 0} (bytes_of : V → List ℕ) (texts : ReadsTexts A) (most : ℕ) (told : Option Held) (name : List ℕ) (rose : Type 0) (stop : Stop) → TellsBytes bytes_of most told name rose (Err stop)
    → TellsRead {V = A} (λ x. x) texts told name rose (Err stop)
unread-stop bytes_of texts most told name rose (Stop.Refused r) h = inl h
unread-stop bytes_of texts most told name rose Stop.Memory h = tt

-- ---- what is replied

refusal-of-text : (own : OpbRefusal) → IsOfText (opb_refusal own)
unfolding opb_refusal status_of
refusal-of-text OpbRefusal.TooLong = inr refl
refusal-of-text (OpbRefusal.Bad line) = inl refl
refusal-of-text (OpbRefusal.Over limit) = inr refl

-- an answer
pub opb-answered : (text : List ℕ) (conflicts : ℕ) (log : LogState) (reply : OpbReply) (status : Status) (said : Reply) → RepliesToOpb text conflicts log (Ok reply) → status ≡ spent_status reply.spent → said.status ≡ status → said.text.items ≡ reply.text.items
    → TellsShown (ThenShows (IsOpbTextReadAs text) (is_opb_task conflicts)) log (Ok said)
unfolding Settles
opb-answered text conflicts log reply status said h ended kept same =
    let own = h.2 in (
      to_solve_opb h.0 conflicts,
      inl (h.0, h.1, refl),
      (own.found, own.right, own.logged, kept ∙ ended ∙ ap spent_status own.spent, same ∙ own.text),
    )

-- something is logged for a problem alone
logged-for : (text : List ℕ) (conflicts : ℕ) (log : LogState) (outcome : Result OpbContent OpbRefusal) → OpbComesTo text outcome → ((refusal : OpbRefusal) → OpbComesTo text (Err refusal) → log ≡ empty_log)
    → OrUnlogged log ((task : Task) × ThenShows (IsOpbTextReadAs text) (is_opb_task conflicts) (Ok task))
logged-for text conflicts log (Ok content) comes unlogged = inr (to_solve_opb content conflicts, inl (content, comes, refl))
logged-for text conflicts log (Err refusal) comes unlogged = inl (unlogged refusal comes)

-- a refusal, or want of memory
pub opb-stopped : (text : List ℕ) (conflicts : ℕ) (log : LogState) (stop : OpbStop) → (outcome : Result OpbContent OpbRefusal) × OpbComesTo text outcome → RepliesToOpb text conflicts log (Err stop) → ((refusal : OpbRefusal) → OpbComesTo text (Err refusal) → log ≡ empty_log)
    → TellsShown (ThenShows (IsOpbTextReadAs text) (is_opb_task conflicts)) log (Err (opb_stop stop))
opb-stopped text conflicts log (OpbStop.Refused refusal) some h unlogged =
    (refusal-of-text refusal, opb_refusal refusal ∷ [], inr (opb_refusal refusal, (refusal, h, refl), refl), contains-first (opb_refusal refusal) [])
opb-stopped text conflicts log OpbStop.Memory some h unlogged = logged-for text conflicts log some.0 some.1 unlogged

-- ---- how it ends

shown-spent : (content : OpbContent) (vars : List ℕ) (conflicts : ℕ) (log : LogState) (found : OpbFound) (status : Status) → status ≡ opb_status found → ShowsOpb content vars conflicts log found
    → (status ≡ Status.Answered) ⊎ ((status ≡ Status.Unknown) × IsSpent conflicts log.events)
unfolding says_spent ShowsOpb
shown-spent content vars conflicts log (solution values) status e h = inl e
shown-spent content vars conflicts log (optimum values) status e h = inl e
shown-spent content vars conflicts log no_solution status e h = inl e
shown-spent content vars conflicts log (unknown best) status e h = inr (e, (h.0, h.1))

-- the log of an answer is sound, and shows where the conflicts were spent
pub opb-ends : (text : List ℕ) (conflicts : ℕ) (log : LogState) (reply : OpbReply) (status : Status) → RepliesToOpb text conflicts log (Ok reply) → status ≡ spent_status reply.spent → IsSearched conflicts status log
opb-ends text conflicts log reply status h ended =
    let own = h.2 in searched conflicts status log own.logged.sound (shown-spent h.0 own.logged.vars conflicts log own.found status (ended ∙ ap spent_status own.spent) own.logged.shows)

pub opb-stop-ends : (text : List ℕ) (conflicts : ℕ) (log : LogState) (stop : OpbStop) → RepliesToOpb text conflicts log (Err stop) → ((refusal : OpbRefusal) → OpbComesTo text (Err refusal) → log ≡ empty_log) → IsSound log.events
    → EndsBy (IsSound log.events) (λ status. IsSearched conflicts status log) log (Err (opb_stop stop))
opb-stop-ends text conflicts log (OpbStop.Refused refusal) h unlogged sound = unlogged refusal h
opb-stop-ends text conflicts log OpbStop.Memory h unlogged sound = sound
