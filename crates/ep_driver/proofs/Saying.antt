-- From what is said to the words to what a run promises.
use Rattle.std.proofs.Common.{◌≡◌, ℕ, ◌⊎◌, List, [], ◌∷◌, Option, Some, None, Ok, Err, Result, IfSome, IsSomeAnd, inl, inr, refl, sym, ap, subst, ◌∙◌}
use Rattle.cnf_core.specs.Events.{LogEvent, LogState}
use Rattle.cnf_core.specs.Steps.{IsValidLog, NonEmptyStepsAreNew}
use Rattle.ep_base.specs.Outside.{Held}
use Rattle.ep_print.specs.Refusals.{refusal_text}
use Rattle.ep_print.specs.declared.refusals.Refusal.{Refusal}
use Rattle.sat_search.specs.Logs.{IsSound}
use Rattle.ep_solve.specs.Right.{empty_log}
use Rattle.ep_driver.specs.Answers.{Settles}
use Rattle.ep_driver.specs.Commands.{AreNoCommand, Want, files_of}
use Rattle.ep_driver.specs.Outcomes.{Task}
use Rattle.ep_outputs.specs.Outputs.{AreWritten, ArePartlyWritten, FailsAt, Output}
use Rattle.ep_driver.specs.Outputs.{written_for}
use Rattle.ep_driver.specs.Puts.{HoldOnWant, IsAnsweredBy, IsFailedRead, IsFailedWrite, read_line, write_line}
use Rattle.ep_driver.specs.Searches.{AskForCubes, HasSoundSteps, LogsSoundly}
use Rattle.ep_driver.specs.Shown.{Ask, ComesTo, Refuse}
use Rattle.ep_files.specs.Status.{status_of}
use Rattle.ep_driver.specs.Steps.{EndsAs, HasAnswer, IsAnswer, IsEnd, IsFailed, IsFaulty, IsLogOf, IsRefused, IsShown, IsSoundRun, IsUnwritten, LogsTask, SaysOfRun, TellsRun, TellsTask, TellsWanted}
use Rattle.ep_files.specs.Reads.{IsOfText}
use Rattle.ep_outputs.specs.Writes.{TellsWritten}
use Rattle.ep_driver.specs.declared.replies.Reply.{Reply}
use Rattle.ep_files.specs.declared.status.Status.{Status}
use Rattle.ep_files.specs.declared.stops.Stop.{Stop}
use Rattle.ep_driver.specs.declared.wanted.Request.{Request}
use Rattle.ep_driver.specs.declared.wanted.Wanted.{Wanted}
use Rattle.ep_driver.proofs.Refusing.{contains-first}

-- ---- the log

-- nothing is said of the log's steps where it is empty
pub nothing-sound : (log : LogState) → log ≡ empty_log → IsSound log.events
nothing-sound log e =
    let P : LogState → Type 0 = λ l. IsSound l.events in
    subst P (sym e) (record { valid = tt; new = tt; effective = tt })

-- nor of those of what is requested
pub nothing-steps : (q : Request) (log : LogState) → log ≡ empty_log → HasSoundSteps q log.events
nothing-steps (Request.One conflicts) log e = nothing-sound log e
nothing-steps (Request.Divided cubes conflicts) log e = let s = nothing-sound log e in (s.valid, s.new)
nothing-steps (Request.Many most conflicts) log e = nothing-sound log e
nothing-steps (Request.Explained conflicts) log e = nothing-sound log e
nothing-steps (Request.Generated number conflicts) log e = nothing-sound log e

pub nothing-soundly : (wanted : Wanted) (log : LogState) → log ≡ empty_log → LogsSoundly wanted log.events
nothing-soundly (Wanted.Search _ _ _ q _) log e = nothing-steps q log e
nothing-soundly (Wanted.Opb _ _) log e = nothing-sound log e
nothing-soundly (Wanted.Verify _ _ _ _) log e = nothing-sound log e
nothing-soundly (Wanted.Check _ _ _) log e = nothing-sound log e
nothing-soundly (Wanted.Generate _ _ _ _) log e = nothing-sound log e

-- what is logged soundly for what words want is so for the words
pub sound-run : (words : List (List ℕ)) (wanted : Wanted) (log : LogState) → Want words wanted → LogsSoundly wanted log.events → IsSoundRun words log.events
sound-run words (Wanted.Search m p u (Request.One n) o) log want h = inl h
sound-run words (Wanted.Search m p u (Request.Divided k n) o) log want h = inr ((Wanted.Search m p u (Request.Divided k n) o, want, tt), h.0, h.1)
sound-run words (Wanted.Search m p u (Request.Many most n) o) log want h = inl h
sound-run words (Wanted.Search m p u (Request.Explained n) o) log want h = inl h
sound-run words (Wanted.Search m p u (Request.Generated number n) o) log want h = inl h
sound-run words (Wanted.Opb _ _) log want h = inl h
sound-run words (Wanted.Verify _ _ _ _) log want h = inl h
sound-run words (Wanted.Check _ _ _) log want h = inl h
sound-run words (Wanted.Generate _ _ _ _) log want h = inl h

pub run-valid : (words : List (List ℕ)) (events : List LogEvent) → IsSoundRun words events → IsValidLog events
run-valid words events h = elim h [ inl sound ↦ sound.valid | inr cubes ↦ cubes.1 ]

pub run-new : (words : List (List ℕ)) (events : List LogEvent) → IsSoundRun words events → NonEmptyStepsAreNew events
run-new words events h = elim h [ inl sound ↦ sound.new | inr cubes ↦ cubes.2 ]

-- where the words don't ask for cubes, the steps are sound
pub run-effective : (words : List (List ℕ)) (events : List LogEvent) → IsSoundRun words events → (AskForCubes words → ⊥) → IsSound events
run-effective words events h none = elim h [ inl sound ↦ sound | inr cubes ↦ absurd (none cubes.0) ]

pub end-sound : (wanted : Wanted) (status : Status) (log : LogState) → IsEnd wanted status log → LogsSoundly wanted log.events
end-sound (Wanted.Search _ _ _ _ _) status log h = h.0
end-sound (Wanted.Opb _ _) status log h = h.0
end-sound (Wanted.Verify _ _ _ _) status log h = nothing-sound log h.0
end-sound (Wanted.Check _ _ _) status log h = nothing-sound log h.0
end-sound (Wanted.Generate _ _ _ _) status log h = h.0

pub end-logs : (wanted : Wanted) (status : Status) (log : LogState) → IsEnd wanted status log → IsLogOf wanted log
end-logs (Wanted.Search _ _ _ _ _) status log h = tt
end-logs (Wanted.Opb _ _) status log h = tt
end-logs (Wanted.Verify _ _ _ _) status log h = h.0
end-logs (Wanted.Check _ _ _) status log h = h.0
end-logs (Wanted.Generate _ _ _ _) status log h = tt

pub nothing-logs : (wanted : Wanted) (log : LogState) → log ≡ empty_log → IsLogOf wanted log
nothing-logs (Wanted.Search _ _ _ _ _) log e = tt
nothing-logs (Wanted.Opb _ _) log e = tt
nothing-logs (Wanted.Verify _ _ _ _) log e = e
nothing-logs (Wanted.Check _ _ _) log e = e
nothing-logs (Wanted.Generate _ _ _ _) log e = tt

-- ---- from what is wanted to the words

-- the words are no command, or memory is wanting
pub unread-words : (words : List (List ℕ)) (told : Option Held) (rose : Type 0) (log : LogState) (stop : Stop) → log ≡ empty_log → TellsWanted words (Err stop) → TellsRun words told told rose log (Err stop)
unread-words words told rose log (Stop.Refused r) nothing h = inl (h.0, nothing, refl, h.1)
unread-words words told rose log Stop.Memory nothing h = (inl (nothing-sound log nothing), inl refl, inl nothing)

-- what is wanted is refused, or memory is wanting
pub refused-run : (words : List (List ℕ)) (wanted : Wanted) (told after : Option Held) (rose : Type 0) (log : LogState) (stop : Stop) → Want words wanted → after ≡ told → EndsAs wanted log (Err stop)
    → TellsTask (files_of wanted) (ComesTo wanted) told rose log (Err stop) → TellsRun words told after rose log (Err stop)
refused-run words wanted told after rose log (Stop.Refused r) want kept ends h = inr (wanted, want, inl (ends.1, kept, h))
refused-run words wanted told after rose log Stop.Memory want kept ends h =
    (sound-run words wanted log want ends.1, inl kept, elim h [ inl nothing ↦ inl nothing | inr asked ↦ inr (wanted, want, ends.0, asked) ])

asked-of : (wanted : Wanted) (told : Option Held) (status : Status) (text : List ℕ) (log : LogState) → IsAnswer (ComesTo wanted) told status text log → IfSome told (λ held. (task : Task) × ComesTo wanted held (Ok task))
asked-of wanted None status text log h = tt
asked-of wanted (Some held) status text log h = (h.0, h.1)

-- what answers is known with its status
has-answer : (wanted : Wanted) (told : Option Held) (status : Status) (text : List ℕ) (log : LogState) → IsAnswer (ComesTo wanted) told status text log → HasAnswer wanted told text log
has-answer wanted None status text log h = tt
has-answer wanted (Some held) status text log h = (h.0, status, h.1, h.2)

-- the answer is there, and a file can't be written, or memory is wanting for one
pub unwritten-run : (V : Type 0) (words : List (List ℕ)) (wanted : Wanted) (outputs : List Output) (told between after : Option Held) (rose rose-now : Type 0) (status : Status) (text : List ℕ) (log : LogState) (stop : Stop) → Want words wanted
    → outputs ≡ written_for wanted → between ≡ told → (rose-now → rose) → IsEnd wanted status log → IsAnswer (ComesTo wanted) told status text log
    → TellsWritten {V = V} log text outputs between after rose-now (Err stop) → TellsRun words told after rose log (Err stop)
unwritten-run V words wanted outputs told between after rose rose-now status text log (Stop.Refused r) want named kept rises ends shown h =
    let F : List Output → Type 0 = λ o. FailsAt log text o between after h.1 in
    let fails : FailsAt log text (written_for wanted) between after h.1 = subst F named h.3 in
    inr (
      wanted,
      want,
      inr (
        rises h.0,
        h.1,
        text,
        h.2,
        subst (λ (t : Option Held). FailsAt log text (written_for wanted) t after h.1) kept fails,
        end-sound wanted status log ends,
        end-logs wanted status log ends,
        has-answer wanted told status text log shown,
      ),
    )
unwritten-run V words wanted outputs told between after rose rose-now status text log Stop.Memory want named kept rises ends shown h =
    let F : List Output → Type 0 = λ o. ArePartlyWritten log text o between after in
    let partly : ArePartlyWritten log text (written_for wanted) between after = subst F named h in (
      sound-run words wanted log want (end-sound wanted status log ends),
      inr (wanted, want, (text, subst (λ (t : Option Held). ArePartlyWritten log text (written_for wanted) t after) kept partly, has-answer wanted told status text log shown)),
      inr (wanted, want, end-logs wanted status log ends, asked-of wanted told status text log shown),
    )

-- the answer is there, and its files are written
pub answered-run : (V : Type 0) (words : List (List ℕ)) (wanted : Wanted) (outputs : List Output) (told between after : Option Held) (rose rose-now : Type 0) (log : LogState) (reply : Reply) (x : V) → Want words wanted
    → outputs ≡ written_for wanted → between ≡ told → IsEnd wanted reply.status log → IsAnswer (ComesTo wanted) told reply.status reply.text.items log
    → TellsWritten {V = V} log reply.text.items outputs between after rose-now (Ok x) → TellsRun words told after rose log (Ok reply)
answered-run V words wanted outputs told between after rose rose-now log reply x want named kept ends shown h =
    let text : List ℕ = reply.text.items in
    let W : List Output → Type 0 = λ o. AreWritten log text o between after in
    let written : AreWritten log text (written_for wanted) between after = subst W named h in
    (wanted, want, (ends, shown, subst (λ (t : Option Held). AreWritten log text (written_for wanted) t after) kept written))

refused-sound : (words : List (List ℕ)) (wanted : Wanted) (told after : Option Held) (rose : Type 0) (log : LogState) (r : Refusal) → Want words wanted → IsRefused wanted told after rose log r → IsSoundRun words log.events
refused-sound words wanted told after rose log r want h = elim h [ inl shown ↦ inl (nothing-sound log shown.0) | inr unwritten ↦ sound-run words wanted log want unwritten.5 ]

-- whatever a run tells, each step of its log is sound
pub run-sound : (words : List (List ℕ)) (told after : Option Held) (rose : Type 0) (log : LogState) (result : Result Reply Stop) → TellsRun words told after rose log result → IsSoundRun words log.events
run-sound words told after rose log (Ok reply) h = sound-run words h.0 log h.1 (end-sound h.0 reply.status log h.2.0)
run-sound words told after rose log (Err (Stop.Refused r)) h = elim h [ inl none ↦ inl (nothing-sound log none.1) | inr some ↦ refused-sound words some.0 told after rose log r some.1 some.2 ]
run-sound words told after rose log (Err Stop.Memory) h = h.0

pub said-answer : (words : List (List ℕ)) (told after : Option Held) (rose : Type 0) (log : LogState) (reply : Reply) → TellsRun words told after rose log (Ok reply) → SaysOfRun words told after rose reply.status reply.text.items log
said-answer words told after rose log reply h = inr (h.0, h.1, inl h.2)

pub said-refusal : (words : List (List ℕ)) (told after : Option Held) (rose : Type 0) (log : LogState) (r : Refusal) (status : Status) (text : List ℕ) → status ≡ status_of r → text ≡ refusal_text r → TellsRun words told after rose log (Err (Stop.Refused r)) → SaysOfRun words told after rose status text log
unfolding status_of
said-refusal words told after rose log r status text s t h =
    elim h [
      | inl none ↦ inl (s ∙ ap status_of none.0, t ∙ ap refusal_text none.0, none.1, none.2, none.3)
      | inr some ↦ inr (some.0, some.1, inr (r, s, t, some.2))
    ]

-- ---- what a text of a run is

answer-shown : (words : List (List ℕ)) (wanted : Wanted) (told : Option Held) (status : Status) (text : List ℕ) (log : LogState) → Want words wanted → IsAnswer (ComesTo wanted) told status text log → IfSome told (λ held. (task : Task) × Ask words held task × Settles task status text log)
answer-shown words wanted None status text log want h = tt
answer-shown words wanted (Some held) status text log want h = (h.0, inr (wanted, want, h.1), h.2)

faulty-shown : (words : List (List ℕ)) (wanted : Wanted) (told : Option Held) (r : Refusal) → Want words wanted → IsFaulty (ComesTo wanted) told r → IfSome told (λ held. Refuse words held r)
faulty-shown words wanted None r want h = tt
faulty-shown words wanted (Some held) r want h = (h.1.0, inr (wanted, want, h.1.1), h.1.2)

-- a read that failed
pub failed-read : (words : List (List ℕ)) (wanted : Wanted) (told : Option Held) (rose : Type 0) (r : Refusal) → Want words wanted → (h : IsFailed (files_of wanted) (ComesTo wanted) told rose r) → IsFailedRead words told h.0
failed-read words wanted None rose r want h = ((wanted, want, h.1), tt)
failed-read words wanted (Some held) rose r want h =
    ((wanted, want, h.1), (Refusal.CannotRead h.0 ∷ [], inr (wanted, want, h.3), contains-first (Refusal.CannotRead h.0) []))

-- the file isn't held, where no fault was counted
not-held-shown : (words : List (List ℕ)) (wanted : Wanted) (told : Option Held) (rose : Type 0) (r : Refusal) → Want words wanted → IsFailed (files_of wanted) (ComesTo wanted) told rose r → rose ⊎ IsSomeAnd told (λ held. Refuse words held r)
not-held-shown words wanted None rose r want h = elim h.4 [ inl up ↦ inl up | inr none ↦ absurd none ]
not-held-shown words wanted (Some held) rose r want h =
    let P : Refusal → Type 0 = λ x. Refuse words held x in
    elim h.4 [
      | inl up ↦ inl up
      | inr shown ↦ inr (subst P (sym h.2) (Refusal.CannotRead h.0 ∷ [], inr (wanted, want, shown), contains-first (Refusal.CannotRead h.0) []))
    ]

-- a task comes out
asked-shown : (words : List (List ℕ)) (wanted : Wanted) (told : Option Held) → Want words wanted → IfSome told (λ held. (task : Task) × ComesTo wanted held (Ok task)) → IfSome told (λ held. (task : Task) × Ask words held task)
asked-shown words wanted None want h = tt
asked-shown words wanted (Some held) want h = (h.0, inr (wanted, want, h.1))

answered-by : (words : List (List ℕ)) (wanted : Wanted) (told : Option Held) (text : List ℕ) (log : LogState) → Want words wanted → HasAnswer wanted told text log → IsAnsweredBy words told text log
answered-by words wanted None text log want h = tt
answered-by words wanted (Some held) text log want h = (h.0, h.1, inr (wanted, want, h.2), h.3)

asked-by : (wanted : Wanted) (told : Option Held) (text : List ℕ) (log : LogState) → HasAnswer wanted told text log → IfSome told (λ held. (task : Task) × ComesTo wanted held (Ok task))
asked-by wanted None text log h = tt
asked-by wanted (Some held) text log h = (h.0, h.2)

-- a write that failed
failed-write : (words : List (List ℕ)) (wanted : Wanted) (told after : Option Held) (rose : Type 0) (log : LogState) (r : Refusal) → Want words wanted → (h : IsUnwritten wanted told after rose log r) → IsFailedWrite words told after rose log h.1
failed-write words wanted told after rose log r want h = (h.0, wanted, want, h.2, h.4, answered-by words wanted told h.2 log want h.7)

-- what the files hold where memory is wanting for the line of a refusal
pub holds-refused : (words : List (List ℕ)) (told after : Option Held) (rose : Type 0) (log : LogState) (r : Refusal) → TellsRun words told after rose log (Err (Stop.Refused r)) → HoldOnWant words told after rose log
holds-refused words told after rose log r h =
    elim h [
      | inl none ↦ inl none.2
      | inr some ↦ elim some.2 [
        | inl shown ↦ inl shown.1
        | inr unwritten ↦ inr (inr (unwritten.1, failed-write words some.0 told after rose log r some.1 unwritten))
      ]
    ]

-- what they hold where it is wanting before
pub holds-wanting : (words : List (List ℕ)) (told after : Option Held) (rose : Type 0) (log : LogState) → TellsRun words told after rose log (Err Stop.Memory) → HoldOnWant words told after rose log
holds-wanting words told after rose log h =
    elim h.1 [
      | inl kept ↦ inl kept
      | inr partly ↦ inr (inl (partly.0, partly.1, partly.2.0, partly.2.1, answered-by words partly.0 told partly.2.0 log partly.1 partly.2.2))
    ]

-- where memory is wanting, something is logged for a task alone
pub wanting-asked : (words : List (List ℕ)) (told after : Option Held) (rose : Type 0) (log : LogState) → TellsRun words told after rose log (Err Stop.Memory) → LogsTask words told log
wanting-asked words told after rose log h =
    elim h.2 [ inl nothing ↦ inl nothing | inr asked ↦ inr (asked.0, asked.1, asked.2, asked-shown words asked.0 told asked.1 asked.3) ]

-- where it is wanting for the line of a refusal too
pub refused-asked : (words : List (List ℕ)) (told after : Option Held) (rose : Type 0) (log : LogState) (r : Refusal) → TellsRun words told after rose log (Err (Stop.Refused r)) → LogsTask words told log
refused-asked words told after rose log r h =
    elim h [
      | inl none ↦ inl none.1
      | inr some ↦ elim some.2 [
        | inl shown ↦ inl shown.0
        | inr unwritten ↦ inr (some.0, some.1, unwritten.6, asked-shown words some.0 told some.1 (asked-by some.0 told unwritten.2 log unwritten.7))
      ]
    ]

no-command-shown : (words : List (List ℕ)) (held : Held) → AreNoCommand words → Refuse words held Refusal.Usage
no-command-shown words held none = (Refusal.Usage ∷ [], inl (none, refl), contains-first Refusal.Usage [])

-- ---- cases of what is said

-- What is said: that the words are no command; an answer; a fault or a limit; that a file can't be read; or that a file can't be
-- written. Nothing is logged but with an answer, and no file is changed but those that are named for output.
pub data Case (words : List (List ℕ)) (told after : Option Held) (rose : Type 0) (status : Status) (text : List ℕ) (log : LogState) : Type 0 where
  no_command : status ≡ Status.Usage → text ≡ refusal_text Refusal.Usage → log ≡ empty_log → after ≡ told → AreNoCommand words → Case words told after rose status text log
  answer : (wanted : Wanted) → Want words wanted → IsEnd wanted status log → IfSome told (λ held. (task : Task) × Ask words held task × Settles task status text log) → AreWritten log text (written_for wanted) told after → Case words told after rose status text log
  faulty : (wanted : Wanted) → Want words wanted → (r : Refusal) → status ≡ status_of r → text ≡ refusal_text r → log ≡ empty_log → after ≡ told → IsOfText r → IfSome told (λ held. Refuse words held r) → Case words told after rose status text log
  unread : (name : List ℕ) → status ≡ Status.Device → text ≡ read_line name → log ≡ empty_log → after ≡ told → IsFailedRead words told name → rose ⊎ IsSomeAnd told (λ held. Refuse words held (Refusal.CannotRead name)) → Case words told after rose status text log
  unwritten : (name : List ℕ) → status ≡ Status.Device → text ≡ write_line name → IsSoundRun words log.events → (wanted : Wanted) → Want words wanted → IsLogOf wanted log → IsFailedWrite words told after rose log name → Case words told after rose status text log

shown-case : (words : List (List ℕ)) (wanted : Wanted) (told after : Option Held) (rose : Type 0) (r : Refusal) (status : Status) (text : List ℕ) (log : LogState) → Want words wanted → status ≡ status_of r → text ≡ refusal_text r
    → IsShown wanted told after rose log r → Case words told after rose status text log
unfolding status_of
shown-case words wanted told after rose r status text log want s t h =
    elim h.2 [
      | inl failed ↦
          let P : Refusal → Type 0 = λ x. rose ⊎ IsSomeAnd told (λ held. Refuse words held x) in
          unread failed.0
          (s ∙ ap status_of failed.2)
          (t ∙ ap refusal_text failed.2)
          h.0
          h.1
          (failed-read words wanted told rose r want failed)
          (subst P failed.2 (not-held-shown words wanted told rose r want failed))
      | inr fault ↦ faulty wanted want r s t h.0 h.1 fault.0 (faulty-shown words wanted told r want fault)
    ]

unwritten-case : (words : List (List ℕ)) (wanted : Wanted) (told after : Option Held) (rose : Type 0) (r : Refusal) (status : Status) (text : List ℕ) (log : LogState) → Want words wanted → status ≡ status_of r → text ≡ refusal_text r
    → IsUnwritten wanted told after rose log r → Case words told after rose status text log
unfolding status_of
unwritten-case words wanted told after rose r status text log want s t h =
    unwritten h.1 (s ∙ ap status_of h.3) (t ∙ ap refusal_text h.3) (sound-run words wanted log want h.5) wanted want h.6 (failed-write words wanted told after rose log r want h)

pub case-of : (words : List (List ℕ)) (told after : Option Held) (rose : Type 0) (status : Status) (text : List ℕ) (log : LogState) → SaysOfRun words told after rose status text log → Case words told after rose status text log
case-of words told after rose status text log h =
    elim h [
      | inl none ↦ no_command none.0 none.1 none.2 none.3 none.4
      | inr some ↦ elim some.2 [
        | inl said ↦ answer some.0 some.1 said.0 (answer-shown words some.0 told status text log some.1 said.1) said.2
        | inr refused ↦ elim refused.3 [
          | inl shown ↦ shown-case words some.0 told after rose refused.0 status text log some.1 refused.1 refused.2 shown
          | inr failed ↦ unwritten-case words some.0 told after rose refused.0 status text log some.1 refused.1 refused.2 failed
        ]
      ]
    ]
