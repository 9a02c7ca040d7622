-- What a run promises, by the cases of what is said.
use Rattle.std.proofs.Common.{◌≡◌, ◌≢◌, ℕ, ◌⊎◌, List, [], ◌∷◌, length, take, Option, Some, None, Ok, Err, Result, IfOk, Bool, true, false, bytes_eq, if◌then◌else◌, IfSome, IsSomeAnd, inl, inr, refl, sym, ap, subst, ◌∙◌, arith}
use Rattle.std.proofs.lemmas.List.{take_all}
use Rattle.cnf_core.specs.Events.{LogState}
use Rattle.ep_solve.specs.Right.{IsSpent, empty_log}
use Rattle.ep_base.specs.Outside.{Held, TookPart, with_more}
use Rattle.sat_search.specs.Logs.{IsSound}
use Rattle.ep_print.specs.Refusals.{refusal_text}
use Rattle.ep_print.specs.declared.refusals.Refusal.{Refusal}
use Rattle.ep_driver.specs.Answers.{Settles}
use Rattle.ep_driver.specs.Commands.{AreNoCommand, IsJudgement, Want, conflicts_wanted}
use Rattle.ep_driver.specs.Outcomes.{Task}
use Rattle.ep_driver.specs.Outputs.{HasOutput, IsOutput, SameButOutput, written_for}
use Rattle.ep_driver.specs.Puts.{HoldOnWant, IsDeviceLine, IsFailedRead, IsFailedWrite, IsShownText, MayBePut, TookFirst, read_line}
use Rattle.ep_driver.specs.Searches.{IsSearchFor}
use Rattle.ep_driver.specs.Shown.{Ask, Refuse, Refuses}
use Rattle.ep_files.specs.Status.{HasReply, status_of}
use Rattle.ep_base.specs.declared.errors.Memory.{Memory}
use Rattle.ep_driver.specs.Steps.{AnswersWords, IsEnd}
use Rattle.ep_files.specs.Reads.{IsOfText}
use Rattle.ep_driver.specs.declared.replies.Reply.{Reply}
use Rattle.ep_files.specs.declared.status.Status.{Status}
use Rattle.ep_driver.specs.declared.wanted.Wanted.{Wanted}
use Rattle.ep_driver.proofs.Refusing.{contains-first}
use Rattle.ep_driver.proofs.Written.{failed-same, nothing-written, outputs-named, partly-same, same-self, written-same}
use Rattle.ep_driver.proofs.Saying.{Case, answer, faulty, no_command, unread, unwritten}

-- ---- kinds of ends, so that different ones are told apart

abbrev kind : Status → ℕ
kind Status.Answered = 0
kind Status.Refuted = 0
kind Status.Usage = 1
kind Status.Text = 2
kind Status.Limit = 2
kind Status.Device = 3
kind Status.Memory = 4
kind Status.Unknown = 0

kind-ended : (s : Status) → HasReply s → kind s ≡ 0
kind-ended s h = elim h [ inl e ↦ ap kind e | inr rest ↦ elim rest [ inl e ↦ ap kind e | inr e ↦ ap kind e ] ]

kind-end : (wanted : Wanted) (s : Status) (log : LogState) → IsEnd wanted s log → kind s ≡ 0
kind-end (Wanted.Search _ _ _ _ _) s log h = elim h.1 [ inl e ↦ ap kind e | inr e ↦ ap kind e.0 ]
kind-end (Wanted.Opb _ _) s log h = elim h.1 [ inl e ↦ ap kind e | inr e ↦ ap kind e.0 ]
kind-end (Wanted.Verify _ _ _ _) s log h = elim h.1 [ inl e ↦ ap kind e | inr e ↦ ap kind e ]
kind-end (Wanted.Check _ _ _) s log h = elim h.1 [ inl e ↦ ap kind e | inr e ↦ ap kind e ]
kind-end (Wanted.Generate _ _ _ _) s log h = elim h.1 [ inl e ↦ ap kind e | inr e ↦ ap kind e.0 ]

kind-text : (r : Refusal) (s : Status) → s ≡ status_of r → IsOfText r → kind s ≡ 2
kind-text r s e h = elim h [ inl f ↦ ap kind (e ∙ f) | inr f ↦ ap kind (e ∙ f) ]

apart : {B : Type 0} (s : Status) (m n : ℕ) → kind s ≡ m → kind s ≡ n → (m ≡ n → ⊥) → B
apart s m n a b differ = absurd (differ (sym a ∙ b))

-- a refused status is none of an end, nor of a device
abbrev pub IsRefused : Status → Type 0
IsRefused s = (s ≡ Status.Usage) ⊎ (s ≡ Status.Text) ⊎ (s ≡ Status.Limit)

refused-not : {B : Type 0} (s : Status) (n : ℕ) → IsRefused s → kind s ≡ n → (n ≡ 1 → ⊥) → (n ≡ 2 → ⊥) → B
refused-not s n h k one two =
    elim h [
      | inl e ↦ absurd (one (sym k ∙ ap kind e))
      | inr rest ↦ elim rest [ inl e ↦ absurd (two (sym k ∙ ap kind e)) | inr e ↦ absurd (two (sym k ∙ ap kind e)) ]
    ]

pub ended-status : (wanted : Wanted) (s : Status) (log : LogState) → IsEnd wanted s log → HasReply s
ended-status (Wanted.Search _ _ _ _ _) s log h = elim h.1 [ inl e ↦ inl e | inr e ↦ inr (inl e.0) ]
ended-status (Wanted.Opb _ _) s log h = elim h.1 [ inl e ↦ inl e | inr e ↦ inr (inl e.0) ]
ended-status (Wanted.Verify _ _ _ _) s log h = elim h.1 [ inl e ↦ inl e | inr e ↦ inr (inr e) ]
ended-status (Wanted.Check _ _ _) s log h = elim h.1 [ inl e ↦ inl e | inr e ↦ inr (inr e) ]
ended-status (Wanted.Generate _ _ _ _) s log h = elim h.1 [ inl e ↦ inl e | inr e ↦ inr (inl e.0) ]

refusal-kind : (r : Refusal) → kind (status_of r) ≡ 0 → ⊥
unfolding status_of
refusal-kind Refusal.Usage e = cc
refusal-kind (Refusal.BadByte _ _) e = cc
refusal-kind (Refusal.Syntax _ _) e = cc
refusal-kind (Refusal.UnknownName _ _ _) e = cc
refusal-kind (Refusal.Redeclared _ _ _) e = cc
refusal-kind (Refusal.IllTyped _ _) e = cc
refusal-kind (Refusal.WrongCategory _ _) e = cc
refusal-kind (Refusal.OpenDomain _ _) e = cc
refusal-kind (Refusal.Missing _) e = cc
refusal-kind (Refusal.Outside _) e = cc
refusal-kind (Refusal.Undefined _ _) e = cc
refusal-kind (Refusal.WhereFalse _) e = cc
refusal-kind (Refusal.BadCnf _) e = cc
refusal-kind (Refusal.BadLog _) e = cc
refusal-kind (Refusal.BadOpb _) e = cc
refusal-kind (Refusal.TooLong _) e = cc
refusal-kind (Refusal.LongNumber _ _) e = cc
refusal-kind (Refusal.TooHigh _ _) e = cc
refusal-kind (Refusal.Over _) e = cc
refusal-kind (Refusal.CannotRead _) e = cc
refusal-kind (Refusal.CannotWrite _) e = cc
refusal-kind Refusal.Memory e = cc

-- the status of a refusal is none of a reply
pub refused-unanswered : (words : List (List ℕ)) (r : Refusal) (result : Result Reply Memory) (log : LogState) → IfOk result (λ reply. reply.status ≡ status_of r)
    → IfOk result (λ reply. HasReply reply.status → AnswersWords words reply.status reply.text.items log)
refused-unanswered words r (Ok reply) log is = λ has. absurd (refusal-kind r (ap kind (sym is) ∙ kind-ended reply.status has))
refused-unanswered words r (Err e) log is = tt

-- ---- the clauses

with-taken : (words : List (List ℕ)) (told : Option Held) (status : Status) (text : List ℕ) (log : LogState) (Took Put : List ℕ → Type 0) → Took text → Put text → IfSome told (λ held. (task : Task) × Ask words held task × Settles task status text log) → IfSome told (λ held. (task : Task) × (t : List ℕ) × Ask words held task × Settles task status t log × Took t × Put t)
with-taken words None status text log Took Put took put h = tt
with-taken words (Some held) status text log Took Put took put h = (h.0, text, h.1, h.2, took, put)

line-taken : (words : List (List ℕ)) (told : Option Held) (r : Refusal) (status : Status) (text : List ℕ) (Took : List ℕ → Type 0) → status ≡ status_of r → text ≡ refusal_text r → Took text → IfSome told (λ held. Refuse words held r) → IfSome told (λ held. (line : List ℕ) × Refuses words held status line × Took line)
line-taken words None r status text Took s t took h = tt
line-taken words (Some held) r status text Took s t took h = (text, (r, h, s, t), took)

pub usage-told : (words : List (List ℕ)) (told : Option Held) → AreNoCommand words → IfSome told (λ held. Refuse words held Refusal.Usage)
usage-told words None none = tt
usage-told words (Some held) none = (Refusal.Usage ∷ [], inl (none, refl), contains-first Refusal.Usage [])

pub when-answered : (words : List (List ℕ)) (told after : Option Held) (rose : Type 0) (status : Status) (text : List ℕ) (log : LogState) (Took : List ℕ → Type 0) → Case words told after rose status text log → Took text → HasReply status
    → IfSome told (λ held. (task : Task) × (t : List ℕ) × Ask words held task × Settles task status t log × Took t × HasOutput words t log told after)
when-answered words told after rose status text log Took (no_command s t nothing kept none) took h = apart status 0 1 (kind-ended status h) (ap kind s) (λ e. cc)
when-answered words told after rose status text log Took (answer wanted want ends shown put) took h = with-taken words told status text log Took (λ t. HasOutput words t log told after) took (wanted, want, put) shown
when-answered words told after rose status text log Took (faulty wanted want r s t nothing kept of_text shown) took h = apart status 0 2 (kind-ended status h) (kind-text r status s of_text) (λ e. cc)
when-answered words told after rose status text log Took (unread name s t nothing kept failed why) took h = apart status 0 3 (kind-ended status h) (ap kind s) (λ e. cc)
when-answered words told after rose status text log Took (unwritten name s t sound wanted want logs failed) took h = apart status 0 3 (kind-ended status h) (ap kind s) (λ e. cc)

-- the files that are named for output are written where a run ends with a reply
pub when-written : (words : List (List ℕ)) (told after : Option Held) (rose : Type 0) (status : Status) (text : List ℕ) (log : LogState) → Case words told after rose status text log → HasReply status → HasOutput words text log told after
when-written words told after rose status text log (no_command s t nothing kept none) h = apart status 0 1 (kind-ended status h) (ap kind s) (λ e. cc)
when-written words told after rose status text log (answer wanted want ends shown put) h = (wanted, want, put)
when-written words told after rose status text log (faulty wanted want r s t nothing kept of_text shown) h = apart status 0 2 (kind-ended status h) (kind-text r status s of_text) (λ e. cc)
when-written words told after rose status text log (unread name s t nothing kept failed why) h = apart status 0 3 (kind-ended status h) (ap kind s) (λ e. cc)
when-written words told after rose status text log (unwritten name s t sound wanted want logs failed) h = apart status 0 3 (kind-ended status h) (ap kind s) (λ e. cc)

-- that something is judged
abbrev pub Judges : List (List ℕ) → Type 0
Judges words = (wanted : Wanted) × Want words wanted × IsJudgement wanted

wants-judgement : (words : List (List ℕ)) (wanted : Wanted) (status : Status) (log : LogState) → Want words wanted → IsEnd wanted status log → status ≡ Status.Refuted → Judges words × (log ≡ empty_log) × (written_for wanted ≡ [])
unfolding written_for
wants-judgement words (Wanted.Search model params mode request outputs) status log want ends e = elim ends.1 [ inl f ↦ let g = sym f ∙ e in absurd cc | inr f ↦ let g = sym f.0 ∙ e in absurd cc ]
wants-judgement words (Wanted.Opb opb conflicts) status log want ends e = elim ends.1 [ inl f ↦ let g = sym f ∙ e in absurd cc | inr f ↦ let g = sym f.0 ∙ e in absurd cc ]
wants-judgement words (Wanted.Verify model params mode solution) status log want ends e = ((Wanted.Verify model params mode solution, want, tt), ends.0, refl)
wants-judgement words (Wanted.Check formula proof workers) status log want ends e = ((Wanted.Check formula proof workers, want, tt), ends.0, refl)
wants-judgement words (Wanted.Generate number conflicts eprime param) status log want ends e = elim ends.1 [ inl f ↦ let g = sym f ∙ e in absurd cc | inr f ↦ let g = sym f.0 ∙ e in absurd cc ]

pub when-refuted : (words : List (List ℕ)) (told after : Option Held) (rose : Type 0) (status : Status) (text : List ℕ) (log : LogState) → Case words told after rose status text log → status ≡ Status.Refuted → Judges words
when-refuted words told after rose status text log (no_command s t nothing kept none) h = apart status 0 1 (ap kind h) (ap kind s) (λ e. cc)
when-refuted words told after rose status text log (answer wanted want ends shown put) h = (wants-judgement words wanted status log want ends h).0
when-refuted words told after rose status text log (faulty wanted want r s t nothing kept of_text shown) h = apart status 0 2 (ap kind h) (kind-text r status s of_text) (λ e. cc)
when-refuted words told after rose status text log (unread name s t nothing kept failed why) h = apart status 0 3 (ap kind h) (ap kind s) (λ e. cc)
when-refuted words told after rose status text log (unwritten name s t sound wanted want logs failed) h = apart status 0 3 (ap kind h) (ap kind s) (λ e. cc)

pub when-refused : (words : List (List ℕ)) (told after : Option Held) (rose : Type 0) (status : Status) (text : List ℕ) (log : LogState) (Took : List ℕ → Type 0) → Case words told after rose status text log → Took text → IsRefused status → IfSome told (λ held. (line : List ℕ) × Refuses words held status line × Took line)
unfolding status_of
when-refused words told after rose status text log Took (no_command s t nothing kept none) took h = line-taken words told Refusal.Usage status text Took s t took (usage-told words told none)
when-refused words told after rose status text log Took (answer wanted want ends shown put) took h = refused-not status 0 h (kind-end wanted status log ends) (λ e. cc) (λ e. cc)
when-refused words told after rose status text log Took (faulty wanted want r s t nothing kept of_text shown) took h = line-taken words told r status text Took s t took shown
when-refused words told after rose status text log Took (unread name s t nothing kept failed why) took h = refused-not status 3 h (ap kind s) (λ e. cc) (λ e. cc)
when-refused words told after rose status text log Took (unwritten name s t sound wanted want logs failed) took h = refused-not status 3 h (ap kind s) (λ e. cc) (λ e. cc)

pub when-usage : (words : List (List ℕ)) (told after : Option Held) (rose : Type 0) (status : Status) (text : List ℕ) (log : LogState) → Case words told after rose status text log → status ≡ Status.Usage → AreNoCommand words × (text ≡ refusal_text Refusal.Usage)
when-usage words told after rose status text log (no_command s t nothing kept none) h = (none, t)
when-usage words told after rose status text log (answer wanted want ends shown put) h = apart status 1 0 (ap kind h) (kind-end wanted status log ends) (λ e. cc)
when-usage words told after rose status text log (faulty wanted want r s t nothing kept of_text shown) h = apart status 1 2 (ap kind h) (kind-text r status s of_text) (λ e. cc)
when-usage words told after rose status text log (unread name s t nothing kept failed why) h = apart status 1 3 (ap kind h) (ap kind s) (λ e. cc)
when-usage words told after rose status text log (unwritten name s t sound wanted want logs failed) h = apart status 1 3 (ap kind h) (ap kind s) (λ e. cc)

missing-line : (words : List (List ℕ)) (told : Option Held) (name : List ℕ) → IsSomeAnd told (λ held. Refuse words held (Refusal.CannotRead name)) → IsSomeAnd told (λ held. (line : List ℕ) × Refuses words held Status.Device line)
unfolding status_of
missing-line words None name h = absurd h
missing-line words (Some held) name h = (read_line name, (Refusal.CannotRead name, h, refl, refl))

-- why a run ended for a device, when its text was put out
pub why-device : (words : List (List ℕ)) (told after : Option Held) (rose other : Type 0) (status : Status) (text : List ℕ) (log : LogState) → Case words told after rose status text log → status ≡ Status.Device → rose ⊎ other ⊎ IsSomeAnd told (λ held. (line : List ℕ) × Refuses words held Status.Device line)
why-device words told after rose other status text log (no_command s t nothing kept none) h = apart status 3 1 (ap kind h) (ap kind s) (λ e. cc)
why-device words told after rose other status text log (answer wanted want ends shown put) h = apart status 3 0 (ap kind h) (kind-end wanted status log ends) (λ e. cc)
why-device words told after rose other status text log (faulty wanted want r s t nothing kept of_text shown) h = apart status 3 2 (ap kind h) (kind-text r status s of_text) (λ e. cc)
why-device words told after rose other status text log (unread name s t nothing kept failed why) h =
    elim why [ inl up ↦ inl up | inr missing ↦ inr (inr (missing-line words told name missing)) ]
why-device words told after rose other status text log (unwritten name s t sound wanted want logs failed) h = inl failed.0

missing-taken : (words : List (List ℕ)) (told : Option Held) (name text : List ℕ) (Took : List ℕ → Type 0) → text ≡ read_line name → Took text → IsSomeAnd told (λ held. Refuse words held (Refusal.CannotRead name)) → IfSome told (λ held. (line : List ℕ) × Refuses words held Status.Device line × Took line)
unfolding status_of
missing-taken words None name text Took t took h = tt
missing-taken words (Some held) name text Took t took h = (text, (Refusal.CannotRead name, h, refl, t), took)

pub when-not-held : (words : List (List ℕ)) (told after : Option Held) (rose : Type 0) (status : Status) (text : List ℕ) (log : LogState) (Took : List ℕ → Type 0) → Case words told after rose status text log → Took text → status ≡ Status.Device → ¬ rose → IfSome told (λ held. (line : List ℕ) × Refuses words held Status.Device line × Took line)
when-not-held words told after rose status text log Took (no_command s t nothing kept none) took h calm = apart status 3 1 (ap kind h) (ap kind s) (λ e. cc)
when-not-held words told after rose status text log Took (answer wanted want ends shown put) took h calm = apart status 3 0 (ap kind h) (kind-end wanted status log ends) (λ e. cc)
when-not-held words told after rose status text log Took (faulty wanted want r s t nothing kept of_text shown) took h calm = apart status 3 2 (ap kind h) (kind-text r status s of_text) (λ e. cc)
when-not-held words told after rose status text log Took (unread name s t nothing kept failed why) took h calm =
    elim why [ inl up ↦ absurd (calm up) | inr missing ↦ missing-taken words told name text Took t took missing ]
when-not-held words told after rose status text log Took (unwritten name s t sound wanted want logs failed) took h calm = absurd (calm failed.0)

-- the line of a device, when its text was put out
pub when-failed : (words : List (List ℕ)) (told after : Option Held) (rose : Type 0) (status : Status) (text : List ℕ) (log : LogState) (Took : List ℕ → Type 0) → Case words told after rose status text log → Took text → status ≡ Status.Device → (line : List ℕ) × IsDeviceLine words told after rose log line × Took line
when-failed words told after rose status text log Took (no_command s t nothing kept none) took h = apart status 3 1 (ap kind h) (ap kind s) (λ e. cc)
when-failed words told after rose status text log Took (answer wanted want ends shown put) took h = apart status 3 0 (ap kind h) (kind-end wanted status log ends) (λ e. cc)
when-failed words told after rose status text log Took (faulty wanted want r s t nothing kept of_text shown) took h = apart status 3 2 (ap kind h) (kind-text r status s of_text) (λ e. cc)
when-failed words told after rose status text log Took (unread name s t nothing kept failed why) took h = (text, inl (name, failed, why, t, nothing, kept), took)
when-failed words told after rose status text log Took (unwritten name s t sound wanted want logs failed) took h = (text, inr (name, failed, t), took)

answer-text : (words : List (List ℕ)) (told after : Option Held) (status : Status) (text : List ℕ) (log : LogState) → HasOutput words text log told after → IfSome told (λ held. (task : Task) × Ask words held task × Settles task status text log) → IfSome told (λ held. IsShownText words held after log text)
answer-text words None after status text log put h = tt
answer-text words (Some held) after status text log put h = inr (h.0, status, h.1, h.2, put)

refusal-shown : (words : List (List ℕ)) (told after : Option Held) (log : LogState) (r : Refusal) (text : List ℕ) → text ≡ refusal_text r → after ≡ told → IfSome told (λ held. Refuse words held r) → IfSome told (λ held. IsShownText words held after log text)
refusal-shown words None after log r text t kept h = tt
refusal-shown words (Some held) after log r text t kept h = inl (status_of r, (r, h, refl, t), kept)

missing-told : (words : List (List ℕ)) (told : Option Held) (name : List ℕ) → IsSomeAnd told (λ held. Refuse words held (Refusal.CannotRead name)) → IfSome told (λ held. Refuse words held (Refusal.CannotRead name))
missing-told words None name h = tt
missing-told words (Some held) name h = h

-- whatever is said may be put out
pub may-be-put : (words : List (List ℕ)) (told after : Option Held) (rose : Type 0) (status : Status) (text : List ℕ) (log : LogState) → Case words told after rose status text log → MayBePut words told after rose log text
may-be-put words told after rose status text log (no_command s t nothing kept none) = inl (refusal-shown words told after log Refusal.Usage text t kept (usage-told words told none))
may-be-put words told after rose status text log (answer wanted want ends shown put) = inl (answer-text words told after status text log (wanted, want, put) shown)
may-be-put words told after rose status text log (faulty wanted want r s t nothing kept of_text shown) = inl (refusal-shown words told after log r text t kept shown)
may-be-put words told after rose status text log (unread name s t nothing kept failed why) =
    elim why [
      | inl up ↦ inr (up, inl (name, failed, inl up, t, nothing, kept))
      | inr missing ↦ inl (refusal-shown words told after log (Refusal.CannotRead name) text t kept (missing-told words told name missing))
    ]
may-be-put words told after rose status text log (unwritten name s t sound wanted want logs failed) = inr (failed.0, inr (name, failed, t))

-- that a search is wanted, and so many steps are logged, soundly
abbrev pub Spends : List (List ℕ) → LogState → Type 0
Spends words log =
    (wanted : Wanted) × (conflicts : ℕ) × Want words wanted × IsSearchFor wanted conflicts × IsSpent conflicts log.events × IsSound log.events

wants-search : (words : List (List ℕ)) (wanted : Wanted) (status : Status) (log : LogState) → Want words wanted → IsEnd wanted status log → status ≡ Status.Unknown → Spends words log
wants-search words (Wanted.Search model params mode request output) status log want ends e = elim ends.1 [ inl f ↦ let g = sym f ∙ e in absurd cc | inr f ↦ (Wanted.Search model params mode request output, conflicts_wanted request, want, refl, f.1, f.2) ]
wants-search words (Wanted.Opb opb conflicts) status log want ends e = elim ends.1 [ inl f ↦ let g = sym f ∙ e in absurd cc | inr f ↦ (Wanted.Opb opb conflicts, conflicts, want, refl, f.1, f.2) ]
wants-search words (Wanted.Verify model params mode solution) status log want ends e = elim ends.1 [ inl f ↦ let g = sym f ∙ e in absurd cc | inr f ↦ let g = sym f ∙ e in absurd cc ]
wants-search words (Wanted.Check formula proof workers) status log want ends e = elim ends.1 [ inl f ↦ let g = sym f ∙ e in absurd cc | inr f ↦ let g = sym f ∙ e in absurd cc ]
wants-search words (Wanted.Generate number conflicts eprime param) status log want ends e = elim ends.1 [ inl f ↦ let g = sym f ∙ e in absurd cc | inr f ↦ (Wanted.Generate number conflicts eprime param, conflicts, want, refl, f.1, f.2) ]

-- the budget is spent where a search goes on
pub when-unknown : (words : List (List ℕ)) (told after : Option Held) (rose : Type 0) (status : Status) (text : List ℕ) (log : LogState) → Case words told after rose status text log → status ≡ Status.Unknown → Spends words log
when-unknown words told after rose status text log (no_command s t nothing kept none) h = apart status 0 1 (ap kind h) (ap kind s) (λ e. cc)
when-unknown words told after rose status text log (answer wanted want ends shown put) h = wants-search words wanted status log want ends h
when-unknown words told after rose status text log (faulty wanted want r s t nothing kept of_text shown) h = apart status 0 2 (ap kind h) (kind-text r status s of_text) (λ e. cc)
when-unknown words told after rose status text log (unread name s t nothing kept failed why) h = apart status 0 3 (ap kind h) (ap kind s) (λ e. cc)
when-unknown words told after rose status text log (unwritten name s t sound wanted want logs failed) h = apart status 0 3 (ap kind h) (ap kind s) (λ e. cc)

-- ---- the log

device-not : {B : Type 0} (status : Status) → status ≡ Status.Device → (status ≡ Status.Refuted) ⊎ IsRefused status → B
device-not status s h =
    elim h [
      | inl e ↦ apart status 0 3 (ap kind e) (ap kind s) (λ e. cc)
      | inr refused ↦ refused-not status 3 refused (ap kind s) (λ e. cc) (λ e. cc)
    ]

-- nothing is logged with a refusal
pub when-unlogged : (words : List (List ℕ)) (told after : Option Held) (rose : Type 0) (status : Status) (text : List ℕ) (log : LogState) → Case words told after rose status text log → (status ≡ Status.Refuted) ⊎ IsRefused status → log ≡ empty_log
when-unlogged words told after rose status text log (no_command s t nothing kept none) h = nothing
when-unlogged words told after rose status text log (answer wanted want ends shown put) h =
    elim h [
      | inl e ↦ (wants-judgement words wanted status log want ends e).1
      | inr refused ↦ refused-not status 0 refused (kind-end wanted status log ends) (λ e. cc) (λ e. cc)
    ]
when-unlogged words told after rose status text log (faulty wanted want r s t nothing kept of_text shown) h = nothing
when-unlogged words told after rose status text log (unread name s t nothing kept failed why) h = nothing
when-unlogged words told after rose status text log (unwritten name s t sound wanted want logs failed) h = device-not status s h

pub never-memory : (words : List (List ℕ)) (told after : Option Held) (rose : Type 0) (status : Status) (text : List ℕ) (log : LogState) → Case words told after rose status text log → status ≢ Status.Memory
never-memory words told after rose status text log (no_command s t nothing kept none) h = apart status 4 1 (ap kind h) (ap kind s) (λ e. cc)
never-memory words told after rose status text log (answer wanted want ends shown put) h = apart status 4 0 (ap kind h) (kind-end wanted status log ends) (λ e. cc)
never-memory words told after rose status text log (faulty wanted want r s t nothing kept of_text shown) h = apart status 4 2 (ap kind h) (kind-text r status s of_text) (λ e. cc)
never-memory words told after rose status text log (unread name s t nothing kept failed why) h = apart status 4 3 (ap kind h) (ap kind s) (λ e. cc)
never-memory words told after rose status text log (unwritten name s t sound wanted want logs failed) h = apart status 4 3 (ap kind h) (ap kind s) (λ e. cc)

no-file : (words : List (List ℕ)) (told : Option Held) (name : List ℕ) → AreNoCommand words → IsFailedRead words told name → ⊥
no-file words told name none failed = none failed.0.0 failed.0.1

-- words that are no command are said to be none
pub usage-said : (words : List (List ℕ)) (told after : Option Held) (rose : Type 0) (status : Status) (text : List ℕ) (log : LogState) → Case words told after rose status text log → AreNoCommand words → (status ≡ Status.Usage) ⊎ (status ≡ Status.Memory)
usage-said words told after rose status text log (no_command s t nothing kept none) h = inl s
usage-said words told after rose status text log (answer wanted want ends shown put) h = absurd (h wanted want)
usage-said words told after rose status text log (faulty wanted want r s t nothing kept of_text shown) h = absurd (h wanted want)
usage-said words told after rose status text log (unread name s t nothing kept failed why) h = absurd (no-file words told name h failed)
usage-said words told after rose status text log (unwritten name s t sound wanted want logs failed) h = absurd (h wanted want)

-- ---- the files

-- no file is changed with a refusal or a judgement
pub when-kept : (words : List (List ℕ)) (told after : Option Held) (rose : Type 0) (status : Status) (text : List ℕ) (log : LogState) → Case words told after rose status text log → (status ≡ Status.Refuted) ⊎ IsRefused status → after ≡ told
when-kept words told after rose status text log (no_command s t nothing kept none) h = kept
when-kept words told after rose status text log (answer wanted want ends shown put) h =
    elim h [
      | inl e ↦ nothing-written log text wanted told after (wants-judgement words wanted status log want ends e).2 put
      | inr refused ↦ refused-not status 0 refused (kind-end wanted status log ends) (λ e. cc) (λ e. cc)
    ]
when-kept words told after rose status text log (faulty wanted want r s t nothing kept of_text shown) h = kept
when-kept words told after rose status text log (unread name s t nothing kept failed why) h = kept
when-kept words told after rose status text log (unwritten name s t sound wanted want logs failed) h = device-not status s h

kept-others : (words : List (List ℕ)) (told after : Option Held) → after ≡ told → SameButOutput words told after
kept-others words told after kept = subst (SameButOutput words told) (sym kept) (same-self (IsOutput words) told)

failed-others : (words : List (List ℕ)) (told after : Option Held) (rose : Type 0) (log : LogState) (name : List ℕ) → IsFailedWrite words told after rose log name → SameButOutput words told after
failed-others words told after rose log name h =
    failed-same (IsOutput words) log h.3 (written_for h.1) told after name (outputs-named words h.1 h.2) h.4

-- every file but those that are named for output holds what it held
pub when-others : (words : List (List ℕ)) (told after : Option Held) (rose : Type 0) (status : Status) (text : List ℕ) (log : LogState) → Case words told after rose status text log → SameButOutput words told after
when-others words told after rose status text log (no_command s t nothing kept none) = kept-others words told after kept
when-others words told after rose status text log (answer wanted want ends shown put) = written-same (IsOutput words) log text (written_for wanted) told after (outputs-named words wanted want) put
when-others words told after rose status text log (faulty wanted want r s t nothing kept of_text shown) = kept-others words told after kept
when-others words told after rose status text log (unread name s t nothing kept failed why) = kept-others words told after kept
when-others words told after rose status text log (unwritten name s t sound wanted want logs failed) = failed-others words told after rose log name failed

pub want-others : (words : List (List ℕ)) (told after : Option Held) (rose : Type 0) (log : LogState) → HoldOnWant words told after rose log → SameButOutput words told after
want-others words told after rose log h =
    elim h [
      | inl kept ↦ kept-others words told after kept
      | inr some ↦ elim some [
        | inl partly ↦ partly-same (IsOutput words) log partly.2 (written_for partly.0) told after (outputs-named words partly.0 partly.1) partly.3
        | inr failed ↦ failed-others words told after rose log failed.0 failed.1
      ]
    ]

-- ---- the line that says that memory is wanting

pub took-whole : (line : List ℕ) (before after : Option (List ℕ)) → after ≡ with_more line before → TookFirst line before after
took-whole line before after h =
    let e : take (length line) line ≡ line = take_all (length line) line (omega arith) in
    let P : List ℕ → Type 0 = λ x. after ≡ with_more x before in
    (length line, omega arith, subst P (sym e) h)

pub took-part : (line : List ℕ) (before after : Option (List ℕ)) → TookPart line before after → TookFirst line before after
took-part line before after h = (h.0, omega (arith, h.1), h.2)
