-- From what is read to what comes out over the held files.
use Rattle.std.proofs.Common.{◌≡◌, ℕ, ◌⊎◌, Bool, true, false, List, [], ◌∷◌, ◌++◌, Option, Some, None, option_to_list, Ok, Err, Result, Contains, IfSome, IsSomeAnd, bytes_eq, if◌then◌else◌, inl, inr, refl, sym, ap, subst}
use Rattle.std.proofs.lemmas.List.Elements.{Contains-append_right}
use Rattle.std.proofs.lemmas.Slice.Eq.{bytes_eq-Decides}
use Rattle.cnf_core.specs.Events.{LogState}
use Rattle.ep_base.specs.Outside.{Held}
use Rattle.ep_solve.specs.Right.{empty_log}
use Rattle.ep_print.specs.declared.refusals.Refusal.{Refusal}
use Rattle.ep_print.specs.declared.refusals.TextFile.{TextFile}
use Rattle.ep_tree.specs.Statements.{TextTree}
use Rattle.ep_driver.specs.Outcomes.{Outcome, Task}
use Rattle.ep_files.specs.Readings.{AreParams, IsHeldReadBy, IsReadBy, IsTextReadAs, ReadsTexts, without}
use Rattle.ep_driver.specs.Shown.{ThenShows}
use Rattle.ep_driver.specs.Steps.{IsFailed, IsFaulty, TellsReply, TellsTask}
use Rattle.ep_files.specs.Reads.{IsUnread, TellsParams, TellsRead}
use Rattle.ep_driver.specs.declared.replies.Reply.{Reply}
use Rattle.ep_files.specs.declared.stops.Stop.{Stop}
use Rattle.ep_driver.proofs.Refusing.{contains-first}

-- what is read of held files
abbrev pub Reads : Type 0 → Type 1
Reads A = Held → Result A Refusal → Type 0

-- what is read is read so without another file, or the file is the one that can't be read then
abbrev pub Stable : {A : Type 0} → Reads A → Type 0
Stable {A} reads = (held : Held) (x : List ℕ) (t : A) → reads held (Ok t) → reads (without x held) (Ok t) ⊎ reads (without x held) (Err (Refusal.CannotRead x))

by-test : {A : Type 0} (texts : ReadsTexts A) (name x : List ℕ) (t : A) (y : Option (List ℕ)) (b : Bool) → (b ≡ true → name ≡ x) → IsHeldReadBy texts name y (Ok t) → IsHeldReadBy texts name (if b then None else y) (Ok t) ⊎ IsHeldReadBy texts name (if b then None else y) (Err (Refusal.CannotRead x))
by-test texts name x t y true same h = inr (ap (λ n. Err (Refusal.CannotRead n)) (sym (same refl)))
by-test texts name x t y false same h = inl h

pub stable-file : {A : Type 0} (texts : ReadsTexts A) (name : List ℕ) → Stable (λ held. IsReadBy texts held name)
stable-file texts name held x t h = by-test texts name x t (held name) (bytes_eq name x) (bytes_eq-Decides name x).0 h

pub stable-params : (params : Option (List ℕ)) → Stable (λ held. AreParams held params)
stable-params None held x t h = inl h
stable-params (Some name) held x t h = stable-file (IsTextReadAs TextFile.Params) name held x t h

lost-test : {A : Type 0} (texts : ReadsTexts A) (name : List ℕ) (y : Option (List ℕ)) (b : Bool) → b ≡ true → IsHeldReadBy texts name (if b then None else y) (Err (Refusal.CannotRead name))
lost-test texts name y true e = refl
lost-test texts name y false e = absurd cc

lost-file : {A : Type 0} (texts : ReadsTexts A) (name : List ℕ) (held : Held) → IsReadBy texts (without name held) name (Err (Refusal.CannotRead name))
lost-file texts name held = lost-test texts name (held name) (bytes_eq name name) ((bytes_eq-Decides name name).1 refl)

gone-held : {A : Type 0} (texts : ReadsTexts A) (name : List ℕ) (y : Option (List ℕ)) → y ≡ None → IsHeldReadBy texts name y (Err (Refusal.CannotRead name))
gone-held texts name None e = refl
gone-held texts name (Some text) e = absurd cc

-- ---- a file that was read, and what follows

-- what is read before a failed read
failed-next : {A : Type 0} (names more : List (List ℕ)) (reads : Reads A) (next : A → Held → Outcome Task → Type 0) → Stable reads → (t : A) (told : Option Held) (rose rose-now : Type 0) (r : Refusal) → (rose-now → rose) → IfSome told (λ held. reads held (Ok t)) → IsFailed more (next t) told rose-now r → IsFailed (names ++ more) (λ held. ThenShows (reads held) (λ m. next m held)) told rose r
failed-next names more reads next stable t None rose rose-now r rises was h =
    (h.0, Contains-append_right names more h.0 h.1, h.2, tt, elim h.4 [ inl up ↦ inl (rises up) | inr none ↦ absurd none ])
failed-next names more reads next stable t (Some held) rose rose-now r rises was h = (
  h.0,
  Contains-append_right names more h.0 h.1,
  h.2,
  elim (stable held h.0 t was) [
    | inl kept ↦ inl (t, kept, h.3)
    | inr lost ↦ inr (Refusal.CannotRead h.0, lost, refl)
  ],
  elim h.4 [ inl up ↦ inl (rises up) | inr shown ↦ inr (inl (t, was, shown)) ],
)

faulty-next : {A : Type 0} (reads : Reads A) (next : A → Held → Outcome Task → Type 0) (t : A) (told : Option Held) (r : Refusal) → IfSome told (λ held. reads held (Ok t)) → IsFaulty (next t) told r → IsFaulty (λ held. ThenShows (reads held) (λ m. next m held)) told r
faulty-next reads next t None r was h = (h.0, tt)
faulty-next reads next t (Some held) r was h = (h.0, (h.1.0, inl (t, was, h.1.1), h.1.2))

-- a task comes out of what follows, and so of the whole
asked-next : {A : Type 0} (reads : Reads A) (next : A → Held → Outcome Task → Type 0) (t : A) (told : Option Held) → IfSome told (λ held. reads held (Ok t)) → IfSome told (λ held. (task : Task) × next t held (Ok task))
    → IfSome told (λ held. (task : Task) × ThenShows (reads held) (λ m. next m held) (Ok task))
asked-next reads next t None was h = tt
asked-next reads next t (Some held) was h = (h.0, inl (t, was, h.1))

told-next : {A : Type 0} (names more : List (List ℕ)) (reads : Reads A) (next : A → Held → Outcome Task → Type 0) → Stable reads → (t : A) (told : Option Held) (rose rose-now : Type 0) (log : LogState) (result : Result Reply Stop) → (rose-now → rose) → IfSome told (λ held. reads held (Ok t)) → TellsTask more (next t) told rose-now log result → TellsTask (names ++ more) (λ held. ThenShows (reads held) (λ m. next m held)) told rose log result
told-next names more reads next stable t None rose rose-now log (Ok reply) rises was h = tt
told-next names more reads next stable t (Some held) rose rose-now log (Ok reply) rises was h =
    (h.0, inl (t, was, h.1), h.2)
told-next names more reads next stable t told rose rose-now log (Err Stop.Memory) rises was h =
    elim h [ inl nothing ↦ inl nothing | inr asked ↦ inr (asked-next reads next t told was asked) ]
told-next names more reads next stable t told rose rose-now log (Err (Stop.Refused r)) rises was h =
    elim h [
      | inl failed ↦ inl (failed-next names more reads next stable t told rose rose-now r rises was failed)
      | inr faulty ↦ inr (faulty-next reads next t told r was faulty)
    ]

-- after what was read, what follows tells the whole
pub after : {A : Type 0} (names more : List (List ℕ)) (reads : Reads A) (next : A → Held → Outcome Task → Type 0) → Stable reads → (t : A) (told told-now : Option Held) (rose rose-now : Type 0) (log : LogState) (result : Result Reply Stop) → told-now ≡ told → (rose-now → rose) → IfSome told (λ held. reads held (Ok t)) → TellsTask more (next t) told-now rose-now log result → TellsTask (names ++ more) (λ held. ThenShows (reads held) (λ m. next m held)) told rose log result
after names more reads next stable t told told-now rose rose-now log result same rises was h =
    let P : Option Held → Type 0 = λ x. TellsTask more (next t) x rose-now log result in
    told-next names more reads next stable t told rose rose-now log result rises was (subst P same h)

-- ---- a file that gives nothing

lost-told : {A : Type 0} (texts : ReadsTexts A) (name : List ℕ) (next : A → Held → Outcome Task → Type 0) (told : Option Held) → IfSome told (λ held. ThenShows (IsReadBy texts (without name held) name) (λ m. next m (without name held)) (Err (Refusal.CannotRead name ∷ [])))
lost-told texts name next None = tt
lost-told texts name next (Some held) = inr (Refusal.CannotRead name, lost-file texts name held, refl)

gone-told : {A : Type 0} (texts : ReadsTexts A) (name : List ℕ) (next : A → Held → Outcome Task → Type 0) (told : Option Held) → IsSomeAnd told (λ held. held name ≡ None) → IsSomeAnd told (λ held. ThenShows (IsReadBy texts held name) (λ m. next m held) (Err (Refusal.CannotRead name ∷ [])))
gone-told texts name next None h = absurd h
gone-told texts name next (Some held) h = inr (Refusal.CannotRead name, gone-held texts name (held name) h, refl)

faulty-told : {A : Type 0} (texts : ReadsTexts A) (name : List ℕ) (next : A → Held → Outcome Task → Type 0) (told : Option Held) (r : Refusal) → IfSome told (λ held. IsReadBy texts held name (Err r)) → IfSome told (λ held. (refusals : List Refusal) × ThenShows (IsReadBy texts held name) (λ m. next m held) (Err refusals) × Contains refusals r)
faulty-told texts name next None r h = tt
faulty-told texts name next (Some held) r h = (r ∷ [], inr (r, h, refl), contains-first r [])

unread-file : {A : Type 0} (texts : ReadsTexts A) (name : List ℕ) (more : List (List ℕ)) (next : A → Held → Outcome Task → Type 0) (told : Option Held) (rose : Type 0) (log : LogState) (r : Refusal) → IsUnread texts told name rose r → TellsTask (name ∷ more) (λ held. ThenShows (IsReadBy texts held name) (λ m. next m held)) told rose log (Err (Stop.Refused r))
unread-file texts name more next told rose log r h =
    elim h [
      | inl there ↦ inl (
        name,
        contains-first name more,
        there.0,
        lost-told texts name next told,
        elim there.1 [ inl up ↦ inl up | inr none ↦ inr (gone-told texts name next told none) ],
      )
      | inr faulty ↦ inr (faulty.0, faulty-told texts name next told r faulty.1)
    ]

pub unread : {V A : Type 0} (view : V → A) (texts : ReadsTexts A) (name : List ℕ) (more : List (List ℕ)) (next : A → Held → Outcome Task → Type 0) (told : Option Held) (rose : Type 0) (log : LogState) (stop : Stop) → log ≡ empty_log → TellsRead view texts told name rose (Err stop) → TellsTask (name ∷ more) (λ held. ThenShows (IsReadBy texts held name) (λ m. next m held)) told rose log (Err stop)
unread view texts name more next told rose log Stop.Memory nothing h = inl nothing
unread view texts name more next told rose log (Stop.Refused r) nothing h = unread-file texts name more next told rose log r h

unread-named : (params : Option (List ℕ)) (name : List ℕ) (more : List (List ℕ)) (next : TextTree → Held → Outcome Task → Type 0) (told : Option Held) (rose : Type 0) (log : LogState) (r : Refusal) → params ≡ Some name → IsUnread (IsTextReadAs TextFile.Params) told name rose r → TellsTask (option_to_list params ++ more) (λ held. ThenShows (AreParams held params) (λ m. next m held)) told rose log (Err (Stop.Refused r))
unread-named None name more next told rose log r e h = absurd cc
unread-named (Some other) name more next told rose log r e h =
    let P : List ℕ → Type 0 = λ x. IsUnread (IsTextReadAs TextFile.Params) told x rose r in
    let same : name ≡ other = cc in
    unread-file (IsTextReadAs TextFile.Params) other more next told rose log r (subst P same h)

pub unread-params : (params : Option (List ℕ)) (more : List (List ℕ)) (next : TextTree → Held → Outcome Task → Type 0) (told : Option Held) (rose : Type 0) (log : LogState) (stop : Stop) → log ≡ empty_log → TellsParams told params rose (Err stop) → TellsTask (option_to_list params ++ more) (λ held. ThenShows (AreParams held params) (λ m. next m held)) told rose log (Err stop)
unread-params params more next told rose log Stop.Memory nothing h = inl nothing
unread-params params more next told rose log (Stop.Refused r) nothing h =
    unread-named params h.0 more next told rose log r h.1 h.2

-- ---- over trees alone

asked-over : (o : Outcome Task) (told : Option Held) → (task : Task) × (o ≡ Ok task) → IfSome told (λ held. (task : Task) × (Ok task ≡ o))
asked-over o None h = tt
asked-over o (Some held) h = (h.0, sym h.1)

-- what a reply over trees tells, it tells over held files
pub over-trees : (o : Outcome Task) (told : Option Held) (rose : Type 0) (log : LogState) (result : Result Reply Stop) → TellsReply o log result → TellsTask [] (λ held outcome. outcome ≡ o) told rose log result
over-trees o None rose log (Ok reply) h = tt
over-trees o (Some held) rose log (Ok reply) h = (h.0, sym h.1, h.2)
over-trees o told rose log (Err Stop.Memory) h = elim h [ inl nothing ↦ inl nothing | inr asked ↦ inr (asked-over o told asked) ]
over-trees o None rose log (Err (Stop.Refused r)) h = inr (h.0, tt)
over-trees o (Some held) rose log (Err (Stop.Refused r)) h = inr (h.0, (h.1.0, sym h.1.1, h.1.2))
