-- The givens of a log, and those that were added.
use Rattle.std.proofs.Common.{◌≡◌, ◌<◌, ◌≤◌, ◌⊎◌, ◌+◌, ◌-◌, ◌^◌, ◌∙◌, ℕ, zero, suc, true, List, [], ◌∷◌, ◌++◌, All, Ok, Err, Result, IfOk, length, map, take, drop, get_or, slice_index_or, inl, inr, refl, sym, ap, subst, append_assoc, arith}
use Rattle.std.proofs.Math.Seq.{drop-cons}
use Rattle.std.proofs.lemmas.List.{append-nil, drop_all, get_or_default}
use Rattle.std.proofs.lemmas.List.Elements.{All-cons, All-head, All-nil, All-tail}
use Rattle.std.specs.Global.{Vec}
use Rattle.cnf_core.specs.Events.{HasBase, LogEvent, LogState, Note, event_at, given, givens, is_given, plain_note, step}
use Rattle.cnf_core.specs.Formula.{Cnf, NamesItsVariables}
use Rattle.cnf_core.specs.Literal.{IsVariable, Literal, VariablesUpTo}
use Rattle.cnf_core.specs.declared.lit.TheConstants.{MOST_VARIABLE}
use Rattle.ep_base.specs.declared.errors.Memory.{Memory}
use Rattle.ep_solve.specs.Logged.{added_clauses}
use Rattle.sat_text.specs.CnfGrammar.{SpellsCnf}
use Rattle.sat_text.specs.Writing.{IsReadableNote, SaysAgain, cnf_text}
use Rattle.ep_outputs.specs.Outputs.{AreNotedUpTo, IsFormulaText, NotesUpTo}
use Rattle.cnf_core.specs.declared.log.CellNote.{CellNote}

-- ---- how many were added

-- where the first events are givens, the givens are these and those behind them
base-counts : (base : ℕ) (events : List LogEvent) → base ≤ length events → All (λ e. is_given e ≡ true) (take base events) → length (givens events) ≡ base + length (givens (drop base events))
base-counts zero events there all = omega arith
base-counts (suc base) [] there all = absurd (omega (arith, there))
base-counts (suc base) (given clause ∷ events) there all =
    let rest = base-counts base events (omega (arith, there)) (All-tail (λ e. is_given e ≡ true) (given clause) (take base events) all) in
    omega (arith, rest)
base-counts (suc base) (step clause hints ∷ events) there all =
    let e = All-head (λ e. is_given e ≡ true) (step clause hints) (take base events) all in absurd cc

pub base-within : (events : List LogEvent) (base : ℕ) (clauses : List (List Literal)) → clauses ≡ givens events → HasBase events base → base ≤ length clauses
base-within events base clauses e h =
    let n : length clauses ≡ length (givens events) = ap length e in
    let counts = base-counts base events h.there h.givens in
    omega (arith, n, counts)

pub base-left : (events : List LogEvent) (base : ℕ) (clauses : List (List Literal)) → clauses ≡ givens events → HasBase events base → length clauses - base ≡ length (givens (drop base events))
base-left events base clauses e h =
    let n : length clauses ≡ length (givens events) = ap length e in
    let counts = base-counts base events h.there h.givens in
    omega (arith, n, counts)

-- no more givens than events
pub fewer-givens : (events : List LogEvent) → length (givens events) ≤ length events
fewer-givens [] = omega arith
fewer-givens (given clause ∷ events) = let rest = fewer-givens events in omega (arith, rest)
fewer-givens (step clause hints ∷ events) = let rest = fewer-givens events in omega (arith, rest)

-- ---- the loop that takes the givens out of events

-- the givens so far, and those of the events that are left
abbrev pub Taking : List (List Literal) → ℕ → List LogEvent → Type 0
Taking made k events = made ++ givens (drop k events) ≡ givens events

-- the events from a number on are the one of the number and those behind it
next-event : (events : List LogEvent) (k : ℕ) (x : LogEvent) → k < length events → event_at events k ≡ x → drop k events ≡ x ∷ drop (k + 1) events
next-event events k x lt is =
    let here : x ≡ get_or events k x = sym is ∙ get_or_default events k (given []) x lt in
    grind (arith, drop-cons)

pub taking-given : (made : List (List Literal)) (k : ℕ) (events : List LogEvent) (clause : List Literal) → Taking made k events → k < length events → event_at events k ≡ given clause → Taking (made ++ clause ∷ []) (k + 1) events
taking-given made k events clause h lt is =
    append_assoc made (clause ∷ []) (givens (drop (k + 1) events))
    ∙ sym (ap (λ (es : List LogEvent). made ++ givens es) (next-event events k (given clause) lt is)) ∙ h

pub taking-step : (made : List (List Literal)) (k : ℕ) (events : List LogEvent) (clause : List Literal) (hints : List ℕ) → Taking made k events → k < length events → event_at events k ≡ step clause hints → Taking made (k + 1) events
taking-step made k events clause hints h lt is =
    sym (ap (λ (es : List LogEvent). made ++ givens es) (next-event events k (step clause hints) lt is)) ∙ h

pub taking-ends : (made : List (List Literal)) (k : ℕ) (events : List LogEvent) → Taking made k events → length events ≤ k → made ≡ givens events
taking-ends made k events h le =
    sym (append-nil made) ∙ sym (ap (λ (es : List LogEvent). made ++ givens es) (drop_all k events le)) ∙ h

-- ---- the greatest variable

up-to-more : (m n : ℕ) (clause : List Literal) → m ≤ n → VariablesUpTo m clause → VariablesUpTo n clause
up-to-more m n clause le all = λ k d lt. let h = all k d lt in omega (arith, h, le)

-- the first so many clauses name no variable over a number
abbrev pub AreUpTo : ℕ → ℕ → List (List Literal) → Type 0
AreUpTo most k clauses = (j : ℕ) (d : List Literal) → j < k → VariablesUpTo most (slice_index_or clauses j d)

any-default : (xs : List (List Literal)) (k : ℕ) (d e : List Literal) → k < length xs → slice_index_or xs k d ≡ slice_index_or xs k e
any-default [] k d e lt = absurd (omega (arith, lt))
any-default (x ∷ xs) zero d e lt = refl
any-default (x ∷ xs) (suc k) d e lt = any-default xs k d e (omega (arith, lt))

pub none-up-to : (clauses : List (List Literal)) → AreUpTo 0 0 clauses
none-up-to clauses = λ j d lt. absurd (omega (arith, lt))

below-or-at : (j k : ℕ) → j < k + 1 → (j < k) ⊎ (j ≡ k)
below-or-at zero zero lt = inr refl
below-or-at zero (suc k) lt = inl (omega arith)
below-or-at (suc j) zero lt = absurd (omega (arith, lt))
below-or-at (suc j) (suc k) lt = elim (below-or-at j k (omega (arith, lt))) [ inl less ↦ inl (omega (arith, less)) | inr same ↦ inr (ap suc same) ]

pub next-up-to : (most here next k : ℕ) (clauses : List (List Literal)) (clause : List Literal) → AreUpTo most k clauses → most ≤ next → here ≤ next → k < length clauses → clause ≡ slice_index_or clauses k clause → VariablesUpTo here clause → AreUpTo next (k + 1) clauses
next-up-to most here next k clauses clause all more also lt is up = λ j d below.
    elim (below-or-at j k below) [
      | inl less ↦ up-to-more most next (slice_index_or clauses j d) more (all j d less)
      | inr same ↦
          let at : clause ≡ slice_index_or clauses k d = is ∙ any-default clauses k clause d lt in
          let mine : VariablesUpTo next (slice_index_or clauses k d) = subst (VariablesUpTo next) at (up-to-more here next clause also up) in
          subst (λ (n : ℕ). VariablesUpTo next (slice_index_or clauses n d)) (sym same) mine
    ]

pub all-up-to : (most k : ℕ) (clauses : List (List Literal)) → AreUpTo most k clauses → length clauses ≤ k → All (VariablesUpTo most) clauses
all-up-to most k clauses all le = λ j d lt. all j d (omega (arith, lt, le))

-- no variable is over the greatest one that there can be
pub variables-up-to : (clause : List Literal) → All (λ l. IsVariable l.var) clause → VariablesUpTo MOST_VARIABLE clause
variables-up-to clause all = λ k d lt. (all k d lt).1

-- the next clause is one of them
pub one-up-to : (most k : ℕ) (clauses : List (List Literal)) (clause : List Literal) → k < length clauses → clause ≡ slice_index_or clauses k clause → All (VariablesUpTo most) clauses → VariablesUpTo most clause
one-up-to most k clauses clause lt is all = subst (VariablesUpTo most) (sym is) (all k clause lt)

pub up-to-greater : (m n : ℕ) (clauses : List (List Literal)) → m ≤ n → All (VariablesUpTo m) clauses → All (VariablesUpTo n) clauses
up-to-greater m n clauses le all = λ k d lt. up-to-more m n (slice_index_or clauses k d) le (all k d lt)

-- ---- the greatest variable of a note

-- the first so many notes have no literal of a variable over a number
abbrev pub AreFirstNoted : ℕ → ℕ → List CellNote → Type 0
AreFirstNoted most k notes = (j : ℕ) (d : CellNote) → j < k → (slice_index_or notes j d).lit.var ≤ most

any-note : (xs : List CellNote) (k : ℕ) (d e : CellNote) → k < length xs → slice_index_or xs k d ≡ slice_index_or xs k e
any-note [] k d e lt = absurd (omega (arith, lt))
any-note (x ∷ xs) zero d e lt = refl
any-note (x ∷ xs) (suc k) d e lt = any-note xs k d e (omega (arith, lt))

pub none-noted : (notes : List CellNote) → AreFirstNoted 0 0 notes
none-noted notes = λ j d lt. absurd (omega (arith, lt))

pub next-noted : (most next k : ℕ) (notes : List CellNote) (note : CellNote) → AreFirstNoted most k notes → most ≤ next → k < length notes → note ≡ slice_index_or notes k note → note.lit.var ≤ next → AreFirstNoted next (k + 1) notes
next-noted most next k notes note all more lt is here = λ j d below.
    elim (below-or-at j k below) [
      | inl less ↦ let h = all j d less in omega (arith, h, more)
      | inr same ↦
          let at : note ≡ slice_index_or notes k d = is ∙ any-note notes k note d lt in
          let mine : (slice_index_or notes k d).lit.var ≤ next = subst (λ (x : CellNote). x.lit.var ≤ next) at here in
          subst (λ (n : ℕ). (slice_index_or notes n d).lit.var ≤ next) (sym same) mine
    ]

pub all-noted : (most k : ℕ) (notes : List CellNote) → AreFirstNoted most k notes → length notes ≤ k → AreNotedUpTo most notes
all-noted most k notes all le = λ j d lt. all j d (omega (arith, lt, le))

pub one-noted : (most k : ℕ) (notes : List CellNote) (note : CellNote) → k < length notes → note ≡ slice_index_or notes k note → AreNotedUpTo most notes → note.lit.var ≤ most
one-noted most k notes note lt is all = subst (λ (x : CellNote). x.lit.var ≤ most) (sym is) (all k note lt)

pub noted-greater : (m n : ℕ) (notes : List CellNote) → m ≤ n → AreNotedUpTo m notes → AreNotedUpTo n notes
noted-greater m n notes le all = λ k d lt. let h = all k d lt in omega (arith, h, le)

-- notes as they are kept, and without where they lie in memory
pub noted-plain : (most : ℕ) (notes : List CellNote) → AreNotedUpTo most notes → NotesUpTo most (map plain_note notes)
noted-plain most [] all = All-nil (λ (n : Note). n.lit.var ≤ most)
noted-plain most (x ∷ xs) all =
    All-cons (λ (n : Note). n.lit.var ≤ most) (plain_note x) (map plain_note xs)
    (All-head (λ (n : CellNote). n.lit.var ≤ most) x xs all) (noted-plain most xs (All-tail (λ (n : CellNote). n.lit.var ≤ most) x xs all))

pub plain-noted : (most : ℕ) (notes : List CellNote) → NotesUpTo most (map plain_note notes) → AreNotedUpTo most notes
plain-noted most [] all = All-nil (λ (n : CellNote). n.lit.var ≤ most)
plain-noted most (x ∷ xs) all =
    All-cons (λ (n : CellNote). n.lit.var ≤ most) x xs
    (All-head (λ (n : Note). n.lit.var ≤ most) (plain_note x) (map plain_note xs) all)
    (plain-noted most xs (All-tail (λ (n : Note). n.lit.var ≤ most) (plain_note x) (map plain_note xs) all))

-- ---- the text

-- what is written of a log's formula is its text
pub text-told : (log : LogState) (f : Cnf) (notes : List Note) (number : ℕ) (result : Result (Vec ℕ) Memory) → f.clauses ≡ givens log.events → NamesItsVariables f → NotesUpTo f.vars notes
    → ((most : ℕ) → All (VariablesUpTo most) f.clauses → NotesUpTo most notes → f.vars ≤ most) → notes ≡ log.notes → All IsReadableNote log.notes → number ≡ length (added_clauses log) → number < 10 ^ 18
    → IfOk result (λ text. text.items ≡ cnf_text f notes number)
    → (All IsReadableNote notes → number < 10 ^ 18 → IfOk result (λ text. SaysAgain text.items f notes number))
    → (All IsReadableNote notes → number < 10 ^ 18 → IfOk result (λ text. SpellsCnf text.items f.vars f.clauses))
    → IfOk result (λ text. IsFormulaText log text.items)
text-told log f notes number (Ok text) clauses names noted least same readable is few written again spells =
    let own : All IsReadableNote notes = subst (All IsReadableNote) (sym same) readable in
    let said : SaysAgain text.items f notes number = again own few in
    record {
      formula = f;
      clauses = clauses;
      names = names;
      noted = subst (NotesUpTo f.vars) same noted;
      least = λ most all up. least most (subst (All (VariablesUpTo most)) (sym clauses) all) (subst (NotesUpTo most) (sym same) up);
      is_text = written ∙ ap (λ (ns : List Note). cnf_text f ns number) same ∙ ap (λ (n : ℕ). cnf_text f log.notes n) is;
      spells = spells own few;
      again = subst (λ (n : ℕ). SaysAgain text.items f log.notes n) is (subst (λ (ns : List Note). SaysAgain text.items f ns number) same said);
    }
text-told log f notes number (Err e) clauses names noted least same readable is few written again spells = tt
