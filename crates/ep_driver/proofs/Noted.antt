-- The notes of what a search leaves in a log can be read.
use Rattle.std.proofs.Common.{◌≡◌, ℕ, List, [], ◌∷◌, All, Ok, Err, Result, IfOk, refl, sym, ap, subst}
use Rattle.std.proofs.lemmas.List.Elements.{All-nil}
use Rattle.cnf_core.specs.Events.{LogState}
use Rattle.ep_solve.specs.Logged.{Stands}
use Rattle.ep_solve.specs.Right.{empty_log}
use Rattle.ep_solve_laws.specs.Noted.{NotesCanBeRead}
use Rattle.ep_tree.specs.Binding.{Instance}
use Rattle.ep_tree.specs.Statements.{TextTree}
use Rattle.ep_tree.specs.Texts.{IsSpellable}
use Rattle.ep_tree.specs.declared.values.Mode.{Mode}
use Rattle.sat_text.specs.Writing.{IsReadableNote}
use Rattle.ep_driver.specs.Answers.{Settles}
use Rattle.ep_driver.specs.Outcomes.{instance_of, searched_task}
use Rattle.ep_driver.specs.Searches.{LogsInstance}
use Rattle.ep_files.specs.declared.status.Status.{Status}
use Rattle.ep_driver.specs.declared.wanted.Request.{Request}
use Rattle.ep_driver.proofs.Cubed.{divided-stands}
use Rattle.ep_driver.proofs.Outcomes.{bound_ok}

-- ---- what a reply's log stands for

settled-stands : (mode : Mode) (q : Request) (i : Instance) (status : Status) (text : List ℕ) (log : LogState) → LogsInstance q → Settles (searched_task mode q i) status text log → Stands mode i log
unfolding searched_task Settles
settled-stands mode (Request.One conflicts) i status text log own h = h.2.stands
settled-stands mode (Request.Divided cubes conflicts) i status text log own h = divided-stands mode i cubes conflicts log h.0 h.2
settled-stands mode (Request.Many most conflicts) i status text log own h = h.1.stands
settled-stands mode (Request.Explained conflicts) i status text log own h = absurd own
settled-stands mode (Request.Generated number conflicts) i status text log own h = h.2.stands

pub settled-readable : NotesCanBeRead → (mode : Mode) (q : Request) (m p : TextTree) (i : Instance) (status : Status) (text : List ℕ) (log : LogState) → IsSpellable m → instance_of mode m p ≡ Ok i
    → LogsInstance q → Settles (searched_task mode q i) status text log → All IsReadableNote log.notes
settled-readable law mode q m p i status text log spelled is own h =
    law mode m p i spelled (bound_ok mode m p i is) log (settled-stands mode q i status text log own h)

-- the empty log has no notes
pub none-readable : {X E : Type 0} (r : Result X E) (log : LogState) → log ≡ empty_log → IfOk r (λ x. All IsReadableNote log.notes)
none-readable (Ok x) log e = subst (λ (l : LogState). All IsReadableNote l.notes) (sym e) (All-nil IsReadableNote)
none-readable (Err e) log f = tt

-- what holds of a reply holds of it under a premise too
pub with-premise : {X E : Type 0} (P Q : Type 0) (r : Result X E) → IfOk r (λ x. P) → IfOk r (λ x. Q → P)
with-premise P Q (Ok x) h = λ q. h
with-premise P Q (Err e) h = tt

-- a premise that holds may go
pub without-premise : {X E : Type 0} (P Q : Type 0) (r : Result X E) → Q → IfOk r (λ x. Q → P) → IfOk r (λ x. P)
without-premise P Q (Ok x) q h = h q
without-premise P Q (Err e) q h = tt
