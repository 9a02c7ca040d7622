-- Each text spells one problem, or has a fault.
use Rattle.std.proofs.Common.{◌≡◌, ◌⊎◌, ℕ, List, Bool, true, false, Result, Ok, Err, inl, inr, refl, sym, ◌∙◌}
use Rattle.opb_text.specs.Contents.{OpbContent}
use Rattle.opb_text.specs.Grammar.{IsOpbFaultLine, SpellsOpb}
use Rattle.opb_text.specs.Reading.{Begun, content_of, is_done, run, start}
use Rattle.opb_text.specs.Words.{placed_opb_words}
use Rattle.sat_text.specs.Words.{last_line}
use Rattle.opb_text.proofs.Faults.{read_content, read_spells, stopped_at_fault, stopped_spells_nothing, wanting_at_end, wanting_spells_nothing}

-- a text spells nothing, and has the line of its fault
abbrev IsFaulty : List ℕ → Type 0
IsFaulty text = ((content : OpbContent) → ¬ SpellsOpb text content) × (line : ℕ) × IsOpbFaultLine text line

-- a text spells a problem, or has a fault
abbrev pub IsMeant : List ℕ → Type 0
IsMeant text = ((content : OpbContent) × SpellsOpb text content) ⊎ IsFaulty text

read_meant : (text : List ℕ) (b : Begun) (done : Bool) → run start (placed_opb_words text) ≡ Ok b → is_done b ≡ done → IsMeant text
read_meant text b true e is = inl (content_of b, read_spells text b e is)
read_meant text b false e isnt =
    inr ((λ content spells. wanting_spells_nothing text b content e isnt spells), last_line text, wanting_at_end text b (last_line text) e isnt refl)

run_meant : (text : List ℕ) (r : Result Begun ℕ) → run start (placed_opb_words text) ≡ r → IsMeant text
run_meant text (Ok b) e = read_meant text b (is_done b) e refl
run_meant text (Err line) e = inr ((λ content spells. stopped_spells_nothing text line content e spells), line, stopped_at_fault text line e)

pub meant : (text : List ℕ) → IsMeant text
meant text = run_meant text (run start (placed_opb_words text)) refl

one_by : (text : List ℕ) (content other : OpbContent) (r : Result Begun ℕ) → run start (placed_opb_words text) ≡ r → SpellsOpb text content → SpellsOpb text other → content ≡ other
one_by text content other (Ok b) e s t = sym (read_content text b content e s) ∙ read_content text b other e t
one_by text content other (Err line) e s t = absurd (stopped_spells_nothing text line content e s)

pub one_meaning : (text : List ℕ) (content other : OpbContent) → SpellsOpb text content → SpellsOpb text other → content ≡ other
one_meaning text content other s t = one_by text content other (run start (placed_opb_words text)) refl s t
