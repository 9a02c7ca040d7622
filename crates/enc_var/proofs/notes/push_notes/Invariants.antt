use Rattle.std.proofs.Common.{◌≡◌, ◌++◌, map, take}
use Rattle.cnf_core.specs.Events.{plain_note}
use Rattle.enc_var.specs.Decoding.{literal_of_note}
use Rattle.enc_var.specs.Notes.{cell_text}
use Rattle.enc_var.proofs.notes.push_notes.Given as goal

abbrev pub invariant-loop-value : goal.invariant-loop-value
invariant-loop-value l =
    map plain_note l.notes.items
    ≡ map plain_note l.initial.notes.items
    ++ map (λ v. record { cell = cell_text l.cell; value = v; lit = literal_of_note l.variable v }) (take l.value-index l.variable.domain)
