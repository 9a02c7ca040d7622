-- The notes of a log that stands for an instance can be read.
use Rattle.std.proofs.Common.{◌≡◌, ℕ, ℤ, List, [], ◌∷◌, ◌++◌, map, sym, subst}
use Rattle.std.specs.Prelude.{Ok, flat_map}
use Rattle.std.specs.List.{All, AllByRecursion}
use Rattle.std.proofs.lemmas.List.Elements.{All-from_recursion, recursion_from_All}
use Rattle.cnf_core.specs.Events.{LogState, Note}
use Rattle.enc_var.specs.Notes.{cell_text}
use Rattle.ep_ground.specs.declared.cells.Cell.{Cell}
use Rattle.ep_print_laws.specs.GivenBack.{BoundDomainsAreNear, BoundNamesAreNames, HasName, IsNearDomain}
use Rattle.ep_solve.specs.Logged.{Stands, named_values, noted_value}
use Rattle.ep_tree.specs.Binding.{Find, Instance, bind}
use Rattle.ep_tree.specs.Statements.{TextTree}
use Rattle.ep_tree.specs.Texts.{IsSpellable}
use Rattle.ep_tree.specs.declared.values.Mode.{Mode}
use Rattle.ep_unroll.specs.Cells.{find_cells, instance_cells}
use Rattle.sat_text.specs.NoteGrammar.{IsCell}
use Rattle.sat_text.specs.Writing.{IsReadableNote}
use Rattle.ep_solve_laws.proofs.CellNames.{IsShortNumber, cell_named}
use Rattle.ep_solve_laws.proofs.NearCells.{IsNearCell, IsNearFind, all_cells_near, all_joined, all_mapped}

-- a cell's name and a value that a note can have
abbrev CanBeNoted : List ℕ × ℤ → Type 0
CanBeNoted p = IsCell p.0 × IsShortNumber p.1

values_noted : (cells : List Cell) → AllByRecursion IsNearCell cells → AllByRecursion CanBeNoted (named_values cells)
unfolding named_values cell_text
values_noted [] h = tt
values_noted (one ∷ cells) h =
    let named : IsCell (cell_text one) = cell_named one.name one.indices h.0.named h.0.indices in
    all_joined CanBeNoted (map (λ v. (cell_text one, v)) one.values) (named_values cells)
    (all_mapped CanBeNoted IsShortNumber (λ v. (cell_text one, v)) (λ v short. (named, short)) one.values h.0.values) (values_noted cells h.1)

notes_readable : (notes : List Note) → AllByRecursion CanBeNoted (map noted_value notes) → AllByRecursion IsReadableNote notes
notes_readable [] h = tt
notes_readable (n ∷ notes) h = (record { named = h.0.0; short = h.0.1 }, notes_readable notes h.1)

both : (finds : List Find) → AllByRecursion HasName finds → AllByRecursion IsNearDomain finds → AllByRecursion IsNearFind finds
both [] h k = tt
both (f ∷ finds) h k = ((h.0, k.0), both finds h.1 k.1)

pub stands_readable : BoundDomainsAreNear → BoundNamesAreNames → (mode : Mode) (model params : TextTree) (i : Instance) → IsSpellable model → bind mode model params ≡ Ok i
    → (log : LogState) → Stands mode i log → All IsReadableNote log.notes
unfolding instance_cells
stands_readable domains names mode model params i spellable bound log stands =
    let near = both i.finds (recursion_from_All HasName i.finds (names mode model params i spellable bound)) (recursion_from_All IsNearDomain i.finds (domains mode model params i bound)) in
    let noted : AllByRecursion CanBeNoted (named_values (instance_cells i)) = values_noted (flat_map find_cells i.finds) (all_cells_near i.finds near) in
    All-from_recursion IsReadableNote log.notes (notes_readable log.notes (subst (AllByRecursion CanBeNoted) (sym stands.notes) noted))
