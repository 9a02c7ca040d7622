-- What the notes of cells tell, note by note.
use Rattle.std.proofs.Common.{◌≡◌, ◌↔◌, ℕ, ◌<◌, ℤ, Bool, zero, suc, List, [], ◌∷◌, ◌++◌, length, refl, sym, ap, subst, ◌∙◌, arith}
use Rattle.std.specs.Prelude.{drop, map, slice_index_or, take}
use Rattle.std.specs.List.{All, AllZip, Contains}
use Rattle.std.proofs.Math.Seq.{drop-append_seam, take-append_seam}
use Rattle.std.proofs.lemmas.List.{length-map}
use Rattle.std.proofs.lemmas.List.Elements.{All-contains, All-head, All-map, All-tail}
use Rattle.cnf_core.proofs.Members.{All-from_contains}
use Rattle.cnf_core.specs.Clauses.{IsTrueUnder}
use Rattle.cnf_core.specs.Events.{Note}
use Rattle.ep_answer.proofs.Listing.{all_told}
use Rattle.ep_answer.specs.Answered.{AllTell, LiteralsTell}
use Rattle.ep_answer.specs.Problems.{MapMeans}
use Rattle.ep_flat.specs.Flats.{MapState, MapsCells}
use Rattle.ep_ground.specs.declared.cells.Cell.{Cell}
use Rattle.enc_var.specs.Decoding.{VariableLiterals, literal_of_note}
use Rattle.enc_var.specs.Layouts.{decoded_cells, literals_at}
use Rattle.enc_var.specs.Notes.{cell_notes, cell_text, notes_of_cell}
use Rattle.ep_solve.specs.Logged.{TellNumber, TellNumbers, named_values, noted_value}

-- ---- one cell

values-of : (e : VariableLiterals) (cell : List ℕ) (values : List ℤ) → map (λ (n : Note). n.value) (map (λ v. record { cell = cell; value = v; lit = literal_of_note e v }) values) ≡ values
values-of e cell [] = refl
values-of e cell (v ∷ values) = ap (λ vs. v ∷ vs) (values-of e cell values)

-- what a function gives of an element is among what it gives of the elements
pub mapped : {A B : Type 0} (g : A → B) (xs : List A) (x : A) → Contains xs x → Contains (map g xs) (g x)
mapped g [] x found = absurd (omega (arith, found.1))
mapped g (y ∷ xs) x (zero, low, is) = (0, omega arith, ap g is)
mapped g (y ∷ xs) x (suc k, low, is) = let q = mapped g xs x (k, omega (arith, low), is) in (suc q.0, omega (arith, q.1), q.2)

-- a variable has a cell's values
abbrev IsOfCell : List VariableLiterals → Cell → ℕ → Type 0
IsOfCell layout one x = (literals_at layout x).domain ≡ one.values

-- what the literals of a variable's values tell is what the notes of its cell tell
cell-told : (s : ℕ → Bool) (layout : List VariableLiterals) (one : Cell) (x : ℕ) (number : ℤ) → IsOfCell layout one x → LiteralsTell s (literals_at layout x) number
    → TellNumber s (notes_of_cell layout one x) one number
unfolding notes_of_cell
cell-told s layout one x number same tell =
    let e : VariableLiterals = literals_at layout x in
    let note : ℤ → Note = λ v. record { cell = cell_text one; value = v; lit = literal_of_note e v } in
    let Named : Note → Type 0 = λ n. n.cell ≡ cell_text one in
    let Told : Note → Type 0 = λ n. IsTrueUnder s n.lit ↔ (n.value ≡ number) in
    record {
      among = subst (λ vs. Contains vs number) same tell.among;
      cells = All-map Named note one.values (All-from_contains (λ v. Named (note v)) one.values (λ v there. refl));
      values = values-of e (cell_text one) one.values;
      literals = All-map Told note one.values
          (All-from_contains (λ v. Told (note v)) one.values (λ v there. tell.literals v (subst (λ vs. Contains vs v) (sym same) there)));
    }

cell-tells : (s : ℕ → Bool) (layout : List VariableLiterals) (one : Cell) (x : ℕ) (number : ℤ) → IsOfCell layout one x → TellNumber s (notes_of_cell layout one x) one number
    → LiteralsTell s (literals_at layout x) number
unfolding notes_of_cell
cell-tells s layout one x number same told =
    let note : ℤ → Note = λ v. record { cell = cell_text one; value = v; lit = literal_of_note (literals_at layout x) v } in
    let Told : Note → Type 0 = λ n. IsTrueUnder s n.lit ↔ (n.value ≡ number) in
    record {
      among = subst (λ vs. Contains vs number) (sym same) told.among;
      literals = λ v there. All-contains Told (map note one.values) (note v) told.literals (mapped note one.values v (subst (λ vs. Contains vs v) same there));
    }

long-notes : (layout : List VariableLiterals) (one : Cell) (x : ℕ) → length (notes_of_cell layout one x) ≡ length one.values
unfolding notes_of_cell
long-notes layout one x =
    let note : ℤ → Note = λ v. record { cell = cell_text one; value = v; lit = literal_of_note (literals_at layout x) v } in
    length-map one.values note

-- ---- what notes name

map-append : {A B : Type 0} (f : A → B) (xs ys : List A) → map f (xs ++ ys) ≡ map f xs ++ map f ys
map-append f [] ys = refl
map-append f (x ∷ xs) ys = ap (λ zs. f x ∷ zs) (map-append f xs ys)

cell-named : (e : VariableLiterals) (cell : List ℕ) (values : List ℤ) → map noted_value (map (λ v. record { cell = cell; value = v; lit = literal_of_note e v }) values) ≡ map {B = List ℕ × ℤ} (λ v. (cell, v)) values
cell-named e cell [] = refl
cell-named e cell (v ∷ values) = let first : List ℕ × ℤ = (cell, v) in ap (λ vs. first ∷ vs) (cell-named e cell values)

-- the notes of cells name each cell with each of its values
pub notes-named : (layout : List VariableLiterals) (cells : List Cell) (xs : List ℕ) → length xs ≡ length cells → map noted_value (cell_notes layout cells xs) ≡ named_values cells
unfolding cell_notes named_values notes_of_cell
notes-named layout [] [] same = refl
notes-named layout [] (x ∷ xs) same = refl
notes-named layout (one ∷ cells) [] same = absurd (omega (arith, same))
notes-named layout (one ∷ cells) (x ∷ xs) same =
    let note : ℤ → Note = λ v. record { cell = cell_text one; value = v; lit = literal_of_note (literals_at layout x) v } in
    let own : List (List ℕ × ℤ) = map (λ v. (cell_text one, v)) one.values in
    map-append noted_value (map note one.values) (cell_notes layout cells xs)
    ∙ ap (λ named. named ++ map noted_value (cell_notes layout cells xs)) (cell-named (literals_at layout x) (cell_text one) one.values)
    ∙ ap (λ named. own ++ named) (notes-named layout cells xs (omega (arith, same)))

-- a map names as many variables as there are cells
pub as-many : (cells : List Cell) (domains : List (List ℤ)) (m : MapState) → MapsCells (map (λ one. one.values) cells) domains m → length m.cells ≡ length cells
as-many cells domains m maps =
    sym (length-map m.cells (λ x. slice_index_or domains x [])) ∙ ap length maps.cells.domains ∙ length-map cells (λ one. one.values)

-- ---- cell by cell

own-notes : (layout : List VariableLiterals) (one : Cell) (x : ℕ) (later : List Note) → take (length one.values) (notes_of_cell layout one x ++ later) ≡ notes_of_cell layout one x
own-notes layout one x later =
    ap (λ n. take n (notes_of_cell layout one x ++ later)) (sym (long-notes layout one x)) ∙ take-append_seam (notes_of_cell layout one x) later

later-notes : (layout : List VariableLiterals) (one : Cell) (x : ℕ) (later : List Note) → drop (length one.values) (notes_of_cell layout one x ++ later) ≡ later
later-notes layout one x later =
    ap (λ n. drop n (notes_of_cell layout one x ++ later)) (sym (long-notes layout one x)) ∙ drop-append_seam (notes_of_cell layout one x) later

cells-told : (s : ℕ → Bool) (layout : List VariableLiterals) (cells : List Cell) (xs : List ℕ) (numbers : List ℤ) → AllZip (IsOfCell layout) cells xs → AllTell s layout xs numbers
    → TellNumbers s (cell_notes layout cells xs) cells numbers
unfolding cell_notes TellNumbers
cells-told s layout [] [] [] stand tell = refl
cells-told s layout [] [] (n ∷ numbers) stand tell = absurd tell
cells-told s layout [] (x ∷ xs) numbers stand tell = absurd stand
cells-told s layout (one ∷ cells) [] numbers stand tell = absurd stand
cells-told s layout (one ∷ cells) (x ∷ xs) [] stand tell = absurd tell
cells-told s layout (one ∷ cells) (x ∷ xs) (n ∷ numbers) stand tell =
    let later : List Note = cell_notes layout cells xs in (
      subst (λ notes. TellNumber s notes one n) (sym (own-notes layout one x later)) (cell-told s layout one x n stand.0 tell.0),
      subst (λ notes. TellNumbers s notes cells numbers) (sym (later-notes layout one x later)) (cells-told s layout cells xs numbers stand.1 tell.1),
    )

cells-tell : (s : ℕ → Bool) (layout : List VariableLiterals) (cells : List Cell) (xs : List ℕ) (numbers : List ℤ) → AllZip (IsOfCell layout) cells xs
    → TellNumbers s (cell_notes layout cells xs) cells numbers → AllTell s layout xs numbers
unfolding cell_notes TellNumbers
cells-tell s layout [] [] [] stand told = tt
cells-tell s layout [] [] (n ∷ numbers) stand told = absurd told
cells-tell s layout [] (x ∷ xs) numbers stand told = absurd stand
cells-tell s layout (one ∷ cells) [] numbers stand told = absurd stand
cells-tell s layout (one ∷ cells) (x ∷ xs) [] stand told = absurd told
cells-tell s layout (one ∷ cells) (x ∷ xs) (n ∷ numbers) stand told =
    let later : List Note = cell_notes layout cells xs in (
      cell-tells s layout one x n stand.0 (subst (λ notes. TellNumber s notes one n) (own-notes layout one x later) told.0),
      cells-tell s layout cells xs numbers stand.1 (subst (λ notes. TellNumbers s notes cells numbers) (later-notes layout one x later) told.1),
    )

-- ---- the cells of a map

domain-at : (layout : List VariableLiterals) (x : ℕ) → x < length layout → slice_index_or (map (λ e. e.domain) layout) x [] ≡ (literals_at layout x).domain
domain-at [] x below = absurd (omega (arith, below))
domain-at (e ∷ layout) zero below = refl
domain-at (e ∷ layout) (suc x) below = domain-at layout x (omega (arith, below))

of-cells : (layout : List VariableLiterals) (cells : List Cell) (xs : List ℕ) → All (λ x. x < length layout) xs
    → map (λ x. slice_index_or (map (λ e. e.domain) layout) x []) xs ≡ map (λ one. one.values) cells → AllZip (IsOfCell layout) cells xs
of-cells layout [] [] below same = tt
of-cells layout [] (x ∷ xs) below same = absurd (omega (arith, ap length same))
of-cells layout (one ∷ cells) [] below same = absurd (omega (arith, ap length same))
of-cells layout (one ∷ cells) (x ∷ xs) below same = (
  sym (domain-at layout x (All-head (λ y. y < length layout) x xs below)) ∙ ap (λ ds. slice_index_or ds 0 []) same,
  of-cells layout cells xs (All-tail (λ y. y < length layout) x xs below) (ap (drop 1) same),
)

-- the variables of a map are of its cells, and of the layout
below-all : (layout : List VariableLiterals) (cells : List (List ℤ)) (m : MapState) → MapsCells cells (map (λ e. e.domain) layout) m → All (λ x. x < length layout) m.cells
below-all layout cells m maps = subst (λ n. All (λ x. x < n) m.cells) (length-map layout (λ e. e.domain)) maps.cells.there

-- where the literals of a map's variables mean what they say, those of the cells' values tell the numbers that an assignment gives the cells
pub cells-meant : (s : ℕ → Bool) (layout : List VariableLiterals) (cells : List (List ℤ)) (m : MapState) → MapsCells cells (map (λ e. e.domain) layout) m → MapMeans s layout m
    → AllTell s layout m.cells (decoded_cells layout m s)
cells-meant s layout cells m maps means = all_told layout s m.cells (below-all layout cells m maps) means.cells

-- and the notes of the cells tell them
pub notes-tell : (s : ℕ → Bool) (layout : List VariableLiterals) (cells : List Cell) (m : MapState)
    → MapsCells (map (λ one. one.values) cells) (map (λ e. e.domain) layout) m → MapMeans s layout m
    → TellNumbers s (cell_notes layout cells m.cells) cells (decoded_cells layout m s)
notes-tell s layout cells m maps means =
    let own : List (List ℤ) = map (λ one. one.values) cells in
    cells-told s layout cells m.cells (decoded_cells layout m s) (of-cells layout cells m.cells (below-all layout own m maps) maps.cells.domains) (cells-meant s layout own m maps means)

-- whatever the notes of the cells tell the literals of the cells' values tell
pub notes-told : (s : ℕ → Bool) (layout : List VariableLiterals) (cells : List Cell) (m : MapState) (numbers : List ℤ)
    → MapsCells (map (λ one. one.values) cells) (map (λ e. e.domain) layout) m → TellNumbers s (cell_notes layout cells m.cells) cells numbers → AllTell s layout m.cells numbers
notes-told s layout cells m numbers maps told =
    cells-tell s layout cells m.cells numbers (of-cells layout cells m.cells (below-all layout (map (λ one. one.values) cells) m maps) maps.cells.domains) told
