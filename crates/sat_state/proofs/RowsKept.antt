-- The rows of literals where a clause comes in at the end, and where something else than the ends of a row changes.
use Rattle.std.proofs.Common.{◌≡◌, ℕ, suc, ◌^◌, min, ◌+◌, ◌-◌, ◌<◌, ◌≤◌, List, [], ◌∷◌, ◌++◌, length, map, take, drop, get_or, set, refl, ap, ◌∙◌, arith}
use Rattle.std.proofs.Math.Nat.{min-le_right}
use Rattle.std.proofs.Math.Seq.{drop-append_seam, map-set_same}
use Rattle.std.proofs.lemmas.List.{take_all, take-append-le, drop-append-le, length-drop, map-append}
use Rattle.std.specs.Prelude.{All}
use Rattle.cnf_core.specs.Literal.{Literal}
use Rattle.sat_state.specs.Rowed.{Rowed}
use Rattle.sat_state.specs.RowsInside.{literals_of_row}
use Rattle.sat_state.specs.declared.rows.Row.{Row}

row_kept : (literals others : List Literal) (row : Row) → row.start ≤ row.end → row.end ≤ length literals → literals_of_row (literals ++ others) row ≡ literals_of_row literals row
row_kept literals others row le most =
    ap (take (row.end - row.start)) (drop-append-le row.start literals others (omega (arith, le, most)))
    ∙ take-append-le (row.end - row.start) (drop row.start literals) others (omega (arith, le, most, length-drop row.start literals))

row_new : (literals others : List Literal) (row : Row) → row.start ≡ length literals → row.end ≡ length literals + length others → literals_of_row (literals ++ others) row ≡ others
row_new literals others row start end =
    ap (take (row.end - row.start)) (ap (λ (n : ℕ). drop n (literals ++ others)) start ∙ drop-append_seam literals others)
    ∙ take_all (row.end - row.start) others (omega (arith, start, end))

rows_kept : (literals others : List Literal) (rows : List Row) → All (λ r. (r.start ≤ r.end) × (r.end ≤ length literals)) rows
    → map (literals_of_row (literals ++ others)) rows ≡ map (literals_of_row literals) rows
rows_kept literals others [] inside = refl
rows_kept literals others (row ∷ rows) inside =
    ap (λ (first : List Literal). first ∷ map (literals_of_row (literals ++ others)) rows) (row_kept literals others row (inside 0 row (omega arith)).0 (inside 0 row (omega arith)).1)
    ∙ ap (λ (later : List (List Literal)). literals_of_row literals row ∷ later) (rows_kept literals others rows (λ k d lt. inside (suc k) d (omega (arith, lt))))

pub rows_push : (literals others : List Literal) (rows : List Row) (row : Row) → row.start ≡ length literals → row.end ≡ length literals + length others
    → All (λ r. (r.start ≤ r.end) × (r.end ≤ length literals)) rows
    → map (literals_of_row (literals ++ others)) (rows ++ row ∷ []) ≡ map (literals_of_row literals) rows ++ others ∷ []
rows_push literals others rows row start end inside =
    map-append (literals_of_row (literals ++ others)) rows (row ∷ [])
    ∙ ap (λ (lists : List (List Literal)). lists ++ literals_of_row (literals ++ others) row ∷ []) (rows_kept literals others rows inside)
    ∙ ap (λ (last : List Literal). map (literals_of_row literals) rows ++ last ∷ []) (row_new literals others row start end)

-- a row that begins and ends where the one of its number did
pub rows_set : (literals : List Literal) (rows : List Row) (number : ℕ) (row old : Row) → row.start ≡ old.start → row.end ≡ old.end → (d : Row) → old ≡ get_or rows number d
    → map (literals_of_row literals) (set rows number row) ≡ map (literals_of_row literals) rows
rows_set literals rows number row old start end d is =
    map-set_same (literals_of_row literals) rows number row d
    (ap (λ (n : ℕ). take (n - row.start) (drop row.start literals)) end ∙ ap (λ (n : ℕ). take (old.end - n) (drop n literals)) start ∙ ap (literals_of_row literals) is)

abbrev rowed : List (List Literal) → ℕ → ℕ → Rowed
rowed lists room spare = record { lists = lists; room = room; spare = spare }

pub rowed_same : (lists others : List (List Literal)) (room other spare : ℕ) → others ≡ lists → other ≡ room
    → ◌≡◌ {A = Rowed} (record { lists = others; room = other; spare = spare }) (record { lists = lists; room = room; spare = spare })
rowed_same lists others room other spare same_lists same_room = ap (λ (ls : List (List Literal)). rowed ls other spare) same_lists ∙ ap (λ (n : ℕ). rowed lists n spare) same_room

pub fits_end : (start count room : ℕ) → start < 2 ^ 32 → count ≤ min room (2 ^ 32 - 1 - start) → start + count < 2 ^ 32
fits_end start count room few within = let right = min-le_right room (2 ^ 32 - 1 - start) in omega (arith, few, within, right)
