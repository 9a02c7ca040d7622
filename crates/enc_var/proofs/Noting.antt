-- Texts and notes of cells, one after another.
use Rattle.std.proofs.Common.{◌≡◌, ℕ, zero, suc, ◌+◌, ◌-◌, ◌<◌, ◌≤◌, ℤ, pos, List, [], ◌∷◌, ◌++◌, length, drop, get_or, take, sym, ap, ◌∙◌, append_assoc, add-one, arith}
use Rattle.std.specs.Prelude.{map}
use Rattle.std.specs.Fmt.{signed_decimal}
use Rattle.std.specs.List.{flat_map}
use Rattle.std.proofs.lemmas.List.{append-nil, get_or-map, take_all}
use Rattle.std.proofs.lemmas.List.Concat.{flat_map-cons}
use Rattle.cnf_core.specs.Events.{Note}
use Rattle.ep_ground.specs.declared.cells.Cell.{Cell}
use Rattle.enc_var.specs.Decoding.{VariableLiterals, literal_of_note}
use Rattle.enc_var.specs.Layouts.{literals_at}
use Rattle.enc_var.specs.Notes.{cell_notes, cell_text, indices_text, joined_numbers, notes_of_cell}

-- a number behind a comma
abbrev pub behind_comma : ℤ → List ℕ
behind_comma n = 44 ∷ signed_decimal n

-- numbers with a comma between any two are the first, and each other one behind a comma
pub joined_is : (n : ℤ) (ns : List ℤ) → joined_numbers (n ∷ ns) ≡ signed_decimal n ++ flat_map behind_comma ns
unfolding joined_numbers
joined_is n [] = sym (append-nil (signed_decimal n))
joined_is n (m ∷ ns) =
    ap (λ t. signed_decimal n ++ 44 ∷ t) (joined_is m ns)
    ∙ ap (λ t. signed_decimal n ++ t) (sym (flat_map-cons behind_comma m ns))

-- the indices are put out from bracket to bracket
in_brackets : (old bracket first others now : List ℕ) (n : ℤ) (ns : List ℤ) → bracket ≡ old ++ 91 ∷ [] → first ≡ bracket ++ signed_decimal n
    → others ≡ first ++ flat_map behind_comma ns → now ≡ others ++ 93 ∷ [] → now ≡ old ++ indices_text (n ∷ ns)
unfolding indices_text
in_brackets old bracket first others now n ns opens begins goes ends =
    let numbers = flat_map behind_comma ns in
    ends
    ∙ ap (λ t. t ++ 93 ∷ []) (
    goes ∙ ap (λ t. t ++ numbers) begins ∙ append_assoc bracket (signed_decimal n) numbers
    ∙ ap (λ t. bracket ++ t) (sym (joined_is n ns)) ∙ ap (λ t. t ++ joined_numbers (n ∷ ns)) opens ∙ append_assoc old (91 ∷ []) (joined_numbers (n ∷ ns))
    )
    ∙ append_assoc old (91 ∷ joined_numbers (n ∷ ns)) (93 ∷ [])

-- the indices, of which the first and the others are put out
pub brackets_of : (old bracket first others now : List ℕ) (n : ℤ) (ns : List ℤ) → 1 ≤ length ns → n ≡ get_or ns 0 (pos 0) → bracket ≡ old ++ 91 ∷ [] → first ≡ bracket ++ signed_decimal n
    → others ≡ first ++ flat_map behind_comma (take (length ns - 1) (drop 1 ns)) → now ≡ others ++ 93 ∷ [] → now ≡ old ++ indices_text ns
brackets_of old bracket first others now n [] long is opens begins goes ends = absurd (omega (arith, long))
brackets_of old bracket first others now n (m ∷ ns) long is opens begins goes ends =
    in_brackets old bracket first others now m ns opens (begins ∙ ap (λ k. bracket ++ signed_decimal k) is)
    (goes ∙ ap (λ ms. first ++ flat_map behind_comma ms) (take_all (length (m ∷ ns) - 1) ns (omega arith)))
    ends

-- no index, no brackets
pub no_brackets : (old : List ℕ) (ns : List ℤ) → length ns < 1 → old ≡ old ++ indices_text ns
unfolding indices_text
no_brackets old [] none = sym (append-nil old)
no_brackets old (n ∷ ns) none = absurd (omega (arith, none))

notes_of_more : (layout : List VariableLiterals) (cells : List Cell) (xs : List ℕ) (k : ℕ) (d : Cell) (e : ℕ) → k < length cells → k < length xs
    → cell_notes layout (take (suc k) cells) xs ≡ cell_notes layout (take k cells) xs ++ notes_of_cell layout (get_or cells k d) (get_or xs k e)
unfolding cell_notes
notes_of_more layout [] xs k d e low within = absurd (omega (arith, low))
notes_of_more layout (one ∷ cells) [] k d e low within = absurd (omega (arith, within))
notes_of_more layout (one ∷ cells) (x ∷ xs) zero d e low within = append-nil (notes_of_cell layout one x)
notes_of_more layout (one ∷ cells) (x ∷ xs) (suc k) d e low within =
    ap (λ ns. notes_of_cell layout one x ++ ns) (notes_of_more layout cells xs k d e (omega (arith, low)) (omega (arith, within)))
    ∙ sym (append_assoc (notes_of_cell layout one x) (cell_notes layout (take k cells) xs) (notes_of_cell layout (get_or cells k d) (get_or xs k e)))

-- the notes of one more cell
pub more_cells : (layout : List VariableLiterals) (cells : List Cell) (xs : List ℕ) (before now : List Note) (k : ℕ) (one : Cell) (d : ℕ) (e : VariableLiterals) → k < length cells → k < length xs
    → one ≡ get_or cells k one → e ≡ literals_at layout (get_or xs k d)
    → map (λ y. (literals_at layout y).domain) xs ≡ map (λ c. c.values) cells
    → before ≡ cell_notes layout (take k cells) xs
    → now ≡ before ++ map (λ v. record { cell = cell_text one; value = v; lit = literal_of_note e v }) e.domain
    → now ≡ cell_notes layout (take (k + 1) cells) xs
unfolding notes_of_cell
more_cells layout cells xs before now k one d e low within one_is e_is same so_far more =
    let x : ℕ = get_or xs k d in
    let note_at : VariableLiterals → ℤ → Note = λ a v. record { cell = cell_text one; value = v; lit = literal_of_note a v } in
    let earlier : List Note = cell_notes layout (take k cells) xs in
    let at_x : (literals_at layout x).domain ≡ one.values =
    sym (get_or-map (λ y. (literals_at layout y).domain) xs k d one.values within)
    ∙ ap (λ ds. get_or ds k one.values) same
    ∙ get_or-map (λ (c : Cell). c.values) cells k one one.values low
    ∙ ap (λ (c : Cell). c.values) (sym one_is) in
    more
    ∙ ap (λ ns. ns ++ map (note_at e) e.domain) so_far
    ∙ ap (λ (a : VariableLiterals). earlier ++ map (note_at a) a.domain) e_is
    ∙ ap (λ vs. earlier ++ map (note_at (literals_at layout x)) vs) at_x
    ∙ ap (λ (c : Cell). earlier ++ notes_of_cell layout c x) one_is
    ∙ sym (notes_of_more layout cells xs k one d low within)
    ∙ ap (λ n. cell_notes layout (take n cells) xs) (sym (add-one k))
