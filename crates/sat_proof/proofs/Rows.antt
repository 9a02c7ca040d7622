-- What rows name stays as it is where the lists of a proof grow.
use Rattle.std.proofs.Common.{◌≡◌, ℕ, ℤ, List, [], ◌∷◌, ◌++◌, length, map, refl, sym, ap, ◌∙◌}
use Rattle.std.specs.Prelude.{All, OnErr, Result, Ok, Err}
use Rattle.std.specs.List.{AllByRecursion}
use Rattle.std.proofs.lemmas.List.{append-nil, map_push}
use Rattle.std.proofs.lemmas.List.Elements.{recursion_from_All}
use Rattle.cnf_core.specs.Literal.{Literal}
use Rattle.cnf_core.specs.Lines.{ProofLine, add, delete}
use Rattle.cnf_core.specs.Pieces.{part_of}
use Rattle.cnf_core.proofs.Pieces.{part_grown, part_last}
use Rattle.sat_proof.specs.Lines.{FlatProof, HasPartsOf, proof_lines, row_line}
use Rattle.sat_proof.specs.declared.proof.Row.{Row}
use Rattle.sat_proof.specs.declared.proof.Row.TheVariants as places

-- ---- rows

-- a proof whose lists have more at their ends
abbrev grown : FlatProof → List Row → List Literal → List ℤ → List ℕ → FlatProof
grown p rows literals hints ids = record { rows = rows; literals = p.literals ++ literals; hints = p.hints ++ hints; ids = p.ids ++ ids }

row_grown : (p : FlatProof) (more : List Row) (literals : List Literal) (hints : List ℤ) (ids : List ℕ) (row : Row) → HasPartsOf p row → row_line (grown p more literals hints ids) row ≡ row_line p row
row_grown p more literals hints ids (places.Add id from until first last) has =
    ap (λ (ls : List Literal). add id ls (part_of (p.hints ++ hints) first last)) (part_grown p.literals literals from until has.0)
    ∙ ap (add id (part_of p.literals from until)) (part_grown p.hints hints first last has.1)
row_grown p more literals hints ids (places.Delete from until) has = ap delete (part_grown p.ids ids from until has)

rows_grown : (p : FlatProof) (more : List Row) (literals : List Literal) (hints : List ℤ) (ids : List ℕ) (some : List Row) → AllByRecursion (HasPartsOf p) some → map (row_line (grown p more literals hints ids)) some ≡ map (row_line p) some
rows_grown p more literals hints ids [] has = refl
rows_grown p more literals hints ids (row ∷ some) has =
    ap (λ (line : ProofLine). line ∷ map (row_line (grown p more literals hints ids)) some) (row_grown p more literals hints ids row has.0)
    ∙ ap (λ (lines : List ProofLine). row_line p row ∷ lines) (rows_grown p more literals hints ids some has.1)

lines_grown : (p : FlatProof) (more : List Row) (literals : List Literal) (hints : List ℤ) (ids : List ℕ) → All (HasPartsOf p) p.rows → map (row_line (grown p more literals hints ids)) p.rows ≡ map (row_line p) p.rows
lines_grown p more literals hints ids has = rows_grown p more literals hints ids p.rows (recursion_from_All (HasPartsOf p) p.rows has)

-- a proof whose lists have these at their ends
is_grown : (p q : FlatProof) (literals : List Literal) (hints : List ℤ) (ids : List ℕ) → q.literals ≡ p.literals ++ literals → q.hints ≡ p.hints ++ hints → q.ids ≡ p.ids ++ ids → q ≡ grown p q.rows literals hints ids
is_grown p q literals hints ids l h i =
    ap {B = FlatProof} (λ (x : List Literal). record { rows = q.rows; literals = x; hints = q.hints; ids = q.ids }) l
    ∙ ap {B = FlatProof} (λ (x : List ℤ). record { rows = q.rows; literals = p.literals ++ literals; hints = x; ids = q.ids }) h
    ∙ ap {B = FlatProof} (λ (x : List ℕ). record { rows = q.rows; literals = p.literals ++ literals; hints = p.hints ++ hints; ids = x }) i

-- the rows before are the lines that they were
lines_before : (p q : FlatProof) (literals : List Literal) (hints : List ℤ) (ids : List ℕ) → q.literals ≡ p.literals ++ literals → q.hints ≡ p.hints ++ hints → q.ids ≡ p.ids ++ ids → All (HasPartsOf p) p.rows
    → map (row_line q) p.rows ≡ map (row_line p) p.rows
lines_before p q literals hints ids l h i has =
    ap (λ (r : FlatProof). map (row_line r) p.rows) (is_grown p q literals hints ids l h i) ∙ lines_grown p q.rows literals hints ids has

-- as many lines
pub lines_same : (p q : FlatProof) (literals : List Literal) (hints : List ℤ) (ids : List ℕ) → q.rows ≡ p.rows → q.literals ≡ p.literals ++ literals → q.hints ≡ p.hints ++ hints → q.ids ≡ p.ids ++ ids → All (HasPartsOf p) p.rows
    → proof_lines q ≡ proof_lines p
lines_same p q literals hints ids r l h i has = ap (map (row_line q)) r ∙ lines_before p q literals hints ids l h i has

line_more : (p q : FlatProof) (literals : List Literal) (hints : List ℤ) (ids : List ℕ) (row : Row) → q.rows ≡ p.rows ++ row ∷ [] → q.literals ≡ p.literals ++ literals → q.hints ≡ p.hints ++ hints → q.ids ≡ p.ids ++ ids → All (HasPartsOf p) p.rows
    → proof_lines q ≡ proof_lines p ++ row_line q row ∷ []
line_more p q literals hints ids row r l h i has =
    ap (map (row_line q)) r ∙ map_push (row_line q) p.rows row ∙ ap (λ (lines : List ProofLine). lines ++ row_line q row ∷ []) (lines_before p q literals hints ids l h i has)

-- a line more that adds
pub line_added : (p q : FlatProof) (id from until first last : ℕ) (literals : List Literal) (hints : List ℤ) → q.rows ≡ p.rows ++ places.Add id from until first last ∷ []
    → q.literals ≡ p.literals ++ literals → q.hints ≡ p.hints ++ hints → q.ids ≡ p.ids → from ≡ length p.literals → until ≡ length q.literals → first ≡ length p.hints → last ≡ length q.hints → All (HasPartsOf p) p.rows
    → proof_lines q ≡ proof_lines p ++ add id literals hints ∷ []
line_added p q id from until first last literals hints r l h i f u f' u' has =
    line_more p q literals hints [] (places.Add id from until first last) r l h (i ∙ sym (append-nil p.ids)) has
    ∙ ap (λ (line : ProofLine). proof_lines p ++ line ∷ [])
    (ap (λ (ls : List Literal). add id ls (part_of q.hints first last)) (part_last p.literals q.literals literals from until l f u)
    ∙ ap (add id literals) (part_last p.hints q.hints hints first last h f' u'))

-- a line more that deletes
pub line_deleted : (p q : FlatProof) (from until : ℕ) (ids : List ℕ) → q.rows ≡ p.rows ++ places.Delete from until ∷ [] → q.literals ≡ p.literals → q.hints ≡ p.hints → q.ids ≡ p.ids ++ ids
    → from ≡ length p.ids → until ≡ length q.ids → All (HasPartsOf p) p.rows → proof_lines q ≡ proof_lines p ++ delete ids ∷ []
line_deleted p q from until ids r l h i f u has =
    line_more p q [] [] ids (places.Delete from until) r (l ∙ sym (append-nil p.literals)) (h ∙ sym (append-nil p.hints)) i has
    ∙ ap (λ (line : ProofLine). proof_lines p ++ line ∷ []) (ap delete (part_last p.ids q.ids ids from until i f u))

pub at_error : {A E : Type 0} {P : Type 0} (answer : Result A E) → P → OnErr answer P
at_error (Ok x) p = tt
at_error (Err e) p = p
