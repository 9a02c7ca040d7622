-- The lines of a proof, and how they lie in its lists.
use Rattle.std.specs.Prelude.{◌≤◌, ℕ, ℤ, List, All, map, length}
use Rattle.cnf_core.specs.Literal.{Literal}
use Rattle.cnf_core.specs.Lines.{ProofLine, add, delete}
use Rattle.cnf_core.specs.Pieces.{part_of}
use Rattle.sat_proof.specs.declared.proof.Line.{Line}
use Rattle.sat_proof.specs.declared.proof.Line.TheVariants as variants
use Rattle.sat_proof.specs.declared.proof.Row.{Row}
use Rattle.sat_proof.specs.declared.proof.Row.TheVariants as places
use Rattle.sat_proof.specs.declared.proof.Proof.TheInside.{Inside}

-- a line without where it lies in memory
abbrev pub plain_line : Line → ProofLine
plain_line (variants.Add id clause hints) = add id clause.now hints.now
plain_line (variants.Delete ids) = delete ids.now

-- a proof's rows, and the lists of which these name parts
pub record FlatProof : Type 0 where
  pub rows : List Row
  pub literals : List Literal
  pub hints : List ℤ
  pub ids : List ℕ

-- the same with plain lists in place of the vectors
abbrev pub flat_proof : Inside → FlatProof
flat_proof p = record { rows = p.rows.items; literals = p.literals.items; hints = p.hints.items; ids = p.ids.items }

-- the line of a row
abbrev pub row_line : FlatProof → Row → ProofLine
row_line p (places.Add id from until first last) = add id (part_of p.literals from until) (part_of p.hints first last)
row_line p (places.Delete from until) = delete (part_of p.ids from until)

-- the lines of rows
abbrev pub row_lines : FlatProof → List Row → List ProofLine
row_lines p rows = map (row_line p) rows

-- the lines of a proof
abbrev pub proof_lines : FlatProof → List ProofLine
proof_lines p = row_lines p p.rows

-- the lists have the parts that a row names
abbrev pub HasPartsOf : FlatProof → Row → Type 0
HasPartsOf p (places.Add id from until first last) = (until ≤ length p.literals) × (last ≤ length p.hints)
HasPartsOf p (places.Delete from until) = until ≤ length p.ids

-- the lists have the parts that the rows name
abbrev pub HasParts : Inside → Type 0
HasParts p = All (HasPartsOf (flat_proof p)) p.rows.items
