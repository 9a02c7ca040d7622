-- The code's problems and readers, without where their lists lie in memory.
use Rattle.std.specs.Prelude.{map, option_map}
use Rattle.opb_text.specs.declared.content.Opb.{Opb}
use Rattle.opb_text.specs.declared.content.OpbRow.{OpbRow}
use Rattle.opb_text.specs.declared.reader.Reader.{Reader}
use Rattle.opb_text.specs.Contents.{OpbConstraint, OpbContent}
use Rattle.opb_text.specs.Reading.{Begun}

-- a constraint with a plain list in place of the vector
abbrev pub plain_row : OpbRow → OpbConstraint
plain_row row = record { terms = row.terms.items; equal = row.equal; right = row.right }

-- a problem with plain lists in place of the vectors
abbrev pub plain_opb : Opb → OpbContent
plain_opb opb = record {
  objective = option_map (λ terms. terms.items) opb.objective;
  rows = map plain_row opb.rows.items;
}

-- a reader with plain lists in place of the vectors
abbrev pub plain_reader : Reader → Begun
plain_reader reader = record {
  objective = option_map (λ terms. terms.items) reader.objective;
  rows = map plain_row reader.rows.items;
  terms = reader.terms.items;
  stage = reader.stage;
}
