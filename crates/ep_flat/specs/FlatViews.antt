-- The code's flat problems, without where their lists lie in memory.
use Rattle.std.specs.Prelude.{map}
use Rattle.ep_flat.specs.declared.flats.Flat.{Flat}
use Rattle.ep_flat.specs.declared.flats.CellMap.{CellMap}
use Rattle.ep_flat.specs.declared.flats.Con.{Con}
use Rattle.ep_flat.specs.declared.flats.ConKind.{ConKind}
use Rattle.ep_flat.specs.declared.flats.ConKind.TheVariants as code
use Rattle.ep_flat.specs.Cons.{FlatKind, FlatCon, clause, all_of, same_truth, linear, member, product, quotient, remainder, power, absolute, least, greatest, element, all_different, counts, at_least, at_most, table, lex}
use Rattle.ep_flat.specs.Flats.{FlatState, MapState}

-- a kind of constraint with plain lists in place of the vectors
abbrev pub plain_kind : ConKind → FlatKind
plain_kind (code.Clause parts) = clause parts.items
plain_kind (code.All xs) = all_of xs.items
plain_kind (code.Same x y) = same_truth x y
plain_kind (code.Linear parts op c) = linear parts.items op c
plain_kind (code.Member x ns) = member x ns
plain_kind (code.Product r x y) = product r x y
plain_kind (code.Quotient r x y) = quotient r x y
plain_kind (code.Remainder r x y) = remainder r x y
plain_kind (code.Power r x n) = power r x n
plain_kind (code.Absolute r x) = absolute r x
plain_kind (code.Least r xs) = least r xs.items
plain_kind (code.Greatest r xs) = greatest r xs.items
plain_kind (code.Element r xs keys indices) = element r xs.items keys.items indices.items
plain_kind (code.AllDiff xs) = all_different xs.items
plain_kind (code.Gcc xs ns cs) = counts xs.items ns.items cs.items
plain_kind (code.AtLeast xs cs ns) = at_least xs.items cs.items ns.items
plain_kind (code.AtMost xs cs ns) = at_most xs.items cs.items ns.items
plain_kind (code.Table xs rows) = table xs.items rows.items
plain_kind (code.Lex op xs ys) = lex op xs.items ys.items

-- a constraint with plain lists in place of the vectors
abbrev pub plain_con : Con → FlatCon
plain_con con = record { truth = con.truth; kind = plain_kind con.kind }

-- a flat problem with plain lists in place of the vectors
abbrev pub plain_flat : Flat → FlatState
plain_flat flat = record { vars = flat.vars.items; cons = map plain_con flat.cons.items }

-- a map of cells with a plain list in place of the vector
abbrev pub plain_map : CellMap → MapState
plain_map m = record { cells = m.cells.items; objective = m.objective }
