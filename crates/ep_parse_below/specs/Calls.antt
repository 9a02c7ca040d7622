-- What stands behind the parts of functions of several parts, in steps.
use Rattle.std.specs.Prelude.{Bool, codes}
use Rattle.ep_base.specs.declared.places.Place.{Place}
use Rattle.ep_parse_parts.specs.OperandReaders.{Lower, ThreeParts, and_part, closed_by, three_parts}
use Rattle.ep_parse_parts.specs.Openings.{extreme_of, fold_of}
use Rattle.ep_parse_parts.specs.Readers.{Reader, either_reader, says}
use Rattle.ep_tree.specs.Trees.{ExprTree, binary, folded, table}

-- the bracket behind the only part of a least or greatest
unfoldable pub extreme_of_one : Bool → Place → ExprTree → Reader ExprTree
extreme_of_one least p a ls = closed_by (codes ")") (folded p (fold_of least) a) ls

-- a second part of a least or greatest, and its bracket
unfoldable pub extreme_of_two : Lower → Bool → Place → ExprTree → Reader ExprTree
extreme_of_two low least p a ls = and_part low (λ b. closed_by (codes ")") (binary p (extreme_of least) a b)) ls

-- the rows of a table, and its bracket
unfoldable pub rows_from : Lower → Place → ExprTree → Reader ExprTree
rows_from low p row ls = and_part low (λ rows. closed_by (codes ")") (table p row rows)) ls

-- the second and the third part of a function of three
unfoldable pub second_of_three : Lower → ThreeParts → Place → ExprTree → Reader ExprTree
second_of_three low what p a ls = and_part low (λ b. and_part low (λ c. closed_by (codes ")") (three_parts what p a b c))) ls

-- the third part of a function of three, and its bracket
unfoldable pub third_of_three : Lower → ThreeParts → Place → ExprTree → ExprTree → Reader ExprTree
third_of_three low what p a b ls = and_part low (λ c. closed_by (codes ")") (three_parts what p a b c)) ls
