-- Readings, computed by the checker: which tokens are taken, and which is refused.
use Rattle.std.specs.Prelude.{◌≡◌, ℕ, suc, ◌-◌, Bool, true, false, List, [], ◌∷◌, length, ◌==◌, codes, refl}
use Rattle.ep_base.specs.TokenTexts.{is_symbol, is_word, kind_of}
use Prim.Native.String.{String}
use Rattle.ep_tree.proofs.Opened.{the_language}
use Rattle.ep_tree.specs.Phrases.{Lexeme, saying_of}
use Rattle.ep_tree.specs.Spelling.{domains, implications}
use Rattle.ep_parse_parts.specs.DomainReaders.{as_ranges, end_from, range_from, ranges_from, domain_open_from, domain_begun_from, domain_part_from, another_operation, operations_from, matrix_head_from, matrix_follows, another_index_domain, index_domain_behind, as_domains, matrix_from, any_domain_from, domain_at_level}
use Rattle.ep_parse_parts.specs.OperandReaders.{expression_next, domain_next, as_trees, index_domain_from, as_generators, generator_from, colon_comes, another_generator, conditions_from, comprehension_from, literal_from, bracket_from, quantifier_from, call_from, call_of_two_from, table_from, call_of_three_from, sum_from, opened_from, open_from, begun_from, operand_from}
use Rattle.ep_parse_parts.specs.OperatorReaders.{as_indices, index_from, another_index, read_from, another_read, takes_group, unary_from, another_binary, power_from, product_from, as_terms, term_behind, term_from, terms_from, terms_behind, chain_from, compared_with, comparison_behind, comparison_from, part_from, parts_from, parts_behind, conjunction_from, disjunction_from, implication_from, at_level}
use Rattle.ep_parse_parts.specs.Readers.{Read, high, took, wrong, says, word_from, name_in, name_from, looked_up, next_in, more_from, grown_from, names_from}
use Rattle.ep_parse_parts.specs.TreeReaders.{expr_from, some_domain_from}

-- a vector that says `unfolding the_readers` computes with all of these
unfoldable pub the_readers : ℕ
unfolding says word_from name_in name_from looked_up next_in more_from grown_from names_from expression_next domain_next as_trees index_domain_from as_generators generator_from colon_comes another_generator conditions_from comprehension_from literal_from bracket_from quantifier_from call_from call_of_two_from table_from call_of_three_from sum_from opened_from open_from begun_from operand_from as_indices index_from another_index read_from takes_group another_read unary_from another_binary power_from product_from as_terms term_behind term_from terms_from terms_behind chain_from compared_with comparison_behind comparison_from part_from parts_from parts_behind conjunction_from disjunction_from implication_from at_level as_ranges end_from range_from ranges_from domain_open_from domain_begun_from domain_part_from another_operation operations_from matrix_head_from matrix_follows another_index_domain index_domain_behind as_domains matrix_from any_domain_from domain_at_level expr_from some_domain_from is_word is_symbol kind_of
the_readers = 0

-- the tokens of words, all on one line, the first in the first column and so on
abbrev pub in_columns : ℕ → List String → List Lexeme
in_columns column [] = []
in_columns column (w ∷ ws) =
    record { place = record { line = 1; column = column }; saying = saying_of (codes w) (kind_of (codes w)) } ∷ in_columns (suc column) ws

-- what is answered: so many tokens taken, or the token with this number refused
data Answer : Type 0 where
  takes : ℕ → Answer
  faults : ℕ → Answer
  rises : ℕ → Answer

abbrev answer : {A : Type 0} → ℕ → Read A → Answer
answer count (took x ls) = takes (count - length ls)
answer count (wrong ls) = faults (count - length ls)
answer count (high ls) = rises (count - length ls)

abbrev same : Answer → Answer → Bool
same (takes m) (takes n) = m == n
same (faults m) (faults n) = m == n
same (rises m) (rises n) = m == n
same _ _ = false

-- an expression of at most a height
abbrev expression : ℕ → List String → Answer
expression most ws = answer (length ws) (expr_from most implications (in_columns 1 ws))

-- a domain of at most a height
abbrev domain : ℕ → List String → Answer
domain most ws = answer (length ws) (some_domain_from most domains (in_columns 1 ws))

-- a row of a table
abbrev Row : Type 0
Row = ℕ × List String × Answer

-- a row with its number, if what is answered isn't what it says
abbrev unless_right : Bool → ℕ × Answer → List (ℕ × Answer) → List (ℕ × Answer)
unless_right true answered others = others
unless_right false answered others = answered ∷ others

-- the numbers of the rows that are wrong, each with what is answered
abbrev wrong_rows : (ℕ → List String → Answer) → ℕ → List Row → List (ℕ × Answer)
wrong_rows read_so n [] = []
wrong_rows read_so n (row ∷ rows) =
    unless_right (same (read_so row.0 row.1) row.2) (n, read_so row.0 row.1) (wrong_rows read_so (suc n) rows)

-- heights, words, and what is answered where an expression is read
abbrev rows_of-expressions-1 : List Row
rows_of-expressions-1 =
    (256, ("7" ∷ []), takes 1)
    ∷ (256, ([]), faults 0)
    ∷ (256, (")" ∷ []), faults 0)
    ∷ (256, ("7" ∷ ")" ∷ []), takes 1)
    ∷ (256, ("x" ∷ "!" ∷ "y" ∷ []), takes 1)
    ∷ (256, ("x" ∷ "+" ∷ []), faults 2)
    ∷ (256, ("x" ∷ "+" ∷ ")" ∷ []), faults 2)
    ∷ (2, ("!" ∷ "!" ∷ "x" ∷ []), rises 1)
    ∷ (3, ("!" ∷ "!" ∷ "x" ∷ []), takes 3)
    ∷ (256, ("a" ∷ "->" ∷ "b" ∷ "->" ∷ "c" ∷ []), takes 5)
    ∷ (256, ("a" ∷ "<->" ∷ "b" ∷ []), takes 3)
    ∷ (256, ("a" ∷ "->" ∷ "->" ∷ []), faults 2)
    ∷ (256, ("a" ∷ "!=" ∷ "b" ∷ []), takes 3)
    ∷ (256, ("a" ∷ ">=" ∷ "b" ∷ []), takes 3)
    ∷ (256, ("1" ∷ "<" ∷ "2" ∷ "<" ∷ "3" ∷ []), takes 3)
    ∷ (256, ("a" ∷ "<lex" ∷ "b" ∷ []), takes 3)
    ∷ (256, ("a" ∷ "<=lex" ∷ "b" ∷ []), takes 3)
    ∷ (256, ("a" ∷ ">lex" ∷ "b" ∷ []), takes 3)
    ∷ (256, ("a" ∷ ">=lex" ∷ "b" ∷ []), takes 3)
    ∷ (256, ("exists" ∷ "i" ∷ ":" ∷ "D" ∷ "." ∷ "a" ∷ []), takes 6)
    ∷ (256, ("forAll" ∷ "i" ∷ "," ∷ "j" ∷ ":" ∷ "int" ∷ "(" ∷ "1" ∷ ".." ∷ "n" ∷ ")" ∷ "." ∷ "i" ∷ "=" ∷ "j" ∷ "/\\" ∷ "c" ∷ []), takes 17)
    ∷ (256, ("forAll" ∷ "i" ∷ ":" ∷ "D" ∷ "." ∷ "a" ∷ "=" ∷ "b" ∷ "=" ∷ "c" ∷ []), takes 8)
    ∷ (256, ("1" ∷ "+" ∷ "forAll" ∷ "i" ∷ ":" ∷ "D" ∷ "." ∷ "a" ∷ "=" ∷ "b" ∷ "=" ∷ "c" ∷ []), takes 10)
    ∷ (256, ("!" ∷ "forAll" ∷ "i" ∷ ":" ∷ "D" ∷ "." ∷ "a" ∷ "=" ∷ "b" ∷ "->" ∷ "c" ∷ []), takes 11)
    ∷ (256, ("forAll" ∷ "i" ∷ "D" ∷ []), faults 2)
    ∷ (256, ("forAll" ∷ "3" ∷ []), faults 1)
    ∷ (256, ("forAll" ∷ "i" ∷ "," ∷ ":" ∷ "D" ∷ []), faults 3)
    ∷ (256, ("forAll" ∷ "i" ∷ ":" ∷ "D" ∷ "a" ∷ []), faults 4)
    ∷ (256, ("forAll" ∷ "i" ∷ ":" ∷ "D" ∷ "." ∷ []), faults 5)
    ∷ (256, ("sum" ∷ "(" ∷ "x" ∷ ")" ∷ []), takes 4) ∷ []

expressions-1 : wrong_rows expression 0 rows_of-expressions-1 ≡ []
unfolding the_language the_readers
expressions-1 = refl

-- heights, words, and what is answered where an expression is read
abbrev rows_of-expressions-2 : List Row
rows_of-expressions-2 =
    (256, ("sum" ∷ "i" ∷ ":" ∷ "D" ∷ "." ∷ "x" ∷ []), takes 6)
    ∷ (256, ("sum" ∷ "x" ∷ ")" ∷ []), faults 2)
    ∷ (256, ("sum" ∷ "3" ∷ []), faults 1)
    ∷ (256, ("flatten" ∷ "(" ∷ "m" ∷ ")" ∷ []), takes 4)
    ∷ (256, ("product" ∷ "(" ∷ "m" ∷ ")" ∷ []), takes 4)
    ∷ (256, ("and" ∷ "(" ∷ "m" ∷ ")" ∷ []), takes 4)
    ∷ (256, ("or" ∷ "(" ∷ "m" ∷ ")" ∷ []), takes 4)
    ∷ (256, ("max" ∷ "(" ∷ "m" ∷ ")" ∷ []), takes 4)
    ∷ (256, ("max" ∷ "(" ∷ "a" ∷ "," ∷ "b" ∷ ")" ∷ []), takes 6)
    ∷ (256, ("min" ∷ "(" ∷ "a" ∷ "," ∷ "b" ∷ "," ∷ "c" ∷ ")" ∷ []), faults 5)
    ∷ (256, ("allDiff" ∷ "(" ∷ "m" ∷ ")" ∷ []), takes 4)
    ∷ (256, ("factorial" ∷ "(" ∷ "3" ∷ ")" ∷ []), takes 4)
    ∷ (256, ("toInt" ∷ "(" ∷ "b" ∷ ")" ∷ []), takes 4)
    ∷ (256, ("atleast" ∷ "(" ∷ "m" ∷ "," ∷ "c" ∷ "," ∷ "v" ∷ ")" ∷ []), takes 8)
    ∷ (256, ("atmost" ∷ "(" ∷ "m" ∷ "," ∷ "c" ∷ "," ∷ "v" ∷ ")" ∷ []), takes 8)
    ∷ (256, ("gcc" ∷ "(" ∷ "m" ∷ "," ∷ "c" ∷ ")" ∷ []), faults 5)
    ∷ (256, ("table" ∷ "(" ∷ "m" ∷ "," ∷ "c" ∷ ")" ∷ []), takes 6)
    ∷ (256, ("table" ∷ "(" ∷ "m" ∷ ")" ∷ []), faults 3)
    ∷ (256, ("allDiff" ∷ "m" ∷ []), faults 1)
    ∷ (256, ("-" ∷ "x" ∷ "**" ∷ "2" ∷ []), takes 4)
    ∷ (256, ("a" ∷ "**" ∷ "b" ∷ "**" ∷ "c" ∷ "*" ∷ "d" ∷ []), takes 7)
    ∷ (256, ("a" ∷ "*" ∷ "-" ∷ "b" ∷ []), takes 4)
    ∷ (256, ("(" ∷ "a" ∷ "+" ∷ "b" ∷ ")" ∷ []), takes 5)
    ∷ (256, ("(" ∷ "a" ∷ "+" ∷ "b" ∷ []), faults 4)
    ∷ (256, ("|" ∷ "a" ∷ "-" ∷ "b" ∷ "|" ∷ "+" ∷ "1" ∷ []), takes 7)
    ∷ (256, ("|" ∷ "a" ∷ []), faults 2)
    ∷ (256, ("x" ∷ "in" ∷ "D" ∷ "-" ∷ "E" ∷ []), takes 5)
    ∷ (256, ("x" ∷ "in" ∷ "D" ∷ "-" ∷ "1" ∷ []), faults 4)
    ∷ (256, ("x" ∷ "in" ∷ "toSet" ∷ "(" ∷ "m" ∷ ")" ∷ []), takes 6)
    ∷ (256, ("x" ∷ "in" ∷ "toSet" ∷ "m" ∷ []), faults 3) ∷ []

expressions-2 : wrong_rows expression 0 rows_of-expressions-2 ≡ []
unfolding the_language the_readers
expressions-2 = refl

-- heights, words, and what is answered where an expression is read
abbrev rows_of-expressions-3 : List Row
rows_of-expressions-3 =
    (256, ("x" ∷ "in" ∷ "(" ∷ "D" ∷ "union" ∷ "E" ∷ ")" ∷ "intersect" ∷ "int" ∷ "(" ∷ ".." ∷ ")" ∷ []), takes 12)
    ∷ (256, ("x" ∷ "in" ∷ "matrix" ∷ []), faults 2)
    ∷ (256, ("x" ∷ "in" ∷ "D" ∷ "in" ∷ "E" ∷ []), takes 3)
    ∷ (256, ("[" ∷ "]" ∷ []), takes 2)
    ∷ (256, ("[" ∷ ";" ∷ "int" ∷ "]" ∷ []), takes 4)
    ∷ (256, ("[" ∷ "1" ∷ "," ∷ "2" ∷ ";" ∷ "int" ∷ "(" ∷ "0" ∷ "," ∷ "3" ∷ ")" ∷ "]" ∷ []), takes 12)
    ∷ (256, ("[" ∷ "1" ∷ "," ∷ "]" ∷ []), faults 3)
    ∷ (256, ("[" ∷ "," ∷ "]" ∷ []), faults 1)
    ∷ (256, ("[" ∷ "1" ∷ "2" ∷ "]" ∷ []), faults 2)
    ∷ (256, ("[" ∷ ";" ∷ "]" ∷ []), faults 2)
    ∷ (256, ("[" ∷ ";" ∷ "matrix" ∷ []), faults 2)
    ∷ (256, ("[" ∷ "i" ∷ "|" ∷ "i" ∷ ":" ∷ "D" ∷ "]" ∷ []), takes 7)
    ∷ (256, ("[" ∷ "i" ∷ "|" ∷ "i" ∷ ":" ∷ "D" ∷ "," ∷ "j" ∷ "," ∷ "k" ∷ ":" ∷ "E" ∷ "," ∷ "a" ∷ "," ∷ "b" ∷ ";" ∷ "int" ∷ "]" ∷ []), takes 19)
    ∷ (256, ("[" ∷ "i" ∷ "|" ∷ "i" ∷ ":" ∷ "D" ∷ "," ∷ "a" ∷ "," ∷ "b" ∷ ")" ∷ []), faults 10)
    ∷ (256, ("[" ∷ "i" ∷ "|" ∷ "i" ∷ ":" ∷ "D" ∷ "," ∷ "a" ∷ "+" ∷ "b" ∷ "," ∷ "j" ∷ ":" ∷ "E" ∷ "]" ∷ []), faults 12)
    ∷ (256, ("[" ∷ "i" ∷ "|" ∷ "i" ∷ ":" ∷ "D" ∷ "," ∷ "a" ∷ "," ∷ "b" ∷ []), faults 10)
    ∷ (256, ("[" ∷ "i" ∷ "|" ∷ "3" ∷ []), faults 3)
    ∷ (256, ("[" ∷ "i" ∷ "|" ∷ "i" ∷ ":" ∷ "D" ∷ "," ∷ "," ∷ "]" ∷ []), faults 7)
    ∷ (256, ("[" ∷ "i" ∷ "|" ∷ "i" ∷ "," ∷ "3" ∷ []), faults 5)
    ∷ (256, ("[" ∷ "i" ∷ "|" ∷ "i" ∷ ":" ∷ "D" ∷ "|" ∷ []), faults 6)
    ∷ (256, ("M" ∷ "[" ∷ "i" ∷ "]" ∷ "[" ∷ "j" ∷ "]" ∷ []), takes 7)
    ∷ (256, ("M" ∷ "[" ∷ "i" ∷ "]" ∷ "[" ∷ ".." ∷ "]" ∷ "[" ∷ "j" ∷ "]" ∷ []), takes 10)
    ∷ (256, ("M" ∷ "[" ∷ "i" ∷ "," ∷ ".." ∷ "]" ∷ "[" ∷ "j" ∷ "," ∷ "k" ∷ "]" ∷ []), takes 11)
    ∷ (256, ("(" ∷ "M" ∷ "[" ∷ "i" ∷ "]" ∷ ")" ∷ "[" ∷ "j" ∷ "]" ∷ []), takes 9)
    ∷ (256, ("M" ∷ "[" ∷ "]" ∷ []), faults 2)
    ∷ (256, ("M" ∷ "[" ∷ "i" ∷ "," ∷ "]" ∷ []), faults 4)
    ∷ (256, ("M" ∷ "[" ∷ ".." ∷ "j" ∷ []), faults 3)
    ∷ (256, ("M" ∷ "[" ∷ "i" ∷ "]" ∷ "[" ∷ []), faults 5)
    ∷ (256, ("3" ∷ "[" ∷ "1" ∷ "]" ∷ []), takes 4)
    ∷ (256, ("-" ∷ "M" ∷ "[" ∷ "i" ∷ "]" ∷ []), takes 5) ∷ []

expressions-3 : wrong_rows expression 0 rows_of-expressions-3 ≡ []
unfolding the_language the_readers
expressions-3 = refl

-- heights, words, and what is answered where an expression is read
abbrev rows_of-expressions-4 : List Row
rows_of-expressions-4 =
    (256, ("a" ∷ "/\\" ∷ "b" ∷ "\\/" ∷ "c" ∷ "/\\" ∷ "d" ∷ "->" ∷ "e" ∷ []), takes 9)
    ∷ (256, ("a" ∷ "\\/" ∷ []), faults 2)
    ∷ (256, ("a" ∷ "+" ∷ "b" ∷ "-" ∷ "c" ∷ "*" ∷ "d" ∷ []), takes 7)
    ∷ (256, ("a" ∷ "and" ∷ []), takes 1)
    ∷ (256, ("find" ∷ []), faults 0)
    ∷ (256, ("true" ∷ "=" ∷ "false" ∷ []), takes 3)
    ∷ (1, ("x" ∷ []), takes 1)
    ∷ (1, ("(" ∷ "x" ∷ ")" ∷ []), rises 0)
    ∷ (1, ("[" ∷ "]" ∷ []), takes 2)
    ∷ (1, ("[" ∷ ";" ∷ "int" ∷ "]" ∷ []), rises 1)
    ∷ (1, ("[" ∷ "x" ∷ "]" ∷ []), rises 1)
    ∷ (1, ("[" ∷ ")" ∷ "]" ∷ []), faults 1)
    ∷ (1, ("x" ∷ "+" ∷ "1" ∷ []), rises 1)
    ∷ (1, ("x" ∷ "+" ∷ "+" ∷ ")" ∷ []), rises 1)
    ∷ (1, ("x" ∷ ")" ∷ []), takes 1)
    ∷ (1, ("sum" ∷ "i" ∷ ":" ∷ "D" ∷ "." ∷ "x" ∷ []), rises 0)
    ∷ (1, (")" ∷ []), faults 0)
    ∷ (2, ("x" ∷ "+" ∷ "(" ∷ "1" ∷ ")" ∷ []), rises 2)
    ∷ (3, ("x" ∷ "+" ∷ "(" ∷ "1" ∷ ")" ∷ []), takes 5)
    ∷ (3, ("a" ∷ "*" ∷ "b" ∷ "*" ∷ "c" ∷ "*" ∷ "d" ∷ []), rises 5)
    ∷ (4, ("a" ∷ "*" ∷ "b" ∷ "*" ∷ "c" ∷ "*" ∷ "d" ∷ []), takes 7)
    ∷ (2, ("a" ∷ "+" ∷ "b" ∷ "+" ∷ "c" ∷ "+" ∷ "d" ∷ []), takes 7)
    ∷ (2, ("(" ∷ "a" ∷ ")" ∷ "+" ∷ "b" ∷ []), rises 3)
    ∷ (2, ("M" ∷ "[" ∷ "i" ∷ "]" ∷ []), takes 4)
    ∷ (2, ("M" ∷ "[" ∷ "i" ∷ "]" ∷ "[" ∷ "j" ∷ "]" ∷ []), takes 7)
    ∷ (2, ("M" ∷ "[" ∷ ".." ∷ "]" ∷ "[" ∷ "j" ∷ "]" ∷ []), rises 4)
    ∷ (3, ("M" ∷ "[" ∷ ".." ∷ "]" ∷ "[" ∷ "j" ∷ "]" ∷ []), takes 7)
    ∷ (2, ("x" ∷ "in" ∷ "int" ∷ "(" ∷ "1" ∷ ".." ∷ "2" ∷ ")" ∷ []), rises 4)
    ∷ (3, ("x" ∷ "in" ∷ "int" ∷ "(" ∷ "1" ∷ ".." ∷ "2" ∷ ")" ∷ []), takes 8)
    ∷ (2, ("x" ∷ "in" ∷ "int" ∷ "(" ∷ ".." ∷ ")" ∷ []), takes 6) ∷ []

expressions-4 : wrong_rows expression 0 rows_of-expressions-4 ≡ []
unfolding the_language the_readers
expressions-4 = refl

-- heights, words, and what is answered where an expression is read
abbrev rows_of-expressions-5 : List Row
rows_of-expressions-5 =
    (2, ("x" ∷ "in" ∷ "(" ∷ "D" ∷ ")" ∷ []), rises 2)
    ∷ (2, ("-" ∷ "-" ∷ "x" ∷ []), rises 1)
    ∷ (2, ("[" ∷ "i" ∷ "|" ∷ "i" ∷ ":" ∷ "(" ∷ "D" ∷ ")" ∷ "]" ∷ []), rises 5)
    ∷ (2, ("a" ∷ "**" ∷ "b" ∷ "**" ∷ "c" ∷ []), rises 3)
    ∷ (2, ("a" ∷ "->" ∷ "b" ∷ "->" ∷ "c" ∷ []), rises 3)
    ∷ (2, ("a" ∷ "/\\" ∷ "b" ∷ "/\\" ∷ "c" ∷ []), takes 5)
    ∷ (2, ("a" ∷ "<" ∷ "(" ∷ "b" ∷ []), rises 2)
    ∷ (1, ("x" ∷ "<" ∷ []), rises 1)
    ∷ (2, ("min" ∷ "(" ∷ "(" ∷ "a" ∷ []), rises 2)
    ∷ (2, ("forAll" ∷ "i" ∷ ":" ∷ "D" ∷ "." ∷ "i" ∷ "=" ∷ "1" ∷ []), rises 6) ∷ []

expressions-5 : wrong_rows expression 0 rows_of-expressions-5 ≡ []
unfolding the_language the_readers
expressions-5 = refl

-- heights, words, and what is answered where a domain is read
abbrev rows_of-domains_read-1 : List Row
rows_of-domains_read-1 =
    (256, ("bool" ∷ []), takes 1)
    ∷ (256, ("int" ∷ []), takes 1)
    ∷ (256, ("int" ∷ "(" ∷ "1" ∷ ".." ∷ "5" ∷ "," ∷ "8" ∷ ")" ∷ []), takes 8)
    ∷ (256, ("int" ∷ "(" ∷ ".." ∷ ")" ∷ []), takes 4)
    ∷ (256, ("int" ∷ "(" ∷ ".." ∷ "," ∷ ".." ∷ "3" ∷ ")" ∷ []), takes 7)
    ∷ (256, ("int" ∷ "(" ∷ ")" ∷ []), faults 2)
    ∷ (256, ("int" ∷ "(" ∷ "1" ∷ []), faults 3)
    ∷ (256, ("int" ∷ "(" ∷ "1" ∷ "," ∷ ")" ∷ []), faults 4)
    ∷ (256, ("int" ∷ "(" ∷ "1" ∷ ".." ∷ ";" ∷ ")" ∷ []), faults 4)
    ∷ (256, ("matrix" ∷ "indexed" ∷ "by" ∷ "[" ∷ "int" ∷ "," ∷ "bool" ∷ "]" ∷ "of" ∷ "D" ∷ []), takes 10)
    ∷ (256, ("matrix" ∷ "indexed" ∷ "by" ∷ "[" ∷ "int" ∷ "]" ∷ "of" ∷ "matrix" ∷ "indexed" ∷ "by" ∷ "[" ∷ "bool" ∷ "]" ∷ "of" ∷ "D" ∷ []), takes 15)
    ∷ (256, ("matrix" ∷ "indexed" ∷ "[" ∷ []), faults 2)
    ∷ (256, ("matrix" ∷ "indexed" ∷ "by" ∷ "[" ∷ "]" ∷ []), faults 4)
    ∷ (256, ("matrix" ∷ "indexed" ∷ "by" ∷ "[" ∷ "int" ∷ "]" ∷ "of" ∷ ")" ∷ []), faults 7)
    ∷ (256, ("matrix" ∷ "indexed" ∷ "by" ∷ "[" ∷ "int" ∷ "]" ∷ "in" ∷ []), faults 6)
    ∷ (256, ("matrix" ∷ "indexed" ∷ "by" ∷ "[" ∷ "int" ∷ "]" ∷ "of" ∷ "matrix" ∷ "of" ∷ []), faults 8)
    ∷ (256, ("matrix" ∷ "indexed" ∷ "by" ∷ "[" ∷ "matrix" ∷ []), faults 4)
    ∷ (256, ("A" ∷ "union" ∷ "B" ∷ "-" ∷ "C" ∷ []), takes 5)
    ∷ (256, ("A" ∷ "union" ∷ []), faults 2)
    ∷ (256, ("(" ∷ "A" ∷ "union" ∷ "B" ∷ []), faults 4)
    ∷ (256, ("(" ∷ "matrix" ∷ []), faults 1)
    ∷ (256, ("3" ∷ []), faults 0)
    ∷ (256, ("D" ∷ "(" ∷ "3" ∷ ")" ∷ []), takes 1)
    ∷ (256, ("A" ∷ "minus" ∷ "B" ∷ []), takes 1)
    ∷ (1, ("int" ∷ "(" ∷ "3" ∷ ")" ∷ []), rises 2)
    ∷ (1, ("int" ∷ "(" ∷ ")" ∷ ")" ∷ []), faults 2)
    ∷ (2, ("int" ∷ "(" ∷ "3" ∷ ")" ∷ []), takes 4)
    ∷ (1, ("int" ∷ "(" ∷ ".." ∷ "3" ∷ ")" ∷ []), rises 3)
    ∷ (1, ("A" ∷ "-" ∷ "B" ∷ []), rises 1)
    ∷ (1, ("matrix" ∷ []), rises 0) ∷ []

domains_read-1 : wrong_rows domain 0 rows_of-domains_read-1 ≡ []
unfolding the_language the_readers
domains_read-1 = refl

-- heights, words, and what is answered where a domain is read
abbrev rows_of-domains_read-2 : List Row
rows_of-domains_read-2 =
    (2, ("matrix" ∷ "indexed" ∷ "by" ∷ "[" ∷ "A" ∷ "]" ∷ "of" ∷ "B" ∷ []), takes 8)
    ∷ (2, ("matrix" ∷ "indexed" ∷ "by" ∷ "[" ∷ "A" ∷ "-" ∷ "B" ∷ []), rises 5)
    ∷ (2, ("A" ∷ "-" ∷ "B" ∷ "-" ∷ "C" ∷ []), rises 3)
    ∷ (1, ("(" ∷ "A" ∷ ")" ∷ []), rises 0) ∷ []

domains_read-2 : wrong_rows domain 0 rows_of-domains_read-2 ≡ []
unfolding the_language the_readers
domains_read-2 = refl
