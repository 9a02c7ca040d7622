-- Trees that are read, computed by the checker; places aside.
use Rattle.std.specs.Prelude.{◌≡◌, true, false, List, [], ◌∷◌, pos, Option, Some, None, codes, refl}
use Rattle.ep_base.specs.declared.operators.CompareOp.{CompareOp}
use Rattle.ep_base.specs.declared.operators.LexOp.{LexOp}
use Prim.Native.String.{String}
use Rattle.ep_tree.proofs.Opened.{the_language}
use Rattle.ep_tree.specs.Placeless.{placeless, placeless_domain, somewhere}
use Rattle.ep_tree.specs.Spelling.{domains, implications}
use Rattle.ep_tree.specs.Trees.{DomainTree, ExprTree, absolute, all_different, all_of, at_least, at_most, binary, chain, compare, comprehension, domain_and, end_at, every_and, factorial, flatten, folded, gcc, generator_and, group, group_domain, in_set, index_and, lex, literal, matrix_domain, minus, named, named_domain, negation, no_domains, no_end, no_generators, no_indices, no_ranges, no_terms, no_trees, number, one_and, over, quantified, ranges, read, set_domain, span_and, table, term_and, to_int, tree_and, unstated}
use Rattle.ep_tree.specs.declared.syntax.BinaryOp.{BinaryOp}
use Rattle.ep_tree.specs.declared.syntax.FoldOp.{FoldOp}
use Rattle.ep_tree.specs.declared.syntax.QuantOp.{QuantOp}
use Rattle.ep_tree.specs.declared.syntax.SetOp.{SetOp}
use Rattle.ep_parse_expr.proofs.Vectors.{in_columns, the_readers}
use Rattle.ep_parse_parts.specs.Readers.{Read, took}
use Rattle.ep_parse_parts.specs.TreeReaders.{expr_from, some_domain_from}

-- what is read, where all tokens are
abbrev whole : {A : Type 0} → Read A → Option A
whole (took x []) = Some x
whole _ = None

-- the tree that words are read as
abbrev tree_of : List String → Option ExprTree
tree_of ws = whole (expr_from 256 implications (in_columns 1 ws))

abbrev without_places : Option ExprTree → Option ExprTree
without_places None = None
without_places (Some e) = Some (placeless e)

abbrev domain_without_places : Option DomainTree → Option DomainTree
domain_without_places None = None
domain_without_places (Some d) = Some (placeless_domain d)

-- the domain that words are read as
abbrev domain_of : List String → Option DomainTree
domain_of ws = whole (some_domain_from 256 domains (in_columns 1 ws))

-- `a <-> b`
tree-1 : without_places (tree_of ("a" ∷ "<->" ∷ "b" ∷ [])) ≡ Some (binary somewhere BinaryOp.Iff (named somewhere (codes "a")) (named somewhere (codes "b")))
unfolding the_language the_readers placeless
tree-1 = refl

-- `a -> b -> c`
tree-2 : without_places (tree_of ("a" ∷ "->" ∷ "b" ∷ "->" ∷ "c" ∷ [])) ≡ Some (binary somewhere BinaryOp.Implies (binary somewhere BinaryOp.Implies (named somewhere (codes "a")) (named somewhere (codes "b"))) (named somewhere (codes "c")))
unfolding the_language the_readers placeless
tree-2 = refl

-- `a ** b ** c`
tree-3 : without_places (tree_of ("a" ∷ "**" ∷ "b" ∷ "**" ∷ "c" ∷ [])) ≡ Some (binary somewhere BinaryOp.Pow (binary somewhere BinaryOp.Pow (named somewhere (codes "a")) (named somewhere (codes "b"))) (named somewhere (codes "c")))
unfolding the_language the_readers placeless
tree-3 = refl

-- `a / b % c`
tree-4 : without_places (tree_of ("a" ∷ "/" ∷ "b" ∷ "%" ∷ "c" ∷ [])) ≡ Some (binary somewhere BinaryOp.Mod (binary somewhere BinaryOp.Div (named somewhere (codes "a")) (named somewhere (codes "b"))) (named somewhere (codes "c")))
unfolding the_language the_readers placeless
tree-4 = refl

-- `a = b`
tree-5 : without_places (tree_of ("a" ∷ "=" ∷ "b" ∷ [])) ≡ Some (compare somewhere CompareOp.Equal (named somewhere (codes "a")) (named somewhere (codes "b")))
unfolding the_language the_readers placeless
tree-5 = refl

-- `a != b`
tree-6 : without_places (tree_of ("a" ∷ "!=" ∷ "b" ∷ [])) ≡ Some (compare somewhere CompareOp.NotEqual (named somewhere (codes "a")) (named somewhere (codes "b")))
unfolding the_language the_readers placeless
tree-6 = refl

-- `a < b`
tree-7 : without_places (tree_of ("a" ∷ "<" ∷ "b" ∷ [])) ≡ Some (compare somewhere CompareOp.Less (named somewhere (codes "a")) (named somewhere (codes "b")))
unfolding the_language the_readers placeless
tree-7 = refl

-- `a <= b`
tree-8 : without_places (tree_of ("a" ∷ "<=" ∷ "b" ∷ [])) ≡ Some (compare somewhere CompareOp.AtMost (named somewhere (codes "a")) (named somewhere (codes "b")))
unfolding the_language the_readers placeless
tree-8 = refl

-- `a > b`
tree-9 : without_places (tree_of ("a" ∷ ">" ∷ "b" ∷ [])) ≡ Some (compare somewhere CompareOp.Greater (named somewhere (codes "a")) (named somewhere (codes "b")))
unfolding the_language the_readers placeless
tree-9 = refl

-- `a >= b`
tree-10 : without_places (tree_of ("a" ∷ ">=" ∷ "b" ∷ [])) ≡ Some (compare somewhere CompareOp.AtLeast (named somewhere (codes "a")) (named somewhere (codes "b")))
unfolding the_language the_readers placeless
tree-10 = refl

-- `a <lex b`
tree-11 : without_places (tree_of ("a" ∷ "<lex" ∷ "b" ∷ [])) ≡ Some (lex somewhere LexOp.Less (named somewhere (codes "a")) (named somewhere (codes "b")))
unfolding the_language the_readers placeless
tree-11 = refl

-- `a <=lex b`
tree-12 : without_places (tree_of ("a" ∷ "<=lex" ∷ "b" ∷ [])) ≡ Some (lex somewhere LexOp.AtMost (named somewhere (codes "a")) (named somewhere (codes "b")))
unfolding the_language the_readers placeless
tree-12 = refl

-- `a >lex b`
tree-13 : without_places (tree_of ("a" ∷ ">lex" ∷ "b" ∷ [])) ≡ Some (lex somewhere LexOp.Greater (named somewhere (codes "a")) (named somewhere (codes "b")))
unfolding the_language the_readers placeless
tree-13 = refl

-- `a >=lex b`
tree-14 : without_places (tree_of ("a" ∷ ">=lex" ∷ "b" ∷ [])) ≡ Some (lex somewhere LexOp.AtLeast (named somewhere (codes "a")) (named somewhere (codes "b")))
unfolding the_language the_readers placeless
tree-14 = refl

-- `a in toSet ( m )`
tree-15 : without_places (tree_of ("a" ∷ "in" ∷ "toSet" ∷ "(" ∷ "m" ∷ ")" ∷ [])) ≡ Some (in_set somewhere (named somewhere (codes "a")) (named somewhere (codes "m")))
unfolding the_language the_readers placeless
tree-15 = refl

-- `exists i , j : D . i`
tree-16 : without_places (tree_of ("exists" ∷ "i" ∷ "," ∷ "j" ∷ ":" ∷ "D" ∷ "." ∷ "i" ∷ [])) ≡ Some (quantified somewhere QuantOp.Exists (codes "i" ∷ codes "j" ∷ []) (named_domain somewhere (codes "D")) (named somewhere (codes "i")))
unfolding the_language the_readers placeless
tree-16 = refl

-- `sum i : D . a + b`
tree-17 : without_places (tree_of ("sum" ∷ "i" ∷ ":" ∷ "D" ∷ "." ∷ "a" ∷ "+" ∷ "b" ∷ [])) ≡ Some (quantified somewhere QuantOp.Sum (codes "i" ∷ []) (named_domain somewhere (codes "D")) (chain somewhere (term_and true (named somewhere (codes "a")) (term_and true (named somewhere (codes "b")) no_terms))))
unfolding the_language the_readers placeless
tree-17 = refl

-- `flatten ( m )`
tree-18 : without_places (tree_of ("flatten" ∷ "(" ∷ "m" ∷ ")" ∷ [])) ≡ Some (flatten somewhere (named somewhere (codes "m")))
unfolding the_language the_readers placeless
tree-18 = refl

-- `sum ( m )`
tree-19 : without_places (tree_of ("sum" ∷ "(" ∷ "m" ∷ ")" ∷ [])) ≡ Some (folded somewhere FoldOp.Sum (named somewhere (codes "m")))
unfolding the_language the_readers placeless
tree-19 = refl

-- `product ( m )`
tree-20 : without_places (tree_of ("product" ∷ "(" ∷ "m" ∷ ")" ∷ [])) ≡ Some (folded somewhere FoldOp.Product (named somewhere (codes "m")))
unfolding the_language the_readers placeless
tree-20 = refl

-- `and ( m )`
tree-21 : without_places (tree_of ("and" ∷ "(" ∷ "m" ∷ ")" ∷ [])) ≡ Some (folded somewhere FoldOp.And (named somewhere (codes "m")))
unfolding the_language the_readers placeless
tree-21 = refl

-- `or ( m )`
tree-22 : without_places (tree_of ("or" ∷ "(" ∷ "m" ∷ ")" ∷ [])) ≡ Some (folded somewhere FoldOp.Or (named somewhere (codes "m")))
unfolding the_language the_readers placeless
tree-22 = refl

-- `min ( m )`
tree-23 : without_places (tree_of ("min" ∷ "(" ∷ "m" ∷ ")" ∷ [])) ≡ Some (folded somewhere FoldOp.Min (named somewhere (codes "m")))
unfolding the_language the_readers placeless
tree-23 = refl

-- `max ( m )`
tree-24 : without_places (tree_of ("max" ∷ "(" ∷ "m" ∷ ")" ∷ [])) ≡ Some (folded somewhere FoldOp.Max (named somewhere (codes "m")))
unfolding the_language the_readers placeless
tree-24 = refl

-- `max ( a , b )`
tree-25 : without_places (tree_of ("max" ∷ "(" ∷ "a" ∷ "," ∷ "b" ∷ ")" ∷ [])) ≡ Some (binary somewhere BinaryOp.Max (named somewhere (codes "a")) (named somewhere (codes "b")))
unfolding the_language the_readers placeless
tree-25 = refl

-- `min ( a , b )`
tree-26 : without_places (tree_of ("min" ∷ "(" ∷ "a" ∷ "," ∷ "b" ∷ ")" ∷ [])) ≡ Some (binary somewhere BinaryOp.Min (named somewhere (codes "a")) (named somewhere (codes "b")))
unfolding the_language the_readers placeless
tree-26 = refl

-- `allDiff ( m )`
tree-27 : without_places (tree_of ("allDiff" ∷ "(" ∷ "m" ∷ ")" ∷ [])) ≡ Some (all_different somewhere (named somewhere (codes "m")))
unfolding the_language the_readers placeless
tree-27 = refl

-- `factorial ( a )`
tree-28 : without_places (tree_of ("factorial" ∷ "(" ∷ "a" ∷ ")" ∷ [])) ≡ Some (factorial somewhere (named somewhere (codes "a")))
unfolding the_language the_readers placeless
tree-28 = refl

-- `toInt ( a )`
tree-29 : without_places (tree_of ("toInt" ∷ "(" ∷ "a" ∷ ")" ∷ [])) ≡ Some (to_int somewhere (named somewhere (codes "a")))
unfolding the_language the_readers placeless
tree-29 = refl

-- `table ( a , b )`
tree-30 : without_places (tree_of ("table" ∷ "(" ∷ "a" ∷ "," ∷ "b" ∷ ")" ∷ [])) ≡ Some (table somewhere (named somewhere (codes "a")) (named somewhere (codes "b")))
unfolding the_language the_readers placeless
tree-30 = refl

-- `gcc ( m , v , c )`
tree-31 : without_places (tree_of ("gcc" ∷ "(" ∷ "m" ∷ "," ∷ "v" ∷ "," ∷ "c" ∷ ")" ∷ [])) ≡ Some (gcc somewhere (named somewhere (codes "m")) (named somewhere (codes "v")) (named somewhere (codes "c")))
unfolding the_language the_readers placeless
tree-31 = refl

-- `atleast ( m , c , v )`
tree-32 : without_places (tree_of ("atleast" ∷ "(" ∷ "m" ∷ "," ∷ "c" ∷ "," ∷ "v" ∷ ")" ∷ [])) ≡ Some (at_least somewhere (named somewhere (codes "m")) (named somewhere (codes "c")) (named somewhere (codes "v")))
unfolding the_language the_readers placeless
tree-32 = refl

-- `atmost ( m , c , v )`
tree-33 : without_places (tree_of ("atmost" ∷ "(" ∷ "m" ∷ "," ∷ "c" ∷ "," ∷ "v" ∷ ")" ∷ [])) ≡ Some (at_most somewhere (named somewhere (codes "m")) (named somewhere (codes "c")) (named somewhere (codes "v")))
unfolding the_language the_readers placeless
tree-33 = refl

-- `[ ; D ]`
tree-34 : without_places (tree_of ("[" ∷ ";" ∷ "D" ∷ "]" ∷ [])) ≡ Some (literal somewhere no_trees (over (named_domain somewhere (codes "D"))))
unfolding the_language the_readers placeless
tree-34 = refl

-- `[ e | i : D ]`
tree-35 : without_places (tree_of ("[" ∷ "e" ∷ "|" ∷ "i" ∷ ":" ∷ "D" ∷ "]" ∷ [])) ≡ Some (comprehension somewhere (named somewhere (codes "e")) (generator_and (codes "i" ∷ []) (named_domain somewhere (codes "D")) no_generators) no_trees unstated)
unfolding the_language the_readers placeless
tree-35 = refl

-- `[ e | i : D , a , b ]`
tree-36 : without_places (tree_of ("[" ∷ "e" ∷ "|" ∷ "i" ∷ ":" ∷ "D" ∷ "," ∷ "a" ∷ "," ∷ "b" ∷ "]" ∷ [])) ≡ Some (comprehension somewhere (named somewhere (codes "e")) (generator_and (codes "i" ∷ []) (named_domain somewhere (codes "D")) no_generators) (tree_and (named somewhere (codes "a")) (tree_and (named somewhere (codes "b")) no_trees)) unstated)
unfolding the_language the_readers placeless
tree-36 = refl

-- `M [ i , .. ]`
tree-37 : without_places (tree_of ("M" ∷ "[" ∷ "i" ∷ "," ∷ ".." ∷ "]" ∷ [])) ≡ Some (read somewhere (named somewhere (codes "M")) (index_and (named somewhere (codes "i")) (every_and no_indices)))
unfolding the_language the_readers placeless
tree-37 = refl

-- `M [ .. , j ]`
tree-38 : without_places (tree_of ("M" ∷ "[" ∷ ".." ∷ "," ∷ "j" ∷ "]" ∷ [])) ≡ Some (read somewhere (named somewhere (codes "M")) (every_and (index_and (named somewhere (codes "j")) no_indices)))
unfolding the_language the_readers placeless
tree-38 = refl

-- `M [ i ] [ j , .. ]`
tree-39 : without_places (tree_of ("M" ∷ "[" ∷ "i" ∷ "]" ∷ "[" ∷ "j" ∷ "," ∷ ".." ∷ "]" ∷ [])) ≡ Some (read somewhere (named somewhere (codes "M")) (index_and (named somewhere (codes "i")) (index_and (named somewhere (codes "j")) (every_and no_indices))))
unfolding the_language the_readers placeless
tree-39 = refl

-- `( M [ i ] ) [ j ]`
tree-40 : without_places (tree_of ("(" ∷ "M" ∷ "[" ∷ "i" ∷ "]" ∷ ")" ∷ "[" ∷ "j" ∷ "]" ∷ [])) ≡ Some (read somewhere (group somewhere (read somewhere (named somewhere (codes "M")) (index_and (named somewhere (codes "i")) no_indices))) (index_and (named somewhere (codes "j")) no_indices))
unfolding the_language the_readers placeless
tree-40 = refl

-- `M [ i ] [ .. ] [ j ]`
tree-41 : without_places (tree_of ("M" ∷ "[" ∷ "i" ∷ "]" ∷ "[" ∷ ".." ∷ "]" ∷ "[" ∷ "j" ∷ "]" ∷ [])) ≡ Some (read somewhere (read somewhere (named somewhere (codes "M")) (index_and (named somewhere (codes "i")) (every_and no_indices))) (index_and (named somewhere (codes "j")) no_indices))
unfolding the_language the_readers placeless
tree-41 = refl

-- `! a /\ - b`
tree-42 : without_places (tree_of ("!" ∷ "a" ∷ "/\\" ∷ "-" ∷ "b" ∷ [])) ≡ Some (all_of somewhere (tree_and (negation somewhere (named somewhere (codes "a"))) (tree_and (minus somewhere (named somewhere (codes "b"))) no_trees)))
unfolding the_language the_readers placeless
tree-42 = refl

-- `- a ** b`
tree-43 : without_places (tree_of ("-" ∷ "a" ∷ "**" ∷ "b" ∷ [])) ≡ Some (binary somewhere BinaryOp.Pow (minus somewhere (named somewhere (codes "a"))) (named somewhere (codes "b")))
unfolding the_language the_readers placeless
tree-43 = refl

-- `| a | - 1`
tree-44 : without_places (tree_of ("|" ∷ "a" ∷ "|" ∷ "-" ∷ "1" ∷ [])) ≡ Some (chain somewhere (term_and true (absolute somewhere (named somewhere (codes "a"))) (term_and false (number somewhere (pos 1)) no_terms)))
unfolding the_language the_readers placeless
tree-44 = refl

-- `matrix indexed by [ A ] of matrix indexed by [ B , C ] of D`
domain-1 : domain_without_places (domain_of ("matrix" ∷ "indexed" ∷ "by" ∷ "[" ∷ "A" ∷ "]" ∷ "of" ∷ "matrix" ∷ "indexed" ∷ "by" ∷ "[" ∷ "B" ∷ "," ∷ "C" ∷ "]" ∷ "of" ∷ "D" ∷ [])) ≡ Some (matrix_domain somewhere (domain_and (named_domain somewhere (codes "A")) (domain_and (named_domain somewhere (codes "B")) (domain_and (named_domain somewhere (codes "C")) no_domains))) (named_domain somewhere (codes "D")))
unfolding the_language the_readers placeless
domain-1 = refl

-- `A - B intersect ( C )`
domain-2 : domain_without_places (domain_of ("A" ∷ "-" ∷ "B" ∷ "intersect" ∷ "(" ∷ "C" ∷ ")" ∷ [])) ≡ Some (set_domain somewhere SetOp.Intersect (set_domain somewhere SetOp.Minus (named_domain somewhere (codes "A")) (named_domain somewhere (codes "B"))) (group_domain somewhere (named_domain somewhere (codes "C"))))
unfolding the_language the_readers placeless
domain-2 = refl

-- `int ( 1 .. , .. 2 , .. , 3 )`
domain-3 : domain_without_places (domain_of ("int" ∷ "(" ∷ "1" ∷ ".." ∷ "," ∷ ".." ∷ "2" ∷ "," ∷ ".." ∷ "," ∷ "3" ∷ ")" ∷ [])) ≡ Some (ranges somewhere (span_and (end_at (number somewhere (pos 1))) no_end (span_and no_end (end_at (number somewhere (pos 2))) (span_and no_end no_end (one_and (number somewhere (pos 3)) no_ranges)))))
unfolding the_language the_readers placeless
domain-3 = refl
