-- The words in which a tree is written: one of the ways in which it may be spelled.
--
-- There is no comma behind the last clause of a statement, the indices of a read stand in one pair of brackets, and all
-- index domains of a matrix domain stand behind one `matrix`.
use Rattle.std.specs.Prelude.{ℕ, Bool, List, [], ◌∷◌, ◌++◌, map, codes, Option, Some, None}
use Rattle.std.specs.Fmt.{signed_decimal}
use Rattle.ep_base.specs.declared.names.Name.{Name}
use Rattle.ep_base.specs.declared.operators.Sense.{Sense}
use Rattle.ep_base.specs.declared.places.Place.{Place}
use Prim.Native.String.{String}
use Rattle.ep_tree.specs.Spelling.{binary_word, compare_word, fold_word, is_called, lex_word, quantifier_word, set_word, sign_word, truth_word}
use Rattle.ep_tree.specs.Statements.{Group, StatementTree, branching, constraints, decided, domain_letting, given, heuristic, letting, objective, requirements}
use Rattle.ep_tree.specs.Trees.{DomainTree, Domains, End, ExprTree, ExprTrees, Generators, IndexDomain, Indices, Ranges, Terms, absolute, all_different, all_of, any_of, at_least, at_most, binary, bool, chain, compare, comprehension, domain_and, end_at, every_and, factorial, flatten, folded, gcc, generator_and, group, group_domain, in_domain, in_set, index_and, int, lex, literal, matrix_domain, minus, named, named_domain, negation, no_domains, no_end, no_generators, no_indices, no_ranges, no_terms, no_trees, number, one_and, over, quantified, ranges, read, set_domain, span_and, table, term_and, to_int, tree_and, truth, unstated}
use Rattle.ep_print.specs.Joining.{with_between}

-- words in their order
abbrev pub Words : Type 0
Words = List (List ℕ)

-- one word or symbol of the language
abbrev pub word : String → Words
word text = codes text ∷ []

-- words with something of the language between any two
abbrev pub parted : String → List Words → Words
parted text = with_between (word text)

-- names with commas between them
abbrev pub name_words : List Name → Words
name_words names = parted "," (map (λ name. name ∷ []) names)

-- a function's name and its parts in brackets
abbrev pub call_words : String → List Words → Words
call_words text parts = word text ++ (word "(" ++ (parted "," parts ++ word ")"))

-- two parts with an operator between them, or behind a function's name
unfoldable pub binary_words : Bool → String → Words → Words → Words
binary_words Bool.true text a b = call_words text (a ∷ b ∷ [])
binary_words Bool.false text a b = a ++ (word text ++ b)

unfoldable mutual
  -- an expression
  pub expr_words : ExprTree → Words
  expr_words (number _ n) = signed_decimal n ∷ []
  expr_words (truth _ b) = word (truth_word b)
  expr_words (named _ name) = name ∷ []
  expr_words (group _ e) = word "(" ++ (expr_words e ++ word ")")
  expr_words (negation _ e) = word "!" ++ expr_words e
  expr_words (minus _ e) = word "-" ++ expr_words e
  expr_words (absolute _ e) = word "|" ++ (expr_words e ++ word "|")
  expr_words (to_int _ e) = call_words "toInt" (expr_words e ∷ [])
  expr_words (factorial _ e) = call_words "factorial" (expr_words e ∷ [])
  expr_words (flatten _ m) = call_words "flatten" (expr_words m ∷ [])
  expr_words (chain _ terms) = chain_words terms
  expr_words (binary _ op a b) = binary_words (is_called op) (binary_word op) (expr_words a) (expr_words b)
  expr_words (compare _ op a b) = expr_words a ++ (word (compare_word op) ++ expr_words b)
  expr_words (lex _ op a b) = expr_words a ++ (word (lex_word op) ++ expr_words b)
  expr_words (in_domain _ e d) = expr_words e ++ (word "in" ++ domain_words d)
  expr_words (in_set _ e m) = expr_words e ++ (word "in" ++ call_words "toSet" (expr_words m ∷ []))
  expr_words (all_of _ parts) = parted "/\\" (all_words parts)
  expr_words (any_of _ parts) = parted "\\/" (all_words parts)
  expr_words (quantified _ op names d e) =
      word (quantifier_word op) ++ (name_words names ++ (word ":" ++ (domain_words d ++ (word "." ++ expr_words e))))
  expr_words (literal _ parts d) = word "[" ++ (parted "," (all_words parts) ++ (index_domain_words d ++ word "]"))
  expr_words (comprehension _ e gens conditions d) =
      word "[" ++ (expr_words e ++ (word "|" ++ (parted "," (generator_words gens ++ all_words conditions)
      ++ (index_domain_words d ++ word "]"))))
  expr_words (read _ m indices) = expr_words m ++ (word "[" ++ (parted "," (index_words indices) ++ word "]"))
  expr_words (folded _ op m) = call_words (fold_word op) (expr_words m ∷ [])
  expr_words (all_different _ m) = call_words "allDiff" (expr_words m ∷ [])
  expr_words (gcc _ m values counts) = call_words "gcc" (expr_words m ∷ expr_words values ∷ expr_words counts ∷ [])
  expr_words (at_least _ m counts values) =
      call_words "atleast" (expr_words m ∷ expr_words counts ∷ expr_words values ∷ [])
  expr_words (at_most _ m counts values) =
      call_words "atmost" (expr_words m ∷ expr_words counts ∷ expr_words values ∷ [])
  expr_words (table _ row rows) = call_words "table" (expr_words row ∷ expr_words rows ∷ [])

  -- a domain
  pub domain_words : DomainTree → Words
  domain_words (bool _) = word "bool"
  domain_words (int _) = word "int"
  domain_words (ranges _ rs) = call_words "int" (range_words rs)
  domain_words (named_domain _ name) = name ∷ []
  domain_words (group_domain _ d) = word "(" ++ (domain_words d ++ word ")")
  domain_words (set_domain _ op c d) = domain_words c ++ (word (set_word op) ++ domain_words d)
  domain_words (matrix_domain _ ds d) =
      word "matrix" ++ (word "indexed" ++ (word "by" ++ (word "[" ++ (parted "," (all_domain_words ds)
      ++ (word "]" ++ (word "of" ++ domain_words d))))))

  -- a chain of sums, the first term without its sign
  pub chain_words : Terms → Words
  chain_words no_terms = []
  chain_words (term_and _ e terms) = expr_words e ++ term_words terms

  -- terms with their signs
  pub term_words : Terms → Words
  term_words no_terms = []
  term_words (term_and plus e terms) = word (sign_word plus) ++ (expr_words e ++ term_words terms)

  -- each of some expressions
  pub all_words : ExprTrees → List Words
  all_words no_trees = []
  all_words (tree_and e es) = expr_words e ∷ all_words es

  -- the domain of a list's indices behind a semicolon, or nothing
  pub index_domain_words : IndexDomain → Words
  index_domain_words unstated = []
  index_domain_words (over d) = word ";" ++ domain_words d

  -- each of some generators
  pub generator_words : Generators → List Words
  generator_words no_generators = []
  generator_words (generator_and names d gens) =
      (name_words names ++ (word ":" ++ domain_words d)) ∷ generator_words gens

  -- each of some indices
  pub index_words : Indices → List Words
  index_words no_indices = []
  index_words (every_and indices) = word ".." ∷ index_words indices
  index_words (index_and e indices) = expr_words e ∷ index_words indices

  -- each of some ranges
  pub range_words : Ranges → List Words
  range_words no_ranges = []
  range_words (one_and e rs) = expr_words e ∷ range_words rs
  range_words (span_and a b rs) = (end_words a ++ (word ".." ++ end_words b)) ∷ range_words rs

  -- an end of a range, or nothing
  pub end_words : End → Words
  end_words no_end = []
  end_words (end_at e) = expr_words e

  -- each of some domains
  pub all_domain_words : Domains → List Words
  all_domain_words no_domains = []
  all_domain_words (domain_and d ds) = domain_words d ∷ all_domain_words ds

-- names with their places, of which the places aren't written
abbrev pub words_of_placed : List (Name × Place) → Words
words_of_placed names = name_words (map (λ entry. entry.0) names)

-- names that are declared together
unfoldable pub group_words : Group → Words
group_words g = words_of_placed g.names ++ (word ":" ++ domain_words g.domain)

-- the domain that a letting states, or nothing
unfoldable pub stated_words : Option DomainTree → Words
stated_words None = []
stated_words (Some d) = word ":" ++ domain_words d

-- the word of an objective
unfoldable pub sense_word : Sense → String
sense_word Sense.Minimising = "minimising"
sense_word Sense.Maximising = "maximising"

-- a statement
unfoldable pub statement_words : StatementTree → Words
statement_words (given _ groups) = word "given" ++ parted "," (map group_words groups)
statement_words (decided _ groups) = word "find" ++ parted "," (map group_words groups)
statement_words (letting _ name _ d e) =
    word "letting" ++ ((name ∷ []) ++ (stated_words d ++ (word "be" ++ expr_words e)))
statement_words (domain_letting _ name _ d) =
    word "letting" ++ ((name ∷ []) ++ (word "be" ++ (word "domain" ++ domain_words d)))
statement_words (requirements _ es) = word "where" ++ parted "," (map expr_words es)
statement_words (constraints _ es) = word "such" ++ (word "that" ++ parted "," (map expr_words es))
statement_words (objective _ sense e) = word (sense_word sense) ++ expr_words e
statement_words (branching _ names) =
    word "branching" ++ (word "on" ++ (word "[" ++ (words_of_placed names ++ word "]")))
statement_words (heuristic _ name) = word "heuristic" ++ (name ∷ [])
