-- Which lists of tokens spell which expression or domain: the grammar, with one case for each of its rules.
--
-- Operators bind, tightest first: the indices of a read; unary `!` and `-`, and quantifiers; `**`; `*`, `/` and `%`;
-- `+` and `-`; comparisons, lexicographic ones too, and `in`; `/\`; `\/`; `->` and `<->`. Chains of `+` and `-`, of
-- `/\` and of `\/` are one node with many parts, all other chains nest to the left, and comparisons make no chain.
-- The body of a quantifier reaches as far right as it can. The forms are those of the language's public description,
-- without those that are left out here; the whole order, and that `**` and `->` nest to the left, is this project's
-- own choice.
use Rattle.std.specs.Prelude.{ℕ, Bool, true, false, not, ◌&&◌, if◌then◌else◌, nat_le}
use Rattle.ep_base.specs.declared.operators.CompareOp.{CompareOp}
use Rattle.ep_base.specs.declared.operators.LexOp.{LexOp}
use Prim.Native.String.{String}
use Rattle.ep_tree.specs.Phrases.{Choice, From, Is, Names, Nothing, Phrase, Says, Silence, When, a_name, a_number, ◌followed_by◌, ◌or_else◌}
use Rattle.ep_tree.specs.Trees.{DomainTree, Domains, End, ExprTree, ExprTrees, Generators, IndexDomain, Indices, Ranges, Terms, absolute, all_different, all_of, any_of, at_least, at_most, binary, bool, chain, compare, comprehension, domain_and, end_at, every_and, factorial, flatten, folded, gcc, generator_and, group, group_domain, in_domain, in_set, index_and, int, lex, literal, matrix_domain, minus, named, named_domain, negation, no_domains, no_end, no_generators, no_indices, no_ranges, no_terms, no_trees, number, one_and, over, place_of, place_of_domain, quantified, ranges, read, set_domain, span_and, table, term_and, to_int, tree_and, truth, unstated}
use Rattle.ep_tree.specs.declared.syntax.BinaryOp.{BinaryOp}
use Rattle.ep_tree.specs.declared.syntax.FoldOp.{FoldOp}
use Rattle.ep_tree.specs.declared.syntax.QuantOp.{QuantOp}
use Rattle.ep_tree.specs.declared.syntax.SetOp.{SetOp}

-- how tightly a place in the text binds, loosest first
pub data Level : Type 0 where
  implications : Level
  disjunctions : Level
  conjunctions : Level
  comparisons : Level
  sums : Level
  products : Level
  powers : Level
  unaries : Level
  reads : Level
  primaries : Level

-- the rank of a level: what binds tighter has the greater one
unfoldable pub rank : Level → ℕ
rank implications = 0
rank disjunctions = 1
rank conjunctions = 2
rank comparisons = 3
rank sums = 4
rank products = 5
rank powers = 6
rank unaries = 7
rank reads = 8
rank primaries = 9

-- the next tighter level
unfoldable pub tighter : Level → Level
tighter implications = disjunctions
tighter disjunctions = conjunctions
tighter conjunctions = comparisons
tighter comparisons = sums
tighter sums = products
tighter products = powers
tighter powers = unaries
tighter unaries = reads
tighter reads = primaries
tighter primaries = primaries

-- the level of two parts with an operator, or of two parts in brackets behind a function's name
unfoldable pub binary_level : BinaryOp → Level
binary_level BinaryOp.Mul = products
binary_level BinaryOp.Div = products
binary_level BinaryOp.Mod = products
binary_level BinaryOp.Pow = powers
binary_level BinaryOp.Min = primaries
binary_level BinaryOp.Max = primaries
binary_level BinaryOp.Implies = implications
binary_level BinaryOp.Iff = implications

-- whether two parts stand in brackets behind a function's name
unfoldable pub is_called : BinaryOp → Bool
is_called BinaryOp.Min = true
is_called BinaryOp.Max = true
is_called _ = false

-- the level of an expression, which is that of its outermost form
unfoldable pub own_level : ExprTree → Level
own_level (negation _ _) = unaries
own_level (minus _ _) = unaries
own_level (chain _ _) = sums
own_level (binary _ op _ _) = binary_level op
own_level (compare _ _ _ _) = comparisons
own_level (lex _ _ _ _) = comparisons
own_level (in_domain _ _ _) = comparisons
own_level (in_set _ _ _) = comparisons
own_level (all_of _ _) = conjunctions
own_level (any_of _ _) = disjunctions
own_level (quantified _ _ _ _ _) = unaries
own_level (read _ _ _) = reads
own_level _ = primaries

-- An expression stands where a level is asked for: its own level is as tight, and its first token stands at its place.
abbrev pub At : Level → ExprTree → Phrase → Phrase
At asked e phrase = When (nat_le (rank asked) (rank (own_level e))) (From (place_of e) phrase)

-- where a domain stands: where a matrix domain may, where set operations may, or where neither may
pub data DomainLevel : Type 0 where
  domains : DomainLevel
  set_operations : DomainLevel
  set_parts : DomainLevel

-- the rank of such a place
unfoldable pub domain_rank : DomainLevel → ℕ
domain_rank domains = 0
domain_rank set_operations = 1
domain_rank set_parts = 2

-- an expression in which any operator may stand
abbrev pub Whole : ExprTree → Phrase → Phrase
Whole = At implications

-- the level of a domain
unfoldable pub own_domain_level : DomainTree → DomainLevel
own_domain_level (set_domain _ _ _ _) = set_operations
own_domain_level (matrix_domain _ _ _) = domains
own_domain_level _ = set_parts

-- A domain stands where a level is asked for: its own level is as tight, and its first token stands at its place.
abbrev pub DomainAt : DomainLevel → DomainTree → Phrase → Phrase
DomainAt asked d phrase =
    When (nat_le (domain_rank asked) (domain_rank (own_domain_level d))) (From (place_of_domain d) phrase)

-- a domain in which operations may stand, and which is no matrix domain
abbrev pub OfNumbers : DomainTree → Phrase → Phrase
OfNumbers = DomainAt set_operations

-- the word of an operator of two parts
unfoldable pub binary_word : BinaryOp → String
binary_word BinaryOp.Mul = "*"
binary_word BinaryOp.Div = "/"
binary_word BinaryOp.Mod = "%"
binary_word BinaryOp.Pow = "**"
binary_word BinaryOp.Min = "min"
binary_word BinaryOp.Max = "max"
binary_word BinaryOp.Implies = "->"
binary_word BinaryOp.Iff = "<->"

-- the symbol of a comparison
unfoldable pub compare_word : CompareOp → String
compare_word CompareOp.Equal = "="
compare_word CompareOp.NotEqual = "!="
compare_word CompareOp.Less = "<"
compare_word CompareOp.AtMost = "<="
compare_word CompareOp.Greater = ">"
compare_word CompareOp.AtLeast = ">="

-- the symbol of a lexicographic comparison
unfoldable pub lex_word : LexOp → String
lex_word LexOp.Less = "<lex"
lex_word LexOp.AtMost = "<=lex"
lex_word LexOp.Greater = ">lex"
lex_word LexOp.AtLeast = ">=lex"

-- the word of a quantifier
unfoldable pub quantifier_word : QuantOp → String
quantifier_word QuantOp.ForAll = "forAll"
quantifier_word QuantOp.Exists = "exists"
quantifier_word QuantOp.Sum = "sum"

-- the word of a function that folds a matrix
unfoldable pub fold_word : FoldOp → String
fold_word FoldOp.Sum = "sum"
fold_word FoldOp.Product = "product"
fold_word FoldOp.And = "and"
fold_word FoldOp.Or = "or"
fold_word FoldOp.Min = "min"
fold_word FoldOp.Max = "max"

-- the word of an operation on domains
unfoldable pub set_word : SetOp → String
set_word SetOp.Union = "union"
set_word SetOp.Intersect = "intersect"
set_word SetOp.Minus = "-"

-- the sign of a term
unfoldable pub sign_word : Bool → String
sign_word true = "+"
sign_word false = "-"

-- the word of a truth value
unfoldable pub truth_word : Bool → String
truth_word true = "true"
truth_word false = "false"

-- whether there are terms
unfoldable pub has_terms : Terms → Bool
has_terms no_terms = false
has_terms (term_and _ _ _) = true

-- whether there are expressions
unfoldable pub has_trees : ExprTrees → Bool
has_trees no_trees = false
has_trees (tree_and _ _) = true

-- whether the last part of an expression is a quantifier without brackets around it
unfoldable mutual
  pub ends_open : ExprTree → Bool
  ends_open (negation _ e) = ends_open e
  ends_open (minus _ e) = ends_open e
  ends_open (chain _ terms) = terms_end_open terms
  ends_open (binary _ BinaryOp.Min a b) = false
  ends_open (binary _ BinaryOp.Max a b) = false
  ends_open (binary _ _ a b) = ends_open b
  ends_open (compare _ _ a b) = ends_open b
  ends_open (lex _ _ a b) = ends_open b
  ends_open (all_of _ parts) = trees_end_open parts
  ends_open (any_of _ parts) = trees_end_open parts
  ends_open (quantified _ _ _ _ _) = true
  ends_open _ = false

  -- whether the last of some terms ends so
  pub terms_end_open : Terms → Bool
  terms_end_open no_terms = false
  terms_end_open (term_and _ e terms) = if has_terms terms then terms_end_open terms else ends_open e

  -- whether the last of some expressions ends so
  pub trees_end_open : ExprTrees → Bool
  trees_end_open no_trees = false
  trees_end_open (tree_and e es) = if has_trees es then trees_end_open es else ends_open e

-- An operand that an operator follows doesn't end in a bare quantifier: the operator would belong to its body.
abbrev pub Closed : ExprTree → Phrase → Phrase
Closed e phrase = When (not (ends_open e)) phrase

-- an operand that an operator follows where more operands do
abbrev pub ClosedBefore : Bool → ExprTree → Phrase → Phrase
ClosedBefore others e phrase = When (not (others && ends_open e)) phrase

-- whether some indices have a `..`
unfoldable pub has_every : Indices → Bool
has_every no_indices = false
has_every (every_and _) = true
has_every (index_and _ indices) = has_every indices

-- Whether an expression may stand before a bracket group that isn't joined with a group before: all but a read
-- without `..`, whose group is joined with the one that follows it.
unfoldable pub takes_own_group : ExprTree → Bool
takes_own_group (read _ m indices) = has_every indices
takes_own_group _ = true

-- a function's name and its part in brackets
abbrev pub Call1 : String → Phrase → Phrase
Call1 word a = Says word followed_by Says "(" followed_by a followed_by Says ")"

-- a function's name and its two parts in brackets
abbrev pub Call2 : String → Phrase → Phrase → Phrase
Call2 word a b = Says word followed_by Says "(" followed_by a followed_by Says "," followed_by b followed_by Says ")"

-- a function's name and its three parts in brackets
abbrev pub Call3 : String → Phrase → Phrase → Phrase → Phrase
Call3 word a b c =
    Says word followed_by Says "(" followed_by a followed_by Says "," followed_by b followed_by Says "," followed_by c
    followed_by Says ")"

-- what stands before the index domains of a matrix domain
abbrev pub MatrixHead : Phrase
MatrixHead = Says "matrix" followed_by Says "indexed" followed_by Says "by" followed_by Says "["

-- what stands after the index domains of a matrix domain
abbrev pub MatrixTail : Phrase
MatrixTail = Says "]" followed_by Says "of"

-- What stands between two index domains. A matrix domain whose elements are written as a matrix domain has the index
-- domains of both.
abbrev pub BetweenDomains : Phrase
BetweenDomains = Says "," or_else MatrixTail followed_by MatrixHead

-- What stands between two indices before which there is no `..`. Such a bracket group is joined with the next.
abbrev pub BetweenIndices : Phrase
BetweenIndices = Says "," or_else Says "]" followed_by Says "["

-- two operands with an operator between them
abbrev pub Infix : String → Phrase → Phrase → Phrase
Infix word a b = a followed_by Says word followed_by b

unfoldable mutual
  -- The tokens spell an expression by the rule of its outermost form.
  pub SpellsNode : ExprTree → Phrase
  SpellsNode (number _ n) = Is (a_number n)
  SpellsNode (truth _ b) = Says (truth_word b)
  SpellsNode (named _ name) = Is (a_name name)
  SpellsNode (group _ e) = Says "(" followed_by Whole e (SpellsNode e) followed_by Says ")"
  SpellsNode (negation _ e) = Says "!" followed_by At unaries e (SpellsNode e)
  SpellsNode (minus _ e) = Says "-" followed_by At unaries e (SpellsNode e)
  SpellsNode (absolute _ e) = Says "|" followed_by Whole e (SpellsNode e) followed_by Says "|"
  SpellsNode (to_int _ e) = Call1 "toInt" (Whole e (SpellsNode e))
  SpellsNode (factorial _ e) = Call1 "factorial" (Whole e (SpellsNode e))
  SpellsNode (flatten _ m) = Call1 "flatten" (Whole m (SpellsNode m))
  SpellsNode (chain _ terms) = SpellsChain terms
  SpellsNode (binary _ op a b) =
      Choice (is_called op) (Call2 (binary_word op) (Whole a (SpellsNode a)) (Whole b (SpellsNode b)))
      (Infix (binary_word op) (Closed a (At (binary_level op) a (SpellsNode a)))
      (At (tighter (binary_level op)) b (SpellsNode b)))
  SpellsNode (compare _ op a b) =
      Infix (compare_word op) (Closed a (At sums a (SpellsNode a))) (At sums b (SpellsNode b))
  SpellsNode (lex _ op a b) = Infix (lex_word op) (Closed a (At sums a (SpellsNode a))) (At sums b (SpellsNode b))
  SpellsNode (in_domain _ e d) = Infix "in" (Closed e (At sums e (SpellsNode e))) (OfNumbers d (SpellsDomainNode d))
  SpellsNode (in_set _ e m) =
      Infix "in" (Closed e (At sums e (SpellsNode e))) (Call1 "toSet" (Whole m (SpellsNode m)))
  SpellsNode (all_of _ parts) = SpellsParts "/\\" comparisons parts
  SpellsNode (any_of _ parts) = SpellsParts "\\/" conjunctions parts
  SpellsNode (quantified _ op names d e) =
      Says (quantifier_word op) followed_by Names names followed_by Says ":"
      followed_by OfNumbers d (SpellsDomainNode d) followed_by Says "." followed_by Whole e (SpellsNode e)
  SpellsNode (literal _ parts d) =
      Says "[" followed_by SpellsList parts followed_by SpellsIndexDomain d followed_by Says "]"
  SpellsNode (comprehension _ e gens conditions d) =
      Says "[" followed_by Whole e (SpellsNode e) followed_by Says "|" followed_by SpellsGenerators gens
      followed_by SpellsMore conditions followed_by SpellsIndexDomain d followed_by Says "]"
  SpellsNode (read _ m indices) =
      When (takes_own_group m) (At reads m (SpellsNode m)) followed_by Says "[" followed_by SpellsIndices indices
      followed_by Says "]"
  SpellsNode (folded _ op m) = Call1 (fold_word op) (Whole m (SpellsNode m))
  SpellsNode (all_different _ m) = Call1 "allDiff" (Whole m (SpellsNode m))
  SpellsNode (gcc _ m values counts) =
      Call3 "gcc" (Whole m (SpellsNode m)) (Whole values (SpellsNode values)) (Whole counts (SpellsNode counts))
  SpellsNode (at_least _ m counts values) =
      Call3 "atleast" (Whole m (SpellsNode m)) (Whole counts (SpellsNode counts)) (Whole values (SpellsNode values))
  SpellsNode (at_most _ m counts values) =
      Call3 "atmost" (Whole m (SpellsNode m)) (Whole counts (SpellsNode counts)) (Whole values (SpellsNode values))
  SpellsNode (table _ row rows) = Call2 "table" (Whole row (SpellsNode row)) (Whole rows (SpellsNode rows))

  -- The tokens spell a domain by the rule of its outermost form.
  pub SpellsDomainNode : DomainTree → Phrase
  SpellsDomainNode (bool _) = Says "bool"
  SpellsDomainNode (int _) = Says "int"
  SpellsDomainNode (ranges _ rs) = Says "int" followed_by Says "(" followed_by SpellsRanges rs followed_by Says ")"
  SpellsDomainNode (named_domain _ name) = Is (a_name name)
  SpellsDomainNode (group_domain _ d) = Says "(" followed_by OfNumbers d (SpellsDomainNode d) followed_by Says ")"
  SpellsDomainNode (set_domain _ op c d) =
      Infix (set_word op) (OfNumbers c (SpellsDomainNode c)) (DomainAt set_parts d (SpellsDomainNode d))
  SpellsDomainNode (matrix_domain _ ds d) =
      MatrixHead followed_by SpellsIndexDomains ds followed_by MatrixTail
      followed_by OfNumbers d (SpellsDomainNode d)

  -- a chain of sums: two terms or more, the first without a sign
  pub SpellsChain : Terms → Phrase
  SpellsChain no_terms = Nothing
  SpellsChain (term_and plus e terms) =
      When (plus && has_terms terms) (Closed e (At products e (SpellsNode e)) followed_by SpellsTerms terms)

  -- the further terms of a chain, each with its sign before it
  pub SpellsTerms : Terms → Phrase
  SpellsTerms no_terms = Silence
  SpellsTerms (term_and plus e terms) =
      Says (sign_word plus) followed_by ClosedBefore (has_terms terms) e (At products e (SpellsNode e))
      followed_by SpellsTerms terms

  -- a chain of parts with a word between any two: two parts or more
  pub SpellsParts : String → Level → ExprTrees → Phrase
  SpellsParts word level no_trees = Nothing
  SpellsParts word level (tree_and e es) =
      When (has_trees es) (Closed e (At level e (SpellsNode e)) followed_by SpellsMoreParts word level es)

  -- the further parts of such a chain, each with the word before it
  pub SpellsMoreParts : String → Level → ExprTrees → Phrase
  SpellsMoreParts word level no_trees = Silence
  SpellsMoreParts word level (tree_and e es) =
      Says word followed_by ClosedBefore (has_trees es) e (At level e (SpellsNode e))
      followed_by SpellsMoreParts word level es

  -- expressions with commas between them, or none
  pub SpellsList : ExprTrees → Phrase
  SpellsList no_trees = Silence
  SpellsList (tree_and e es) = Whole e (SpellsNode e) followed_by SpellsMore es

  -- expressions with a comma before each, or none: the further parts of a list, and the conditions of a comprehension
  pub SpellsMore : ExprTrees → Phrase
  SpellsMore no_trees = Silence
  SpellsMore (tree_and e es) = Says "," followed_by Whole e (SpellsNode e) followed_by SpellsMore es

  -- the domain of a list's indices, behind a semicolon, or nothing
  pub SpellsIndexDomain : IndexDomain → Phrase
  SpellsIndexDomain unstated = Silence
  SpellsIndexDomain (over d) = Says ";" followed_by OfNumbers d (SpellsDomainNode d)

  -- the generators of a comprehension with commas between them, at least one
  pub SpellsGenerators : Generators → Phrase
  SpellsGenerators no_generators = Nothing
  SpellsGenerators (generator_and names d gens) =
      Names names followed_by Says ":" followed_by OfNumbers d (SpellsDomainNode d)
      followed_by SpellsMoreGenerators gens

  -- further generators with a comma before each
  pub SpellsMoreGenerators : Generators → Phrase
  SpellsMoreGenerators no_generators = Silence
  SpellsMoreGenerators (generator_and names d gens) =
      Says "," followed_by Names names followed_by Says ":" followed_by OfNumbers d (SpellsDomainNode d)
      followed_by SpellsMoreGenerators gens

  -- the indices of a read, at least one
  pub SpellsIndices : Indices → Phrase
  SpellsIndices no_indices = Nothing
  SpellsIndices (every_and indices) = Says ".." followed_by SpellsLastIndices indices
  SpellsIndices (index_and e indices) = Whole e (SpellsNode e) followed_by SpellsMoreIndices indices

  -- further indices, where no `..` stands before them
  pub SpellsMoreIndices : Indices → Phrase
  SpellsMoreIndices no_indices = Silence
  SpellsMoreIndices (every_and indices) =
      BetweenIndices followed_by Says ".." followed_by SpellsLastIndices indices
  SpellsMoreIndices (index_and e indices) =
      BetweenIndices followed_by Whole e (SpellsNode e) followed_by SpellsMoreIndices indices

  -- further indices, where a `..` stands before them
  pub SpellsLastIndices : Indices → Phrase
  SpellsLastIndices no_indices = Silence
  SpellsLastIndices (every_and indices) = Says "," followed_by Says ".." followed_by SpellsLastIndices indices
  SpellsLastIndices (index_and e indices) =
      Says "," followed_by Whole e (SpellsNode e) followed_by SpellsLastIndices indices

  -- ranges with commas between them, at least one
  pub SpellsRanges : Ranges → Phrase
  SpellsRanges no_ranges = Nothing
  SpellsRanges (one_and e rs) = Whole e (SpellsNode e) followed_by SpellsMoreRanges rs
  SpellsRanges (span_and a b rs) =
      SpellsEnd a followed_by Says ".." followed_by SpellsEnd b followed_by SpellsMoreRanges rs

  -- further ranges with a comma before each
  pub SpellsMoreRanges : Ranges → Phrase
  SpellsMoreRanges no_ranges = Silence
  SpellsMoreRanges (one_and e rs) = Says "," followed_by Whole e (SpellsNode e) followed_by SpellsMoreRanges rs
  SpellsMoreRanges (span_and a b rs) =
      Says "," followed_by SpellsEnd a followed_by Says ".." followed_by SpellsEnd b followed_by SpellsMoreRanges rs

  -- an end of a range, which may be left out
  pub SpellsEnd : End → Phrase
  SpellsEnd no_end = Silence
  SpellsEnd (end_at e) = Whole e (SpellsNode e)

  -- the index domains of a matrix domain, at least one
  pub SpellsIndexDomains : Domains → Phrase
  SpellsIndexDomains no_domains = Nothing
  SpellsIndexDomains (domain_and d ds) = OfNumbers d (SpellsDomainNode d) followed_by SpellsMoreIndexDomains ds

  -- further index domains
  pub SpellsMoreIndexDomains : Domains → Phrase
  SpellsMoreIndexDomains no_domains = Silence
  SpellsMoreIndexDomains (domain_and d ds) =
      BetweenDomains followed_by OfNumbers d (SpellsDomainNode d) followed_by SpellsMoreIndexDomains ds

-- The tokens spell an expression that stands where a level is asked for.
abbrev pub Spells : Level → ExprTree → Phrase
Spells asked e = At asked e (SpellsNode e)

-- The tokens spell a domain that stands where a level is asked for.
abbrev pub SpellsDomain : DomainLevel → DomainTree → Phrase
SpellsDomain asked d = DomainAt asked d (SpellsDomainNode d)
