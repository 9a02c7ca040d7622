-- What the code's words, levels and tables are in the readers of lists.
use Rattle.std.specs.Prelude.{Bool, List, [], ◌∷◌, ℕ, true, false, codes}
use Rattle.ep_tree.specs.declared.syntax.BinaryOp.{BinaryOp}
use Rattle.ep_parse_parts.specs.OperandReaders as readers
use Rattle.ep_parse_parts.specs.OperatorReaders as operators
use Rattle.ep_parse_parts.specs.DomainReaders as domain_readers
use Rattle.ep_parse_parts.specs.declared.words.Opening.{Opening}
use Rattle.ep_parse_parts.specs.declared.words.Opening.TheVariants as opening
use Rattle.ep_parse_parts.specs.declared.words.OnePart.{OnePart}
use Rattle.ep_parse_parts.specs.declared.words.OnePart.TheVariants as one
use Rattle.ep_parse_parts.specs.declared.words.ThreeParts.{ThreeParts}
use Rattle.ep_parse_parts.specs.declared.words.ThreeParts.TheVariants as three
use Rattle.ep_parse_parts.specs.declared.words.Chain.{Chain}
use Rattle.ep_parse_parts.specs.declared.words.Chain.TheVariants as code_chain
use Rattle.ep_parse_parts.specs.declared.words.Comparison.{Comparison}
use Rattle.ep_parse_parts.specs.declared.words.Comparison.TheVariants as comparison
use Rattle.ep_parse_parts.specs.declared.words.DomainOpening.{DomainOpening}
use Rattle.ep_parse_parts.specs.declared.words.DomainOpening.TheVariants as domain_opening
use Rattle.ep_parse_parts.specs.declared.words.Level.{Level}
use Rattle.ep_parse_parts.specs.declared.words.Level.TheVariants as level
use Rattle.ep_parse_parts.specs.declared.words.DomainLevel.{DomainLevel}
use Rattle.ep_parse_parts.specs.declared.words.DomainLevel.TheVariants as domain_level
use Rattle.ep_tree.specs.Spelling as spelling
use Rattle.ep_tree.specs.declared.syntax.FoldOp.{FoldOp}
use Rattle.ep_tree.specs.declared.syntax.QuantOp.{QuantOp}

-- a level of the code
abbrev pub level_of : Level → spelling.Level
level_of level.Implications = spelling.implications
level_of level.Disjunctions = spelling.disjunctions
level_of level.Conjunctions = spelling.conjunctions
level_of level.Comparisons = spelling.comparisons
level_of level.Sums = spelling.sums
level_of level.Products = spelling.products
level_of level.Powers = spelling.powers
level_of level.Unaries = spelling.unaries

-- a level of domains
abbrev pub domain_level_of : DomainLevel → spelling.DomainLevel
domain_level_of domain_level.Domains = spelling.domains
domain_level_of domain_level.SetOperations = spelling.set_operations
domain_level_of domain_level.SetParts = spelling.set_parts

-- a function of one part
abbrev pub one_part_of : OnePart → readers.OnePart
one_part_of one.ToInt = readers.to_int_of
one_part_of one.Factorial = readers.factorial_of
one_part_of one.Flatten = readers.flatten_of
one_part_of (one.Fold op) = readers.folded_by op
one_part_of one.AllDiff = readers.all_different_in

-- a function of three parts
abbrev pub three_parts_of : ThreeParts → readers.ThreeParts
three_parts_of three.Gcc = readers.counts_in
three_parts_of three.AtLeast = readers.counts_at_least
three_parts_of three.AtMost = readers.counts_at_most

-- what a word begins
abbrev pub opening_of : Opening → readers.Opening
opening_of (opening.Truth b) = readers.a_truth b
opening_of opening.Bracket = readers.a_bracket
opening_of opening.Group = readers.a_group
opening_of opening.Bar = readers.a_bar
opening_of opening.Negation = readers.a_negation
opening_of opening.Minus = readers.a_minus
opening_of (opening.Quantifier op) = readers.a_quantifier op
opening_of opening.Sum = readers.a_sum
opening_of (opening.One what) = readers.of_one (one_part_of what)
opening_of opening.Least = readers.a_least
opening_of opening.Greatest = readers.a_greatest
opening_of opening.Table = readers.a_table
opening_of (opening.Three what) = readers.of_three (three_parts_of what)

-- what an operator of comparisons does
abbrev pub comparison_of : Comparison → operators.Comparison
comparison_of (comparison.Numbers op) = operators.of_numbers op
comparison_of (comparison.Lists op) = operators.of_lists op
comparison_of comparison.Set = operators.of_set

-- what a word begins in a domain
abbrev pub domain_opening_of : DomainOpening → domain_readers.DomainOpening
domain_opening_of domain_opening.Bool = domain_readers.a_bool
domain_opening_of domain_opening.Int = domain_readers.an_int
domain_opening_of domain_opening.Group = domain_readers.a_domain_group

-- the words that begin an expression, in three parts: truth values and symbols, then quantifiers and functions, then
-- further functions
abbrev pub symbol_openings : List (List ℕ × readers.Opening)
symbol_openings =
    (codes "true", readers.a_truth true) ∷ (codes "false", readers.a_truth false) ∷ (codes "[", readers.a_bracket)
    ∷ (codes "(", readers.a_group) ∷ (codes "|", readers.a_bar) ∷ (codes "!", readers.a_negation)
    ∷ (codes "-", readers.a_minus) ∷ []

abbrev pub function_openings : List (List ℕ × readers.Opening)
function_openings =
    (codes "forAll", readers.a_quantifier QuantOp.ForAll) ∷ (codes "exists", readers.a_quantifier QuantOp.Exists)
    ∷ (codes "sum", readers.a_sum) ∷ (codes "toInt", readers.of_one readers.to_int_of)
    ∷ (codes "factorial", readers.of_one readers.factorial_of) ∷ (codes "flatten", readers.of_one readers.flatten_of)
    ∷ (codes "product", readers.of_one (readers.folded_by FoldOp.Product)) ∷ []

abbrev pub call_openings : List (List ℕ × readers.Opening)
call_openings =
    (codes "and", readers.of_one (readers.folded_by FoldOp.And)) ∷ (codes "or", readers.of_one (readers.folded_by FoldOp.Or))
    ∷ (codes "allDiff", readers.of_one readers.all_different_in) ∷ (codes "min", readers.a_least)
    ∷ (codes "max", readers.a_greatest) ∷ (codes "table", readers.a_table) ∷ (codes "gcc", readers.of_three readers.counts_in)
    ∷ (codes "atleast", readers.of_three readers.counts_at_least) ∷ (codes "atmost", readers.of_three readers.counts_at_most)
    ∷ []

-- the operator that picks the lesser or the greater of two parts
abbrev pub extreme_of : Bool → BinaryOp
extreme_of true = BinaryOp.Min
extreme_of false = BinaryOp.Max

-- the operators of a chain
abbrev pub words_of : Chain → List (List ℕ × BinaryOp)
words_of code_chain.Powers = operators.power_words
words_of code_chain.Products = operators.product_words
words_of code_chain.Arrows = operators.implication_words

-- the level of a right part
abbrev pub right_of : Chain → spelling.Level
right_of code_chain.Powers = spelling.unaries
right_of code_chain.Products = spelling.powers
right_of code_chain.Arrows = spelling.disjunctions

-- the function that picks the least or the greatest part of a matrix
abbrev pub fold_of : Bool → FoldOp
fold_of true = FoldOp.Min
fold_of false = FoldOp.Max
