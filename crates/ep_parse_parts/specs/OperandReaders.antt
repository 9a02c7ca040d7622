-- Reading operands: what a token begins, with readers of what is lower by one.
use Rattle.std.specs.List.{list_any}
use Rattle.std.specs.Prelude.{ℕ, Bool, true, false, ◌&&◌, List, [], ◌∷◌, Option, Some, None, bytes_eq, codes}
use Rattle.ep_base.specs.declared.names.Name.{Name}
use Rattle.ep_base.specs.declared.places.Place.{Place}
use Rattle.ep_parse_parts.specs.Readers.{Reader, behind, behind_comma, either_reader, high, says_word, kept, looked_up, names_from, others_from, says, took, word_from, wrong, ◌and_then◌}
use Rattle.ep_tree.specs.Phrases.{Lexeme, Saying, a_name, a_number, a_word}
use Rattle.ep_tree.specs.Spelling.{DomainLevel, Level, domains, implications, set_operations, unaries}
use Rattle.ep_tree.specs.Trees.{DomainTree, ExprTree, ExprTrees, Generators, IndexDomain, absolute, all_different, at_least, at_most, binary, comprehension, factorial, flatten, folded, gcc, generator_and, group, literal, minus, named, negation, no_generators, no_trees, number, over, quantified, table, to_int, tree_and, truth, unstated}
use Rattle.ep_tree.specs.declared.syntax.BinaryOp.{BinaryOp}
use Rattle.ep_tree.specs.declared.syntax.FoldOp.{FoldOp}
use Rattle.ep_tree.specs.declared.syntax.QuantOp.{QuantOp}

-- ---- what begins an expression

-- a function with one part
pub data OnePart : Type 0 where
  to_int_of : OnePart
  factorial_of : OnePart
  flatten_of : OnePart
  folded_by : FoldOp → OnePart
  all_different_in : OnePart

-- a function with three parts
pub data ThreeParts : Type 0 where
  counts_in : ThreeParts
  counts_at_least : ThreeParts
  counts_at_most : ThreeParts

-- what a word begins
pub data Opening : Type 0 where
  a_truth : Bool → Opening
  a_bracket : Opening
  a_group : Opening
  a_bar : Opening
  a_negation : Opening
  a_minus : Opening
  a_quantifier : QuantOp → Opening
  a_sum : Opening
  of_one : OnePart → Opening
  a_least : Opening
  a_greatest : Opening
  a_table : Opening
  of_three : ThreeParts → Opening

-- the words that begin an expression
abbrev pub openings : List (List ℕ × Opening)
openings =
    (codes "true", a_truth true) ∷ (codes "false", a_truth false) ∷ (codes "[", a_bracket) ∷ (codes "(", a_group)
    ∷ (codes "|", a_bar) ∷ (codes "!", a_negation) ∷ (codes "-", a_minus) ∷ (codes "forAll", a_quantifier QuantOp.ForAll)
    ∷ (codes "exists", a_quantifier QuantOp.Exists) ∷ (codes "sum", a_sum) ∷ (codes "toInt", of_one to_int_of)
    ∷ (codes "factorial", of_one factorial_of) ∷ (codes "flatten", of_one flatten_of)
    ∷ (codes "product", of_one (folded_by FoldOp.Product)) ∷ (codes "and", of_one (folded_by FoldOp.And))
    ∷ (codes "or", of_one (folded_by FoldOp.Or)) ∷ (codes "allDiff", of_one all_different_in)
    ∷ (codes "min", a_least) ∷ (codes "max", a_greatest)
    ∷ (codes "table", a_table) ∷ (codes "gcc", of_three counts_in) ∷ (codes "atleast", of_three counts_at_least)
    ∷ (codes "atmost", of_three counts_at_most) ∷ []

-- whether there is something
abbrev pub is_there : {A : Type 0} → Option A → Bool
is_there None = false
is_there (Some x) = true

-- whether a token begins an expression
abbrev pub opens : Saying → Bool
opens (a_name x) = true
opens (a_number n) = true
opens (a_word w) = is_there (looked_up openings w)

-- whether an expression begins with the next token
unfoldable pub expression_next : List Lexeme → Bool
expression_next [] = false
expression_next (l ∷ ls) = opens l.saying

-- whether a domain begins with a token
abbrev pub opens_domain : DomainLevel → Saying → Bool
opens_domain level (a_name x) = true
opens_domain level (a_number n) = false
opens_domain domains (a_word w) = list_any (bytes_eq w) (codes "bool" ∷ codes "int" ∷ codes "(" ∷ codes "matrix" ∷ [])
opens_domain level (a_word w) = list_any (bytes_eq w) (codes "bool" ∷ codes "int" ∷ codes "(" ∷ [])

-- whether a domain begins with the next token
unfoldable pub domain_next : DomainLevel → List Lexeme → Bool
domain_next level [] = false
domain_next level (l ∷ ls) = opens_domain level l.saying

-- Nothing is low enough: what begins is too high, and what doesn't is wrong.
abbrev pub none_low : {A : Type 0} → Bool → Reader A
none_low begins = either_reader begins (λ ls. high ls) (λ ls. wrong ls)

-- a reader where the height is enough for one part, else the next token is too high
abbrev pub if_low : {A : Type 0} → Bool → Reader A → Reader A
if_low low reader = either_reader low reader (λ ls. high ls)

-- ---- the parts of expressions

-- readers of what is lower by one than what is read
pub record Lower : Type 0 where
  pub expr : Level → Reader ExprTree
  pub domain : DomainLevel → Reader DomainTree

-- expressions as the parts of a node
unfoldable pub as_trees : List ExprTree → ExprTrees
as_trees [] = no_trees
as_trees (e ∷ es) = tree_and e (as_trees es)

-- an expression in brackets behind a word
abbrev pub in_brackets : {A : Type 0} → Lower → (ExprTree → Reader A) → Reader A
in_brackets low go_on ls = word_from (codes "(") ls and_then λ _ rest. low.expr implications rest and_then go_on

-- what closes a node
abbrev pub closed_by : List ℕ → ExprTree → Reader ExprTree
closed_by bytes e ls = word_from bytes ls and_then λ _ rest. took e rest

-- a further part of a function behind a comma
abbrev pub and_part : Lower → (ExprTree → Reader ExprTree) → Reader ExprTree
and_part low go_on ls = word_from (codes ",") ls and_then λ _ rest. low.expr implications rest and_then go_on

-- a function of one part
abbrev pub one_part : OnePart → Place → ExprTree → ExprTree
one_part to_int_of p e = to_int p e
one_part factorial_of p e = factorial p e
one_part flatten_of p e = flatten p e
one_part (folded_by op) p e = folded p op e
one_part all_different_in p e = all_different p e

-- a function of three parts
abbrev pub three_parts : ThreeParts → Place → ExprTree → ExprTree → ExprTree → ExprTree
three_parts counts_in p a b c = gcc p a b c
three_parts counts_at_least p a b c = at_least p a b c
three_parts counts_at_most p a b c = at_most p a b c

-- ---- lists in square brackets

-- the domain of indices behind a semicolon, where there is one
unfoldable pub index_domain_from : Bool → Lower → Reader IndexDomain
index_domain_from low_enough low ls =
    either_reader (says (codes ";") ls)
    (if_low low_enough (λ all. low.domain set_operations (behind all) and_then λ d rest. took (over d) rest))
    (λ all. took unstated all) ls

-- the end of a list: the domain of its indices and the bracket
abbrev pub list_end : Bool → Lower → (IndexDomain → ExprTree) → Reader ExprTree
list_end low_enough low make ls = index_domain_from low_enough low ls and_then λ d rest. closed_by (codes "]") (make d) rest

-- the names and the domain of a generator
abbrev pub Generator : Type 0
Generator = List Name × DomainTree

-- generators as those of a comprehension
unfoldable pub as_generators : List Generator → Generators
as_generators [] = no_generators
as_generators (g ∷ gens) = generator_and g.0 g.1 (as_generators gens)

-- a generator
unfoldable pub generator_from : Lower → Reader Generator
generator_from low ls =
    names_from ls and_then λ names rest. word_from (codes ":") rest and_then λ _ next.
    low.domain set_operations next and_then λ d end. took (names, d) end

-- whether a token is a name
abbrev pub says_name : Saying → Bool
says_name (a_name x) = true
says_name (a_number n) = false
says_name (a_word w) = false

-- whether a colon comes behind a name: here, or behind a comma where one comes behind further names
abbrev pub colon_or : Bool → Bool → Bool → Bool
colon_or true comma more = true
colon_or false true more = more
colon_or false false more = false

-- Whether names with commas between them and then a colon are next: at first a name, else what stands behind one.
unfoldable pub colon_comes : Bool → List Lexeme → Bool
colon_comes name_wanted [] = false
colon_comes true (l ∷ ls) = says_name l.saying && colon_comes false ls
colon_comes false (l ∷ ls) = colon_or (says_word (codes ":") l.saying) (says_word (codes ",") l.saying) (colon_comes true ls)

-- generators go on behind a comma, where one is next there
unfoldable pub another_generator : Generator → List Lexeme → Option (List Lexeme)
another_generator last ls = kept (says (codes ",") ls && colon_comes true (behind ls)) (behind ls)

-- conditions, each behind a comma
unfoldable pub conditions_from : Lower → Reader (List ExprTree)
conditions_from low ls = others_from behind_comma (λ last. low.expr implications) (truth (record { line = 0; column = 0 }) true) ls

-- a comprehension behind its bar
unfoldable pub comprehension_from : Bool → Lower → Place → ExprTree → Reader ExprTree
comprehension_from low_enough low p e ls =
    generator_from low ls and_then λ g rest.
    others_from another_generator (λ last. generator_from low) g rest and_then λ gens next.
    conditions_from low next and_then λ conditions end.
    list_end low_enough low (comprehension p e (as_generators (g ∷ gens)) (as_trees conditions)) end

-- a list behind its first expression
unfoldable pub literal_from : Bool → Lower → Place → ExprTree → Reader ExprTree
literal_from low_enough low p e ls =
    others_from behind_comma (λ last. low.expr implications) e ls and_then λ es rest.
    list_end low_enough low (literal p (as_trees (e ∷ es))) rest

-- a list or a comprehension behind its bracket
unfoldable pub bracket_from : Bool → Lower → Place → Reader ExprTree
bracket_from low_enough low p ls =
    either_reader (expression_next ls)
    (λ all. low.expr implications all and_then λ e rest.
    either_reader (says (codes "|") rest) (λ next. comprehension_from low_enough low p e (behind next)) (literal_from low_enough low p e) rest)
    (list_end low_enough low (literal p no_trees)) ls

-- ---- nodes that a word opens

-- a quantifier behind its word
unfoldable pub quantifier_from : Lower → QuantOp → Place → Reader ExprTree
quantifier_from low op p ls =
    names_from ls and_then λ names rest. word_from (codes ":") rest and_then λ _ next.
    low.domain set_operations next and_then λ d end. word_from (codes ".") end and_then λ _ body.
    low.expr implications body and_then λ e after. took (quantified p op names d e) after

-- a function of one part behind its name
unfoldable pub call_from : Lower → (ExprTree → ExprTree) → Reader ExprTree
call_from low make ls = in_brackets low (λ e. closed_by (codes ")") (make e)) ls

-- a function of one part or two behind its name
unfoldable pub call_of_two_from : Lower → FoldOp → BinaryOp → Place → Reader ExprTree
call_of_two_from low one two p ls =
    in_brackets low
    (λ a rest. either_reader (says (codes ",") rest) (and_part low (λ b. closed_by (codes ")") (binary p two a b)))
    (closed_by (codes ")") (folded p one a)) rest) ls

-- a table behind its name
unfoldable pub table_from : Lower → Place → Reader ExprTree
table_from low p ls = in_brackets low (λ row. and_part low (λ rows. closed_by (codes ")") (table p row rows))) ls

-- a function of three parts behind its name
unfoldable pub call_of_three_from : Lower → ThreeParts → Place → Reader ExprTree
call_of_three_from low what p ls =
    in_brackets low (λ a. and_part low (λ b. and_part low (λ c. closed_by (codes ")") (three_parts what p a b c)))) ls

-- a sum over a domain or of a matrix, behind its word
unfoldable pub sum_from : Lower → Place → Reader ExprTree
sum_from low p ls =
    either_reader (says (codes "(") ls) (call_from low (folded p FoldOp.Sum)) (quantifier_from low QuantOp.Sum p) ls

-- a node with a part, behind the word that opens it
unfoldable pub opened_from : Lower → Place → Opening → Reader ExprTree
opened_from low p (a_truth b) ls = took (truth p b) ls
opened_from low p a_bracket ls = bracket_from true low p ls
opened_from low p a_group ls = low.expr implications ls and_then λ e. closed_by (codes ")") (group p e)
opened_from low p a_bar ls = low.expr implications ls and_then λ e. closed_by (codes "|") (absolute p e)
opened_from low p a_negation ls = low.expr unaries ls and_then λ e rest. took (negation p e) rest
opened_from low p a_minus ls = low.expr unaries ls and_then λ e rest. took (minus p e) rest
opened_from low p (a_quantifier op) ls = quantifier_from low op p ls
opened_from low p a_sum ls = sum_from low p ls
opened_from low p (of_one what) ls = call_from low (one_part what p) ls
opened_from low p a_least ls = call_of_two_from low FoldOp.Min BinaryOp.Min p ls
opened_from low p a_greatest ls = call_of_two_from low FoldOp.Max BinaryOp.Max p ls
opened_from low p a_table ls = table_from low p ls
opened_from low p (of_three what) ls = call_of_three_from low what p ls

-- what a word opens, with the word and what is behind it; only a truth value and an empty list have no part
unfoldable pub open_from : Bool → Lower → Place → Option Opening → List Lexeme → Reader ExprTree
open_from low_enough low p None rest all = wrong all
open_from low_enough low p (Some (a_truth b)) rest all = took (truth p b) rest
open_from low_enough low p (Some a_bracket) rest all = bracket_from low_enough low p rest
open_from low_enough low p (Some what) rest all = if_low low_enough (λ _. opened_from low p what rest) all

-- what a token begins
unfoldable pub begun_from : Bool → Lower → Place → Saying → List Lexeme → Reader ExprTree
begun_from low_enough low p (a_name x) rest all = took (named p x) rest
begun_from low_enough low p (a_number n) rest all = took (number p n) rest
begun_from low_enough low p (a_word w) rest all = open_from low_enough low p (looked_up openings w) rest all

-- an operand without indices behind it
unfoldable pub operand_from : Bool → Lower → Reader ExprTree
operand_from low_enough low [] = wrong []
operand_from low_enough low (l ∷ ls) = begun_from low_enough low l.place l.saying ls (l ∷ ls)
